-- How the parts of a view come on.
use Rattle.std.proofs.Common.{ℕ, refl, sym, ◌∙◌, subst, arith}
use mathlib.Core.Logic.{dite}
use native.Mathlib.Decide.{ℕ_discrete}
use Rattle.round_words.specs.declared.view.Part.{Part}
use Rattle.round_words.specs.declared.view.View.{View}
use Rattle.round_words.specs.Changes.{ChangesOnly}
use Rattle.round_words.specs.Views.{part}
use Rattle.crew_turns.specs.Going.{GoesOnTo, IsSameBoard, PartsGoOn, SameActors}

pub actors_none : (v : View) → SameActors v v
actors_none v = record { started = refl; lag = refl; cores = refl; events = refl; actors = λ a. refl }

pub actors_twice : (u v w : View) → SameActors u v → SameActors v w → SameActors u w
actors_twice u v w x y = record { started = y.started ∙ x.started; lag = y.lag ∙ x.lag; cores = y.cores ∙ x.cores; events = y.events ∙ x.events; actors = λ a. y.actors a ∙ x.actors a }

pub actors_step : (v w : View) (c : ℕ) → ChangesOnly v w c → SameActors v w
actors_step v w c o = record { started = o.started; lag = o.lag; cores = o.cores; events = o.events; actors = λ a. o.actors a }

pub board_of : (v w : View) → SameActors v w → IsSameBoard v w
board_of v w s = record { started = s.started; lag = s.lag; cores = s.cores; events = s.events }

pub board_step : (v w : View) (c : ℕ) → ChangesOnly v w c → IsSameBoard v w
board_step v w c o = record { started = o.started; lag = o.lag; cores = o.cores; events = o.events }

pub on_none : (p : Part) → GoesOnTo p p
on_none p = record { clock = omega arith; sights = λ _. omega arith; heard = λ d. omega arith }

pub on_more : (p q r : Part) → GoesOnTo p q → GoesOnTo q r → GoesOnTo p r
on_more p q r on more = record {
  clock = omega (arith, on.clock, more.clock);
  sights = λ e. omega (arith, on.sights (omega (arith, on.clock, more.clock, e)), more.sights (omega (arith, on.clock, more.clock, e)));
  heard = λ d. omega (arith, on.heard d, more.heard d);
}

pub parts_none : (v : View) → PartsGoOn v v
parts_none v a = on_none (part v a)

pub parts_more : (u v w : View) → PartsGoOn u v → PartsGoOn v w → PartsGoOn u w
parts_more u v w on more a = on_more (part u a) (part v a) (part w a) (on a) (more a)

pub parts_changed : (v w : View) (c : ℕ) → ChangesOnly v w c → GoesOnTo (part v c) (part w c) → PartsGoOn v w
parts_changed v w c changes on a = dite (ℕ_discrete a c)
    (λ e. subst (λ (i : ℕ). GoesOnTo (part v i) (part w i)) (sym e) on)
    (λ ne. subst (GoesOnTo (part v a)) (sym (changes.parts a ne)) (on_none (part v a)))
