-- What a change of one part leaves, step after step.
use Rattle.std.proofs.Common.{◌≡◌, ℕ, true, ◌<◌, sym, ap, ◌∙◌, subst, refl}
use mathlib.Core.Logic.{dite}
use native.Mathlib.Decide.{ℕ_discrete}
use Rattle.round_words.specs.declared.view.Part.{Part}
use Rattle.round_words.specs.declared.view.View.{View}
use Rattle.round_words.specs.Changes.{ChangesOnly}
use Rattle.round_words.specs.Shown.{HoldsCore}
use Rattle.round_words.specs.Views.{holds, part, with_part, IsStarted}
use Rattle.round_words.proofs.ViewsLemmas.{with_here, with_else}

-- a new part in place of one that the view holds
pub changes_with : (v w : View) (c : ℕ) (p : Part) → holds v c ≡ true → w ≡ with_part v c p
    → ChangesOnly v w c
changes_with v w c p has is = subst (λ (x : View). ChangesOnly v x c) (sym is) (record {
  started = refl;
  lag = refl;
  cores = refl;
  events = refl;
  actors = λ a. dite (ℕ_discrete a c)
      (λ e. subst (λ (b : ℕ). holds (with_part v c p) b ≡ holds v b) (sym e)
      ((with_here v c p has).0 ∙ sym has))
      (λ away. (with_else v c a p away).0);
  parts = λ a away. (with_else v c a p away).1;
})

-- the part that was put there
pub part_with : (v w : View) (c : ℕ) (p : Part) → holds v c ≡ true → w ≡ with_part v c p → part w c ≡ p
part_with v w c p has is = ap (λ (x : View). part x c) is ∙ (with_here v c p has).1

-- one change after another, of the same actor
pub changes_more : (u v w : View) (c : ℕ) → ChangesOnly u v c → ChangesOnly v w c → ChangesOnly u w c
changes_more u v w c x y = record {
  started = y.started ∙ x.started;
  lag = y.lag ∙ x.lag;
  cores = y.cores ∙ x.cores;
  events = y.events ∙ x.events;
  actors = λ a. y.actors a ∙ x.actors a;
  parts = λ a away. y.parts a away ∙ x.parts a away;
}

-- no change
pub changes_none : (v : View) (c : ℕ) → ChangesOnly v v c
changes_none v c = record {
  started = refl;
  lag = refl;
  cores = refl;
  events = refl;
  actors = λ a. refl;
  parts = λ a away. refl;
}

-- no change, of an equal view
pub changes_same : (v w : View) (c : ℕ) → w ≡ v → ChangesOnly v w c
changes_same v w c is = subst (λ (x : View). ChangesOnly v x c) (sym is) (changes_none v c)

-- a core stays held
pub core_still : (v w : View) (a c : ℕ) → ChangesOnly v w a → HoldsCore v c → HoldsCore w c
core_still v w a c o core = (subst (λ (n : ℕ). c < n) (sym o.cores) core.0, o.actors c ∙ core.1)

-- the settings stay
pub started_still : (lag cores events : ℕ) (v w : View) (a : ℕ) → ChangesOnly v w a
    → IsStarted lag cores events v → IsStarted lag cores events w
started_still lag cores events v w a o is = record {
  started = o.started ∙ is.started;
  lag_is = o.lag ∙ is.lag_is;
  cores_are = o.cores ∙ is.cores_are;
  events_are = o.events ∙ is.events_are;
}
