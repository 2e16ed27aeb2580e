-- How an actor's part comes on.
use Rattle.std.proofs.Common.{ℕ, zero, suc, ◌≤◌, List, [], ◌∷◌, ◌++◌, length, sym, ap, subst, arith}
use Rattle.std.specs.Prelude.{slice_index_or}
use Rattle.round_words.specs.declared.view.Part.{Part}
use Rattle.round_words.specs.Hearing.{HearsCore, HearsCores}
use Rattle.round_words.specs.Hearing.HearsCore.{itself, well_known, asked}
use Rattle.round_words.specs.Views.{heard_of, hears, posts, sees}
use Rattle.round_words.proofs.ListLemmas.{each_set, length_push}
use Rattle.crew_turns.specs.Going.{GoesOnTo}
use Rattle.crew_turns.proofs.GoingLemmas.{on_more, on_none}
use Rattle.dispatch_core.specs.Told.{ComesToEnter}
use Rattle.dispatch_core.proofs.PartLemmas.{entered_same}

-- after what an actor saw, heard, posted or entered
pub on_sees : (p : Part) (count : ℕ) → GoesOnTo p (sees p count)
on_sees p count = record { clock = omega arith; sights = λ _. omega (arith, length_push p.sights count); heard = λ d. omega arith }

pub on_hears : (p : Part) (d clock : ℕ) → GoesOnTo p (hears p d clock)
on_hears p d clock = record {
  clock = omega arith;
  sights = λ _. omega arith;
  heard = λ k. each_set (λ l. length (heard_of p k) ≤ length l) p.heard d k (heard_of p d ++ clock ∷ []) []
      (λ e. omega (arith, length_push (heard_of p d) clock, ap (λ (i : ℕ). length (heard_of p i)) e))
      (omega arith);
}

pub on_posts : (p : Part) (floor : ℕ) → GoesOnTo p (posts p floor)
on_posts p floor = record { clock = omega arith; sights = λ _. omega arith; heard = λ d. omega arith }

on_core : (c lag tick d : ℕ) (p q : Part) → HearsCore c lag tick d p q → GoesOnTo p q
on_core c lag tick d p q (itself me is) = subst (GoesOnTo p) (sym is) (on_none p)
on_core c lag tick d p q (well_known away enough is) = subst (GoesOnTo p) (sym is) (on_none p)
on_core c lag tick d p q (asked away low clock enough is) = subst (GoesOnTo p) (sym is) (on_hears p d clock)

pub on_cores : (c lag tick n : ℕ) (p q : Part) → HearsCores c lag tick n p q → GoesOnTo p q
on_cores c lag tick zero p q h = subst (GoesOnTo p) (sym h) (on_none p)
on_cores c lag tick (suc d) p q h = on_more p h.0 q (on_cores c lag tick d p h.0 h.1) (on_core c lag tick d h.0 q h.2)

pub on_entered : (p q : Part) → ComesToEnter p q → GoesOnTo p q
on_entered p q enters = let same = entered_same p q enters in record {
  clock = omega (arith, same.clock);
  sights = λ _. omega (arith, ap length same.sights);
  heard = λ d. omega (arith, ap (λ (h : List (List ℕ)). length (slice_index_or h d [])) same.heard);
}
