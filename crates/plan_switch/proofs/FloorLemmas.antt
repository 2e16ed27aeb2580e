-- The floors of the first events, along a step of the controller.
use Rattle.std.proofs.Common.{◌≡◌, ℕ, ◌+◌, ◌<◌, inl, inr, true, List, [], ◌∷◌, ◌++◌, length, refl, sym, ap, ◌∙◌, subst, arith}
use Rattle.std.specs.Prelude.{slice_index}
use Rattle.std.proofs.lemmas.Bool.{cases_lt}
use Rattle.table_form.specs.Running.Outlines.{OutlineView}
use Rattle.round_words.specs.declared.view.Part.{Part}
use Rattle.round_words.specs.declared.view.View.{View}
use Rattle.round_words.specs.Changes.{ChangesOnly}
use Rattle.round_words.specs.Hearing.{KnowsClocks}
use Rattle.round_words.specs.Views.{IsStarted, controller, holds, last_of, part, posts}
use Rattle.round_words.proofs.ChangesLemmas.{started_still}
use Rattle.round_words.proofs.ListLemmas.{index_append, length_push}
use Rattle.plan_switch.specs.declared.state.ControlState.{ControlState}
use Rattle.plan_switch.specs.Controllers.{AreFloorsOf, HasPosted, IsNewControlPart, floor_of}

-- a number after a list
index_new : (xs : List ℕ) (x : ℕ) → slice_index (xs ++ x ∷ []) (length xs) ≡ x
index_new [] x = refl
index_new (y ∷ ys) x = index_new ys x

-- a new controller agrees with a part to which nothing has happened
pub posted_new : (o : OutlineView) (s : ControlState) (v : View) → s.posted ≡ 0 → ((d : ℕ) → slice_index s.known d ≡ 0)
    → IsStarted o.lag o.cores (length o.ticks) v → holds v controller ≡ true → IsNewControlPart (part v controller) → HasPosted o s v
posted_new o s v none unknown of has new = record {
  of_outline = of;
  holds_it = has;
  posted = omega (arith, none, ap length new.floors);
  floors = record {
    few = omega (arith, ap length new.floors);
    each = λ i lt. absurd (omega (arith, lt, ap length new.floors));
  };
  known = λ d. unknown d ∙ sym (ap last_of (new.heard d));
}

-- the controller heard some cores
pub posted_heard : (o : OutlineView) (s t : ControlState) (v x : View) → HasPosted o s v → ChangesOnly v x controller
    → (part x controller).floors ≡ (part v controller).floors → t.posted ≡ s.posted → KnowsClocks t.known (part x controller)
    → HasPosted o t x
posted_heard o s t v x agrees others same count known = record {
  of_outline = started_still o.lag o.cores (length o.ticks) v x controller others agrees.of_outline;
  holds_it = others.actors controller ∙ agrees.holds_it;
  posted = count ∙ (agrees.posted ∙ ap length (sym same));
  floors = rw same agrees.floors;
  known = known;
}

-- the floors with that of the next event
floors_more : (o : OutlineView) (xs : List ℕ) → AreFloorsOf o xs → length xs < length o.ticks
    → AreFloorsOf o (xs ++ floor_of o (length xs) ∷ [])
floors_more o xs old less = record {
  few = omega (arith, less, length_push xs (floor_of o (length xs)));
  each = λ i lt. elim (cases_lt i (length xs)) [
    | inl before ↦ index_append xs (floor_of o (length xs)) i before ∙ old.each i before
    | inr le ↦ (let is : length xs ≡ i = omega (arith, lt, le, length_push xs (floor_of o (length xs))) in
        subst (λ (j : ℕ). slice_index (xs ++ floor_of o (length xs) ∷ []) j ≡ floor_of o j) is (index_new xs (floor_of o (length xs))))
  ];
}

-- the controller posted the next event
pub posted_more : (o : OutlineView) (s t : ControlState) (floor : ℕ) (v w : View) → HasPosted o s v → ChangesOnly v w controller
    → part w controller ≡ posts (part v controller) floor → floor ≡ floor_of o s.posted → s.posted < length o.ticks
    → t.posted ≡ s.posted + 1 → t.known ≡ s.known → HasPosted o t w
posted_more o s t floor v w agrees others is floor_is less count known =
    let xs : List ℕ = (part v controller).floors in
    let floors : (part w controller).floors ≡ xs ++ floor_of o (length xs) ∷ [] =
    ap (λ (p : Part). p.floors) is ∙ ap (λ (f : ℕ). xs ++ f ∷ []) (floor_is ∙ ap (floor_of o) agrees.posted) in record {
      of_outline = started_still o.lag o.cores (length o.ticks) v w controller others agrees.of_outline;
      holds_it = others.actors controller ∙ agrees.holds_it;
      posted = omega (arith, ap length floors, length_push xs (floor_of o (length xs)), agrees.posted, count);
      floors = rw floors (floors_more o xs agrees.floors (omega (arith, less, agrees.posted)));
      known = rw (known, is) (λ d. agrees.known d);
    }
