-- A sweep over the segments of a row, from one end to the next.
use Rattle.std.proofs.Common.{◌≡◌, ℕ, zero, suc, ◌+◌, ◌-◌, ◌<◌, ◌≤◌, ◌==◌, if◌then◌else◌, List, ◌++◌, length, get_or, drop, replicate, Option, Some, refl, ap, subst, sym, ◌∙◌, inl, inr, arith, drop-drop, length-drop}
use Rattle.std.specs.Prelude.{slice_get}
use Rattle.std.proofs.lemmas.Bool.{cases_lt, cases_eq, eq-eqb, ne_eqb}
use Rattle.std.proofs.lemmas.List.{nil_from_length}
use Rattle.tab_core.specs.declared.TheConstants.{ROUND}
use Rattle.tab_core.proofs.Lists.{drop_next, get-drop}
use Rattle.table_form.specs.declared.segment.Segment.{Segment}
use Rattle.table_form.specs.Tables.Rows.{Row, cells_from, RisesTo}
use Rattle.table_form.proofs.RowLemmas.{rises_parts, rises_from_parts, rises_none, cells-cons, length-cells_from, cell_here}

-- from the tick on, the row's cells are those of the segments from the place on
pub record GoesOnFrom (ss : List Segment) (tick place : ℕ) : Type 0 where
  pub rises : RisesTo tick (drop place ss) ROUND
  pub cells : drop tick (cells_from 0 ss) ≡ cells_from tick (drop place ss)

-- dropping less than a run leaves the rest of it
drop_front : (m n : ℕ) (o : Option ℕ) (cells : Row) → m ≤ n
    → drop m (replicate n o ++ cells) ≡ replicate (n - m) o ++ cells
drop_front zero n o cells le = (let e : n ≡ n - 0 = omega arith in ap (λ k. replicate k o ++ cells) e)
drop_front (suc m) zero o cells le = absurd (omega arith)
drop_front (suc m) (suc n) o cells le =
    (let e : suc n - suc m ≡ n - m = omega arith in rw e (drop_front m n o cells (omega arith)))

-- the sweep begins at the first segment
pub goes_on-start : (ss : List Segment) → RisesTo 0 ss ROUND → GoesOnFrom ss 0 0
goes_on-start ss rises = record { rises = rises; cells = refl }

-- before the round's end there is a segment
pub some_left : (ss : List Segment) (tick place : ℕ) → GoesOnFrom ss tick place → tick < ROUND
    → place < length ss
some_left ss tick place on lt = elim (cases_lt place (length ss)) [
  | inl less ↦ less
  | inr past ↦ absurd (
      let none = nil_from_length (drop place ss) (omega (arith, length-drop place ss)) in
      let at_end = rises_none tick ROUND (subst (λ xs. RisesTo tick xs ROUND) none on.rises) in
      omega arith)
]

-- after the last segment is the round's end
pub at_end : (ss : List Segment) (tick place : ℕ) → GoesOnFrom ss tick place → length ss ≤ place
    → ROUND ≤ tick
at_end ss tick place on past = elim (cases_lt tick ROUND) [
  | inl lt ↦ absurd (let less = some_left ss tick place on lt in omega arith)
  | inr le ↦ le
]

-- at its segment's end the place is still within the list
pub place_within : (ss : List Segment) (place y : ℕ) (s : Segment) → place < length ss
    → (if s.end == y then place + 1 else place) ≤ length ss
place_within ss place y s lt =
    elim (cases_eq s.end y) [
      | inl is ↦ rw (eq-eqb s.end y is) (omega arith)
      | inr ne ↦ rw (ne_eqb s.end y ne) (omega arith)
    ]

-- the segment's end is after the tick, and the others go on from there
pub next_parts : (ss : List Segment) (tick place : ℕ) (s : Segment) → GoesOnFrom ss tick place
    → place < length ss
    → s ≡ get_or ss place s
    → (tick < s.end) × RisesTo s.end (drop (place + 1) ss) ROUND
next_parts ss tick place s on lt at =
    rises_parts tick s (drop (place + 1) ss) ROUND
    (subst (λ xs. RisesTo tick xs ROUND) (drop_next ss place s lt at) on.rises)

-- the segment that holds the tick ends within the round, so the sweep goes on
pub end_in_round : (ss : List Segment) (tick place : ℕ) (s : Segment) → GoesOnFrom ss tick place
    → place < length ss
    → s ≡ get_or ss place s → s.end ≤ ROUND
end_in_round ss tick place s on lt at =
    let parts = next_parts ss tick place s on lt at in
    let whole = length-cells_from s.end (drop (place + 1) ss) ROUND parts.1 in
    omega arith

-- up to the segment's end the cells are its owner's
pub cells_now : (ss : List Segment) (tick place : ℕ) (s : Segment) → GoesOnFrom ss tick place
    → place < length ss
    → s ≡ get_or ss place s
    → drop tick (cells_from 0 ss) ≡ replicate (s.end - tick) s.owner ++ cells_from s.end (drop (place + 1) ss)
cells_now ss tick place s on lt at =
    on.cells ∙ ap (cells_from tick) (drop_next ss place s lt at) ∙ cells-cons tick s (drop (place + 1) ss)

-- up to its end each cell is the segment's owner's
pub owner_now : (ss : List Segment) (tick place x : ℕ) (s : Segment) → GoesOnFrom ss tick place
    → place < length ss
    → s ≡ get_or ss place s
    → tick ≤ x → x < s.end → slice_get (cells_from 0 ss) x ≡ Some s.owner
owner_now ss tick place x s on lt at low high =
    sym (get-drop (cells_from 0 ss) tick (x - tick) x (omega arith))
    ∙ ap (λ cells. slice_get cells (x - tick)) (cells_now ss tick place s on lt at)
    ∙ cell_here (s.end - tick) (x - tick) s.owner (cells_from s.end (drop (place + 1) ss)) (omega arith)

-- the row goes on from a later tick in the segment, or at its end with the next one
pub goes_on : (ss : List Segment) (tick place y : ℕ) (s : Segment) → GoesOnFrom ss tick place
    → place < length ss
    → s ≡ get_or ss place s
    → tick ≤ y → y ≤ s.end → GoesOnFrom ss y (if s.end == y then place + 1 else place)
goes_on ss tick place y s on lt at low high =
    let parts = next_parts ss tick place s on lt at in
    let rest = drop (place + 1) ss in
    let left = drop_next ss place s lt at in
    let cells : drop y (cells_from 0 ss) ≡ replicate (s.end - y) s.owner ++ cells_from s.end rest =
    (let e : y ≡ tick + (y - tick) = omega arith in ap (λ k. drop k (cells_from 0 ss)) e)
    ∙ sym (drop-drop (y - tick) tick (cells_from 0 ss))
    ∙ ap (drop (y - tick)) (cells_now ss tick place s on lt at)
    ∙ drop_front (y - tick) (s.end - tick) s.owner (cells_from s.end rest) (omega arith)
    ∙ (let e : s.end - tick - (y - tick) ≡ s.end - y = omega arith in ap
    (λ n. replicate n s.owner ++ cells_from s.end rest) e) in
    elim (cases_eq s.end y) [
      | inl is ↦ rw (eq-eqb s.end y is) (record {
        rises = subst (λ n. RisesTo n rest ROUND) is parts.1;
        cells = cells ∙ (let none : s.end - y ≡ 0 = omega arith in rw none (ap (λ n. cells_from n rest) is));
      })
      | inr ne ↦ rw (ne_eqb s.end y ne) (record {
        rises = subst (λ xs. RisesTo y xs ROUND) (sym left)
            (rises_from_parts y s rest ROUND (omega arith) parts.1);
        cells = cells ∙ sym (cells-cons y s rest) ∙ ap (cells_from y) (sym left);
      })
    ]

-- at its end the row goes on with the next segment
pub next_on : (ss : List Segment) (tick place : ℕ) (s : Segment) → GoesOnFrom ss tick place
    → place < length ss
    → s ≡ get_or ss place s
    → GoesOnFrom ss s.end (place + 1)
next_on ss tick place s on lt at =
    let on' = goes_on ss tick place s.end s on lt at
    (let low = (next_parts ss tick place s on lt at).0 in omega arith) (omega arith) in
    subst (λ b. GoesOnFrom ss s.end (if b then place + 1 else place)) (eq-eqb s.end s.end refl) on'
