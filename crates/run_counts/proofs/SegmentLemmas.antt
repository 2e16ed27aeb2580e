-- The segment of a row that holds a place, by its number, and the next one.
use Rattle.std.proofs.Common.{◌≡◌, ℕ, zero, suc, ◌+◌, ◌<◌, ◌≤◌, List, [], ◌∷◌, length, get_or, Some, refl, ap, sym, ◌∙◌, arith}
use Rattle.std.specs.Prelude.{slice_get}
use Rattle.tab_core.specs.declared.TheConstants.{ROUND}
use Rattle.table_form.specs.declared.segment.Segment.{Segment}
use Rattle.table_form.specs.Tables.Rows.{RisesTo, Row, cells_from}
use Rattle.table_form.proofs.RowLemmas.{rises_none, rises_parts}
use Rattle.table_form.proofs.Search.{end_within, ends_rise, owner_from}
use Rattle.run_counts.specs.Inside.Walks.{HoldsPlace}

-- the segments before the one that holds the place end at or before it
all_ended : (ss : List Segment) (number place j : ℕ) (d : Segment) → RisesTo 0 ss ROUND
    → HoldsPlace ss number place → j < number → (get_or ss j d).end ≤ place
all_ended ss zero place j d rises holds lt = absurd (omega arith)
all_ended ss (suc n) place j d rises holds lt =
    let last = holds.ended n d (omega arith) in
    let there = holds.there in
    let rise : (get_or ss j d).end ≤ (get_or ss n d).end = ends_rise 0 ss ROUND rises j n d (omega arith) (omega arith) in
    omega arith

-- the segment that holds the place has the cells from there to its end
pub held_cells : (row : Row) (ss : List Segment) (number place x : ℕ) (s : Segment) → cells_from 0 ss ≡ row
    → RisesTo 0 ss ROUND → HoldsPlace ss number place → s ≡ get_or ss number s → place ≤ x → x < s.end
    → slice_get row x ≡ Some s.owner
held_cells row ss number place x s cells rises holds is low less =
    ap (λ (cs : Row). slice_get cs x) (sym cells)
    ∙ owner_from ss place number x s rises holds.there is (record {
      at_most = (let there = holds.there in omega arith);
      passed = λ j d lt. all_ended ss number place j d rises holds lt;
      ahead = λ j d from below.
          (let rise : (get_or ss number d).end ≤ (get_or ss j d).end = ends_rise 0 ss ROUND rises number j d
          from below in
          let after = holds.after d in
          omega arith);
    }) low less

-- it ends within the round
pub held_within : (ss : List Segment) (number place : ℕ) (s : Segment) → RisesTo 0 ss ROUND
    → HoldsPlace ss number place → s ≡ get_or ss number s → s.end ≤ ROUND
held_within ss number place s rises holds is =
    let within = end_within 0 ss ROUND number s rises holds.there in
    let end = ap (λ (t : Segment). t.end) is in
    omega arith

-- an element read within its list doesn't depend on the default
by_default : (ss : List Segment) (n : ℕ) (d e : Segment) → n < length ss → get_or ss n d ≡ get_or ss n e
by_default [] n d e lt = absurd (omega arith)
by_default (s ∷ ss) zero d e lt = refl
by_default (s ∷ ss) (suc n) d e lt = by_default ss n d e (omega arith)

-- the next segment ends later
next_later : (start : ℕ) (ss : List Segment) (end n : ℕ) (d : Segment) → RisesTo start ss end → suc n < length ss
    → (get_or ss n d).end < (get_or ss (suc n) d).end
next_later start [] end n d rises lt = absurd (omega arith)
next_later start (s ∷ []) end n d rises lt = absurd (omega arith)
next_later start (s ∷ t ∷ ss) end zero d rises lt =
    (rises_parts s.end t ss end (rises_parts start s (t ∷ ss) end rises).1).0
next_later start (s ∷ t ∷ ss) end (suc n) d rises lt =
    next_later s.end (t ∷ ss) end n d (rises_parts start s (t ∷ ss) end rises).1 (omega arith)

-- the last segment ends at the end
last_ends : (start : ℕ) (ss : List Segment) (end n : ℕ) (d : Segment) → RisesTo start ss end → n < length ss
    → length ss ≤ suc n → (get_or ss n d).end ≡ end
last_ends start [] end n d rises lt le = absurd (omega arith)
last_ends start (s ∷ []) end zero d rises lt le = rises_none s.end end (rises_parts start s [] end rises).1
last_ends start (s ∷ t ∷ ss) end zero d rises lt le = absurd (omega arith)
last_ends start (s ∷ ss) end (suc n) d rises lt le =
    last_ends s.end ss end n d (rises_parts start s ss end rises).1 (omega arith) (omega arith)

-- the row's first segment holds its begin
pub first_holds : (ss : List Segment) → RisesTo 0 ss ROUND → 0 < length ss → HoldsPlace ss 0 0
first_holds [] rises lt = absurd (omega arith)
first_holds (s ∷ ss) rises lt = record {
  there = lt;
  after = λ d. (rises_parts 0 s ss ROUND rises).0;
  ended = λ k d is. absurd (omega arith);
}

-- a row has a segment
pub some_segment : (ss : List Segment) → RisesTo 0 ss ROUND → 0 < length ss
some_segment [] rises = absurd (let e = rises_none 0 ROUND rises in omega arith)
some_segment (s ∷ ss) rises = omega arith

-- the next segment holds the end of one
pub next_holds : (ss : List Segment) (n : ℕ) (s : Segment) → RisesTo 0 ss ROUND → s ≡ get_or ss n s
    → n + 1 < length ss → HoldsPlace ss (n + 1) s.end
next_holds ss n s rises is lt =
    let e : n + 1 ≡ suc n = omega arith in
    record {
      there = lt;
      after = λ d. rw e (let later : (get_or ss n d).end < (get_or ss (suc n) d).end =
          next_later 0 ss ROUND n d rises (omega arith) in
          let same : (get_or ss n d).end ≡ s.end =
          ap (λ (t : Segment). t.end) (by_default ss n d s (omega arith) ∙ sym is) in
          omega arith);
      ended = λ k d at. (let k_is : k ≡ n = omega arith in
          let same : (get_or ss n d).end ≡ s.end =
          ap (λ (t : Segment). t.end) (by_default ss n d s (omega arith) ∙ sym is) in
          rw k_is (omega arith));
    }

-- the last segment ends with the round
pub last_in_round : (ss : List Segment) (n : ℕ) (s : Segment) → RisesTo 0 ss ROUND → s ≡ get_or ss n s
    → n < length ss → length ss ≤ n + 1 → ROUND ≤ s.end
last_in_round ss n s rises is lt le =
    let last : (get_or ss n s).end ≡ ROUND = last_ends 0 ss ROUND n s rises lt (omega arith) in
    let same : s.end ≡ (get_or ss n s).end = ap (λ (t : Segment). t.end) is in
    omega arith
