-- Counters of the first ticks of a row, and of the first rows.
use Rattle.std.proofs.Common.{◌≡◌, ℕ, ◌+◌, ◌-◌, ◌*◌, ◌<◌, ◌≤◌, ◌^◌, min, cond, Bool, true, false, List, [], ◌∷◌, ◌++◌, length, get_or, take, drop, replicate, Option, refl, ap, subst, ◌∙◌, inl, inr, arith, take-add}
use Rattle.std.proofs.Math.Seq.{drop-nil, take-append-add, take-append_seam, take-nil}
use Rattle.std.proofs.lemmas.Bool.{cases_lt}
use Rattle.std.proofs.lemmas.List.{length-replicate, length-take, take-append-le, take-replicate, take_all}
use Rattle.std.proofs.lemmas.List.Folds.{sum_by-replicate}
use Rattle.std.proofs.lemmas.List.Sums.{count_by-le-length, sum_by-append, sum_by-cons}
use Rattle.std.specs.List.{count_by}
use Rattle.tab_core.specs.declared.TheConstants.{ROUND}
use Rattle.tab_core.specs.declared.periodic.Periodic.{Periodic}
use Rattle.tab_core.proofs.Periods.{period_facts}
use Rattle.table_form.specs.declared.segment.Segment.{Segment}
use Rattle.table_form.specs.Tables.Rows.{Row, RisesTo, cells_from}
use Rattle.table_form.specs.Tables.Serves.{cells_within, is_cell_of, supply}
use Rattle.table_form.proofs.RowLemmas.{length-cells_from}
use Rattle.table_form.proofs.Supplies.{cells_before, cells_before-end}
use Rattle.table_check.specs.Inside.Counters.{AreAtMost, GrowBy, ticks_given, ticks_shared}
use Rattle.table_check.proofs.Sweep.{GoesOnFrom, cells_now, end_in_round, next_parts}

-- a run counts for its owner alone
count_replicate : (v n : ℕ) (o : Option ℕ)
    → count_by (λ cell. is_cell_of v cell) (replicate n o) ≡ n * cond (is_cell_of v o) 1 0
count_replicate v n o = sum_by-replicate (λ cell. cond (is_cell_of v cell) 1 0) n o

-- after a row's cells there are some more of one owner
before_more : (v : ℕ) (row : Row) (n to : ℕ) (o : Option ℕ)
    → cells_before v (row ++ replicate n o) to ≡ cells_before v row to + min (to - length row) n * cond
    (is_cell_of v o) 1 0
unfolding cells_before
before_more v row n to o = elim (cases_lt to (length row)) [
  | inl short ↦
      let none : min (to - length row) n ≡ 0 = omega arith in
      let product = ap (λ k. k * cond (is_cell_of v o) 1 0) none in
      let same = ap (count_by (λ cell. is_cell_of v cell))
      (take-append-le to row (replicate n o) (omega arith)) in
      omega (arith, product, same)
  | inr long ↦
      let at = to - length row in
      let whole : take to row ≡ row = take_all to row long in
      let split : take to (row ++ replicate n o) ≡ row ++ take at (replicate n o)
      = (let e : to ≡ length row + at = omega arith in ap (λ k. take k (row ++ replicate n o)) e)
      ∙ take-append-add row (replicate n o) at in
      let rest : take at (replicate n o) ≡ replicate (min at n) o = take_some at n o in
      let counted = ap (count_by (λ cell. is_cell_of v cell)) (split ∙ ap (λ cells. row ++ cells) rest) in
      let both = sum_by-append (λ cell. cond (is_cell_of v cell) 1 0) row (replicate (min at n) o) in
      let of_row = ap (count_by (λ cell. is_cell_of v cell)) whole in
      omega (arith, counted, both, of_row, count_replicate v (min at n) o)
]
  where
    take_some : (m k : ℕ) (c : Option ℕ) → take m (replicate k c) ≡ replicate (min m k) c
    take_some m k c = elim (cases_lt m k) [
      | inl less ↦ take-replicate m k c (omega arith)
          ∙ (let e : m ≡ min m k = omega arith in ap (λ j. replicate j c) e)
      | inr more ↦ take_all m (replicate k c) (omega (arith, length-replicate k c))
          ∙ (let e : k ≡ min m k = omega arith in ap (λ j. replicate j c) e)
    ]

-- with them the vCPU has in an interval as many more as they give it there
more_within : (v : ℕ) (row : Row) (n begin over : ℕ) (o : Option ℕ) → begin ≤ over
    → cells_within v (row ++ replicate n o) begin over
    ≡ cells_within v row begin over + ticks_given o (length row)
    (length row + n) v begin over
more_within v row n begin over o le =
    let all = row ++ replicate n o in
    let a = cells_before-end v all begin over le in
    let b = cells_before-end v row begin over le in
    let c = before_more v row n begin o in
    let d = before_more v row n over o in
    by_owner (is_cell_of v o) refl a b c d
  where
    L : ℕ
    L = length row

    by_owner : (own : Bool) → is_cell_of v o ≡ own
        → cells_before v (row ++ replicate n o) over
        ≡ cells_before v (row ++ replicate n o) begin + cells_within v
        (row ++ replicate n o) begin over
        → cells_before v row over ≡ cells_before v row begin + cells_within v row begin over
        → cells_before v (row ++ replicate n o) begin
        ≡ cells_before v row begin + min (begin - length row) n * cond
        (is_cell_of v o) 1 0
        → cells_before v (row ++ replicate n o) over
        ≡ cells_before v row over + min (over - length row) n * cond
        (is_cell_of v o) 1 0
        → cells_within v (row ++ replicate n o) begin over ≡ cells_within v row begin over + ticks_given o
        (length row) (length row + n) v begin over
    by_owner true e a b c d =
        let given = ap (λ t. cond t (ticks_shared (length row) (length row + n) begin over) 0) e in
        let c' = ap (λ t. min (begin - length row) n * cond t 1 0) e in
        let d' = ap (λ t. min (over - length row) n * cond t 1 0) e in
        omega (arith, a, b, c, d, c', d', given)
    by_owner false e a b c d =
        let given = ap (λ t. cond t (ticks_shared (length row) (length row + n) begin over) 0) e in
        let c' = ap (λ t. min (begin - length row) n * cond t 1 0) e in
        let d' = ap (λ t. min (over - length row) n * cond t 1 0) e in
        omega (arith, a, b, c, d, c', d', given)

-- the row's cells up to the end of a segment
cells_to_end : (ss : List Segment) (from place : ℕ) (s : Segment) → GoesOnFrom ss from place
    → place < length ss
    → s ≡ get_or ss place s
    → take s.end (cells_from 0 ss) ≡ take from (cells_from 0 ss) ++ replicate (s.end - from) s.owner
cells_to_end ss from place s on lt at =
    let rises = (next_parts ss from place s on lt at).0 in
    let n = s.end - from in
    let rest = cells_from s.end (drop (place + 1) ss) in
    (let e : s.end ≡ from + n = omega arith in ap (λ k. take k (cells_from 0 ss)) e)
    ∙ take-add from n (cells_from 0 ss)
    ∙ ap (λ cells. take from (cells_from 0 ss) ++ take n cells) (cells_now ss from place s on lt at)
    ∙ ap (λ cells. take from (cells_from 0 ss) ++ cells) (take_front n s.owner rest)
  where
    take_front : (k : ℕ) (o : Option ℕ) (cells : Row) → take k (replicate k o ++ cells) ≡ replicate k o
    take_front k o cells = (let e = length-replicate k o
        in subst (λ j. take j (replicate k o ++ cells) ≡ replicate k o) e
        (take-append_seam (replicate k o) cells))

-- the counters have the row's cells up to the tick
pub CountsTo : List (Option Periodic) → List Segment → ℕ → List ℕ → List ℕ → Type 0
CountsTo tasks ss tick old new = GrowBy tasks (λ v. cells_within v (take tick (cells_from 0 ss))) old new

-- a period ends no earlier than it begins
period_rises : (k period : ℕ) → k * period ≤ (k + 1) * period
period_rises k period = omega arith

-- before the first segment nothing is counted
pub counts_none : (tasks : List (Option Periodic)) (ss : List Segment) (counters : List ℕ)
    → CountsTo tasks ss 0 counters counters
unfolding cells_within CountsTo
counts_none tasks ss counters v k period of =
    let none : take ((k + 1) * period - k * period) (drop (k * period) (take 0 (cells_from 0 ss)))
    ≡ [] = none_of
    ((k + 1) * period - k * period) (k * period) in
    let zero_count = ap (count_by (λ cell. is_cell_of v cell)) none in
    omega (arith, zero_count)
  where
    none_of : (m n : ℕ) → ◌≡◌ {A = Row} (take m (drop n [])) []
    none_of m n = rw (drop-nil n) (take-nil m)

-- one segment more adds its run
pub counts_more : (tasks : List (Option Periodic)) (ss : List Segment) (from place : ℕ) (s : Segment)
    (old mid new : List ℕ)
    → GoesOnFrom ss from place → place < length ss → s ≡ get_or ss place s → RisesTo 0 ss ROUND
    → CountsTo tasks ss from old mid → GrowBy tasks (ticks_given s.owner from s.end) mid new
    → CountsTo tasks ss s.end old new
unfolding CountsTo
counts_more tasks ss from place s old mid new on lt at whole so_far grown v k period of =
    let cells = cells_from 0 ss in
    let begin = k * period in
    let over = (k + 1) * period in
    let rises = (next_parts ss from place s on lt at).0 in
    let within = end_in_round ss from place s on lt at in
    let all : length cells + 0 ≡ ROUND = length-cells_from 0 ss ROUND whole in
    let size : length (take from cells) ≡ from = length-take from cells ∙ omega arith in
    let more = more_within v (take from cells) (s.end - from) begin over s.owner (period_rises k period) in
    let run : ticks_given s.owner (length (take from cells)) (length (take from cells) + (s.end - from)) v
    begin over ≡ ticks_given s.owner from s.end v begin over
    = ap (λ n. ticks_given s.owner n (n + (s.end - from)) v begin over) size
    ∙ (let e : from + (s.end - from) ≡ s.end = omega arith in ap
    (λ n. ticks_given s.owner from n v begin over)
    e) in
    let to_end = ap (λ row. cells_within v row begin over) (cells_to_end ss from place s on lt at) in
    omega (arith, so_far v k period of, grown v k period of, more, run, to_end)

-- after the last segment the counters have grown by the row's cells
pub counts_all : (tasks : List (Option Periodic)) (ss : List Segment) (from : ℕ) (old new : List ℕ)
    → RisesTo 0 ss ROUND → ROUND ≤ from
    → CountsTo tasks ss from old new → GrowBy tasks (λ v. cells_within v (cells_from 0 ss)) old new
unfolding CountsTo
counts_all tasks ss from old new whole past so_far =
    let all : length (cells_from 0 ss) + 0 ≡ ROUND = length-cells_from 0 ss ROUND whole in
    subst (λ (row : Row). GrowBy tasks (λ v. cells_within v row) old new)
    (take_all from (cells_from 0 ss) (omega arith)) so_far

-- a row gives a vCPU at most the ticks of the interval
pub within-le : (v : ℕ) (row : Row) (from to : ℕ) → cells_within v row from to ≤ to - from
unfolding cells_within
within-le v row from to =
    let most = count_by-le-length (λ cell. is_cell_of v cell) (take (to - from) (drop from row)) in
    omega (arith, most, length-take (to - from) (drop from row))

-- rows can't give more than their ticks, so no counter overflows
pub supply-le : (v : ℕ) (rows : List Row) (from to : ℕ) → supply v rows from to ≤ length rows * (to - from)
unfolding supply
supply-le v [] from to = omega arith
supply-le v (row ∷ rows) from to =
    omega (
      arith,
      sum_by-cons (λ (r : Row). cells_within v r from to) row rows,
      within-le v row from to,
      supply-le v
          rows from to,
    )

-- what a row has added so far leaves room for the next run
pub room_in_row : (tasks : List (Option Periodic)) (ss : List Segment) (tick : ℕ) (old new : List ℕ)
    → CountsTo tasks ss tick old new
    → AreAtMost tasks (2 ^ 32 - 1 - 2 * ROUND) old → AreAtMost tasks (2 ^ 32 - 1 - ROUND) new
unfolding CountsTo
room_in_row tasks ss tick old new so_far room v k period of =
    let most = within-le v (take tick (cells_from 0 ss)) (k * period) ((k + 1) * period) in
    let at_most : of.task.period ≤ ROUND = (period_facts of.task.period of.task.listed).at_most in
    omega (arith, so_far v k period of, room v k period of, of.period_is)
