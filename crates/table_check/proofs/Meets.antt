-- A meeting of two rows as the sweep finds it.
use Rattle.std.proofs.Common.{◌≡◌, ℕ, ◌<◌, ◌≤◌, List, length, get_or, Option, Some, ap, sym, ◌∙◌, inl, inr, arith}
use Rattle.std.proofs.lemmas.Bool.{cases_lt}
use Rattle.std.proofs.lemmas.Option.{slice_get_within, same_Some}
use Rattle.tab_core.specs.declared.TheConstants.{ROUND}
use Rattle.table_form.specs.declared.segment.Segment.{Segment}
use Rattle.table_form.specs.Tables.Rows.{cells_from, RisesTo}
use Rattle.table_form.proofs.RowLemmas.{length-cells_from}
use Rattle.table_check.specs.Inside.Meetings.{MeetsAt, MeetNoneBefore}
use Rattle.table_check.proofs.Sweep.{GoesOnFrom, next_parts, owner_now}

-- the rows meet where both segments have one owner
pub meets_now : (a b : List Segment) (tick i j v : ℕ) (s t : Segment) → GoesOnFrom a tick i
    → GoesOnFrom b tick j
    → i < length a → j < length b
    → s ≡ get_or a i s → t ≡ get_or b j t → s.owner ≡ Some v → t.owner ≡ Some v
    → MeetsAt (cells_from 0 a) (cells_from 0 b) v tick
meets_now a b tick i j v s t on_a on_b lt_a lt_b at_a at_b own_a own_b = record {
  here = owner_now a tick i tick s on_a lt_a at_a (omega arith) (next_parts a tick i s on_a lt_a at_a).0
      ∙ ap Some own_a;
  there = owner_now b tick j tick t on_b lt_b at_b (omega arith) (next_parts b tick j t on_b lt_b at_b).0
      ∙ ap Some own_b;
}

-- where the segments have no owner in common, the rows don't meet before both their ends
pub none_in_segments : (a b : List Segment) (tick i j y : ℕ) (s t : Segment) → GoesOnFrom a tick i
    → GoesOnFrom b tick j → i < length a → j < length b
    → s ≡ get_or a i s → t ≡ get_or b j t → ((v : ℕ) → s.owner ≡ Some v → t.owner ≡ Some v → ⊥)
    → y ≤ s.end → y ≤ t.end
    → MeetNoneBefore (cells_from 0 a) (cells_from 0 b) tick
    → MeetNoneBefore (cells_from 0 a) (cells_from 0 b) y
none_in_segments a b tick i j y s t on_a on_b lt_a lt_b at_a at_b apart end_a end_b none v x meets = elim
    (cases_lt x y) [
      | inr later ↦ later
      | inl before ↦
          let low = none v x meets in
          let own_a = owner_now a tick i x s on_a lt_a at_a low (omega arith) in
          let own_b = owner_now b tick j x t on_b lt_b at_b low (omega arith) in
          absurd (apart v (same_Some {A = Option ℕ} s.owner (Some v) (sym own_a ∙ meets.here))
          (same_Some {A = Option ℕ} t.owner (Some v) (sym own_b ∙ meets.there)))
    ]

-- none before the round's end is none
pub none_in_round : (a b : List Segment) (tick : ℕ) → RisesTo 0 a ROUND → ROUND ≤ tick
    → MeetNoneBefore (cells_from 0 a) (cells_from 0 b) tick
    → (v x : ℕ) → MeetsAt (cells_from 0 a) (cells_from 0 b) v x → ⊥
none_in_round a b tick rises past none v x meets =
    let within = slice_get_within (cells_from 0 a) x (Some v) meets.here in
    let whole = length-cells_from 0 a ROUND rises in
    let late = none v x meets in
    absurd (omega arith)
