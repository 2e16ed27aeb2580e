use Rattle.std.proofs.Common.{◌≡◌, ◌≢◌, ℕ, ◌<◌, Some}
use Rattle.std.specs.Prelude.{slice_get}
use Rattle.table_form.specs.Tables.Homes.{IsHome}
use Rattle.table_form.specs.declared.segment.Segment.{Segment}
use Rattle.run_limit.specs.Inside.Walks.{IsSeen}
use Rattle.run_limit.proofs.visits.see_row.Given as goal

-- the row is marked for the owners of the segments so far
abbrev pub invariant-loop-at : goal.invariant-loop-at
invariant-loop-at l = record {
  kept : (c d : ℕ) → IsSeen l.initial.visits c d → IsSeen l.visits c d;
  seen : (k c v : ℕ) (s : Segment) → k < l.at → slice_get l.segments k ≡ Some s → s.owner ≡ Some v
      → IsHome l.plan.tables.homes c v → c ≢ l.row → IsSeen l.visits c l.row;
}
