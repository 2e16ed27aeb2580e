use Rattle.std.proofs.Common.{◌-◌, ◌≤◌, map}
use Rattle.table_form.specs.Tables.Segments.{segment_view}
use Rattle.run_limit.specs.Inside.Walks.{passed}
use Rattle.run_limit.proofs.walk.segment_before.Given as goal

-- the segments so far are passed
abbrev pub invariant-loop-at : goal.invariant-loop-at
invariant-loop-at l = l.at ≤ passed (map segment_view l.own) (l.place - 1)
