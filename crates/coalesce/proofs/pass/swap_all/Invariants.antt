use Rattle.std.proofs.Common.{map}
use Rattle.table_form.specs.Tables.Segments.{segment_view}
use Rattle.coalesce.proofs.Steps.{HasPassed}
use Rattle.coalesce.proofs.pass.swap_all.Given as goal

-- the segments up to this one have come
abbrev pub invariant-loop-segment : goal.invariant-loop-segment
invariant-loop-segment l = HasPassed l.segments l.table l.sliver l.segment-index
    (map segment_view l.out.items)
