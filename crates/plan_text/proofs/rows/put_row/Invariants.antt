use Rattle.std.proofs.Common.{ℕ, ◌≤◌, List, ◌++◌, drop, take}
use Rattle.tab_core.specs.declared.TheConstants.{MAX_VCPUS}
use Rattle.tab_io.specs.Sinks.{IsLeft}
use Rattle.line_bytes.specs.Tails.{AreTails}
use Rattle.line_bytes.specs.declared.block.TheConstants.{BLOCK}
use Rattle.plan_text.proofs.RowText.{lines_of_row}
use Rattle.plan_text.proofs.rows.put_row.Given as goal

-- the gathered lines are left, and those of the segments from this one on
abbrev pub invariant-loop-segment : goal.invariant-loop-segment
invariant-loop-segment g l = record {
  few : l.count ≤ BLOCK;
  left : (names : List (List ℕ)) → AreTails names 10 MAX_VCPUS l.tails
      → IsLeft (g.K.Sink.state l.fn.sink) (g.K.Sink.state l.sink) (lines_of_row names l.segments)
      (take l.count l.block ++ lines_of_row names (drop l.segment-index l.segments));
}
