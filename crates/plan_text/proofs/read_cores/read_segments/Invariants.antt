use Rattle.std.proofs.Common.{◌≡◌, ◌+◌, ◌++◌, length, map}
use Rattle.std.specs.List.{All}
use Rattle.plan_text.specs.Meaning.{IsFineSegment, segment_words}
use Rattle.plan_text.proofs.read_cores.read_segments.Given as goal

abbrev pub invariant-loop-segment : goal.invariant-loop-segment
invariant-loop-segment l = record {
  lines : l.fn.left.lines ≡ map (segment_words l.names) l.row.items ++ l.rest.lines;
  number : l.rest.number ≡ l.fn.left.number + length l.row.items;
  fine : All (IsFineSegment l.tasks) l.row.items;
}

abbrev pub decreases-loop-segment : goal.decreases-loop-segment
decreases-loop-segment l = length l.rest.lines
