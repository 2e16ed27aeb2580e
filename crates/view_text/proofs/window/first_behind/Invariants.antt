use Rattle.std.proofs.Common.{◌-◌, ◌≤◌, length}
use Rattle.view_text.proofs.window.first_behind.Given as goal

abbrev pub invariant-loop-stop : goal.invariant-loop-stop
invariant-loop-stop l = record {
  order : l.fn.start ≤ l.stop;
  within : l.stop ≤ length l.bars;
}

abbrev pub decreases-loop-stop : goal.decreases-loop-stop
decreases-loop-stop l = length l.bars - l.stop
