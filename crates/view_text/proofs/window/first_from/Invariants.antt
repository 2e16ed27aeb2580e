use Rattle.std.proofs.Common.{◌-◌, ◌≤◌, length}
use Rattle.view_text.specs.Inside.Windows.{AreBefore}
use Rattle.view_text.proofs.window.first_from.Given as goal

-- those so far have nothing from the tick on
abbrev pub invariant-loop-start : goal.invariant-loop-start
invariant-loop-start l = record {
  within : l.start ≤ length l.bars;
  before : AreBefore l.tick l.bars l.start;
}

abbrev pub decreases-loop-start : goal.decreases-loop-start
decreases-loop-start l = length l.bars - l.start
