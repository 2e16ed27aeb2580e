use Rattle.std.proofs.Common.{◌≡◌, ◌-◌, ◌≤◌, min, take}
use Rattle.std.specs.List.{sum_by}
use Rattle.view_lanes.specs.declared.frame.Bar.{Bar}
use Rattle.view_lanes.proofs.lanes.held_in.Given as goal

-- the ticks so far
abbrev pub invariant-loop-bar : goal.invariant-loop-bar
invariant-loop-bar l = record {
  value : l.held ≡ min l.span (sum_by (λ (bar : Bar). bar.end - bar.from) (take l.bar-index l.bars));
  small : l.held ≤ l.span;
}
