use Rattle.std.proofs.Common.{◌≡◌, ◌≤◌}
use Rattle.tab_core.specs.VcpuSets.{has_vcpu}
use Rattle.view_svg.specs.Keys.{count_below}
use Rattle.view_svg.proofs.keys.count_below.Given as goal

-- those so far
abbrev pub invariant-loop-v : goal.invariant-loop-v
invariant-loop-v l = record {
  value : l.count ≡ count_below (has_vcpu l.set) l.v;
  few : l.count ≤ l.v;
}
