-- the ticks of the vCPUs before this one are laid
use Rattle.std.proofs.Common.{◌≡◌, ◌+◌, ◌-◌, ◌<◌, ◌≤◌, ◌++◌}
use Rattle.wrap_table.specs.Inside.Laying.{IsLaidTo, owners}
use Rattle.wrap_table.proofs.laying.lay.Given as goal

abbrev pub invariant-loop-vcpu : goal.invariant-loop-vcpu
invariant-loop-vcpu l = record {
  some : 0 < l.left;
  most : l.left ≤ l.span;
  row : l.row ≡ l.initial.row ++ owners l.ticks l.from (l.span - l.left);
  at : IsLaidTo l.ticks (l.from + (l.span - l.left)) (record { vcpu = l.vcpu; ticks = l.begun });
}
