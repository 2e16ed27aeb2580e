use Rattle.std.proofs.Common.{◌≡◌, ◌<◌, IfSome}
use Rattle.view_table.specs.Diff.{number_of}
use Rattle.view_table.proofs.diff.number_of.Given as goal

-- the last one so far
abbrev pub invariant-loop-vcpu : goal.invariant-loop-vcpu
invariant-loop-vcpu l = record {
  found : l.found ≡ number_of l.names l.vcpu l.name;
  low : IfSome l.found (λ vcpu. vcpu < l.vcpu);
}
