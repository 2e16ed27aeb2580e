use Rattle.std.proofs.Common.{◌≡◌, map, take}
use Rattle.size_fit.specs.Inside.Numbered.{AreNumbered}
use Rattle.size_fit.specs.MoreVms.{nameless}
use Rattle.size_fit.proofs.more_vms.renamed.Given as goal

-- the vCPUs so far
abbrev pub invariant-loop-vcpu : goal.invariant-loop-vcpu
invariant-loop-vcpu l = record {
  same : map nameless l.renamed.items ≡ map nameless (take l.vcpu-index l.vcpus);
  named : AreNumbered l.renamed.items;
}
