use Rattle.std.proofs.Common.{◌≡◌, ◌++◌, map, replicate}
use Rattle.size_fit.specs.Inside.Numbered.{AreNumbered}
use Rattle.size_fit.specs.MoreVms.{nameless, of_size}
use Rattle.size_fit.proofs.more_vms.host_with.Given as goal

-- the host's vCPUs, and so many of the size
abbrev pub invariant-loop-more : goal.invariant-loop-more
invariant-loop-more l = record {
  same : map nameless l.vcpus.items ≡ map nameless l.host.vcpus ++ replicate l.more (of_size l.size);
  named : AreNumbered l.vcpus.items;
}
