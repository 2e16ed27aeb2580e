use Rattle.std.proofs.Common.{◌≡◌, ◌≤◌, length, take}
use Rattle.tab_core.specs.declared.TheConstants.{MAX_VCPUS}
use Rattle.sizes_doc.specs.SizedHost.{sizes_vcpus}
use Rattle.sizes_doc.proofs.sized_host.vcpus_of.Given as goal

-- the vCPUs of the sizes so far, of which there are few enough
abbrev pub invariant-loop-size : goal.invariant-loop-size
invariant-loop-size l = record {
  are : l.vcpus.items ≡ sizes_vcpus (take l.size-index l.sizes);
  few : length l.vcpus.items ≤ MAX_VCPUS;
}
