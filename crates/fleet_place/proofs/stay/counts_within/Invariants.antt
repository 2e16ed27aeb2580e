use Rattle.std.proofs.Common.{◌≡◌, ◌≤◌, take}
use Rattle.tab_core.specs.declared.TheConstants.{MAX_VCPUS}
use Rattle.fleet_place.specs.Held.{vcpu_count_of}
use Rattle.fleet_place.proofs.stay.counts_within.Given as goal

-- the vCPUs of the VMs so far
abbrev pub invariant-loop-vm : goal.invariant-loop-vm
invariant-loop-vm l = record {
  sum : l.count ≡ vcpu_count_of (take l.vm-index l.vms);
  within : l.count ≤ MAX_VCPUS;
}
