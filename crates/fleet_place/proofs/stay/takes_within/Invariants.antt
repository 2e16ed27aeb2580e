use Rattle.std.proofs.Common.{◌≡◌, ◌≤◌, take}
use Rattle.fleet_place.specs.Held.{load_of_vms}
use Rattle.fleet_place.proofs.stay.takes_within.Given as goal

-- what the VMs so far take
abbrev pub invariant-loop-vm : goal.invariant-loop-vm
invariant-loop-vm l = record {
  sum : l.load ≡ load_of_vms (take l.vm-index l.vms);
  within : l.load ≤ l.ticks;
}
