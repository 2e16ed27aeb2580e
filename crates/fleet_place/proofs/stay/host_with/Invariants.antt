use Rattle.std.proofs.Common.{◌≡◌, take}
use Rattle.fleet_place.proofs.stay.host_with.Given as goal

-- the VMs so far are on the host
abbrev pub invariant-loop-vm : goal.invariant-loop-vm
invariant-loop-vm l = l.host ≡ record { cores = l.cores; vms = take l.vm-index l.vms }
