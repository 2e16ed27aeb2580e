use Rattle.std.proofs.Common.{◌≡◌, length, take}
use Rattle.fleet_place.specs.Deals.{Deal}
use Rattle.fleet_place.specs.Inside.Memory.{KnowsRefusals}
use Rattle.fleet_place.proofs.deal.deal_all.Given as goal

-- the VMs so far are dealt, and what is known of refusals
abbrev pub invariant-loop-vm : goal.invariant-loop-vm
invariant-loop-vm l = record {
  size : length l.refused ≡ length l.hosts;
  knows : KnowsRefusals l.policy l.hosts l.refused;
  dealt : Deal l.policy l.fn.hosts (take l.vm-index l.order) l.hosts l.left.items;
}
