use Rattle.std.proofs.Common.{take}
use Rattle.fleet_place.specs.Stays.{Stay}
use Rattle.fleet_place.proofs.fleet.place.Given as goal

-- on the hosts so far it is settled who stays
abbrev pub invariant-loop-group : goal.invariant-loop-group
invariant-loop-group l = Stay l.policy (take l.group-index l.groups) l.hosts.items l.pool.items
