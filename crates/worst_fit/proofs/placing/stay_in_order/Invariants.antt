use Rattle.std.proofs.Common.{◌≡◌, [], drop}
use Rattle.worst_fit.specs.Placement.{stay_all}
use Rattle.worst_fit.proofs.placing.stay_in_order.Given as goal

-- to take the ranks that are left gives what to take all of them gives
abbrev pub invariant-loop-rank : goal.invariant-loop-rank
invariant-loop-rank l =
    stay_all l.homes (record {
      placed = record { loads = l.loads; core_of = l.core_of; left = [] };
      moving = l.moving.items;
    }) (drop l.rank-index l.order)
    ≡ stay_all l.homes (record {
      placed = record { loads = l.initial.loads; core_of = l.initial.core_of; left = [] };
      moving = l.initial.moving.items;
    }) l.order
