use Rattle.std.proofs.Common.{◌≡◌, drop}
use Rattle.worst_fit.specs.Placement.{place_all}
use Rattle.worst_fit.proofs.placing.place_in_order.Given as goal

-- to place the ranks that are left gives what to place all of them gives
abbrev pub invariant-loop-rank : goal.invariant-loop-rank
invariant-loop-rank l =
    place_all (record { loads = l.loads; core_of = l.core_of; left = l.left.items })
    (drop l.rank-index l.order)
    ≡ place_all
    (record { loads = l.initial.loads; core_of = l.initial.core_of; left = l.initial.left.items })
    l.order
