use Rattle.std.proofs.Common.{◌+◌, arith}
use Rattle.worst_fit.specs.Placement.{PartialPlacement}
use Rattle.worst_fit.proofs.LeastCore.{IsFirstLeast}
use Rattle.worst_fit.proofs.PlacementLemmas.{places_next, leaves_next}
use Rattle.worst_fit.proofs.placing.place_rank.Goals as goal

pub returns-then-load-from : goal.returns-then-load-from
returns-then-load-from c =
    let p : PartialPlacement =
    record {
      loads = c.args.loads.now;
      core_of = c.args.core_of.now;
      left = c.args.left.now.items;
    } in
    let e = c.least_loaded-core.ensures in
    let is : IsFirstLeast c.args.loads.now c.least_loaded-core.result =
    record { is_core = e.is_core; least = e.least; lowest = e.lowest } in
    rw c.index.ensures.value (places_next p c.args.rank c.least_loaded-core.result
    (c.from.result + c.from-2.result) is (omega (arith, c.from.ensures, c.from-2.ensures))
    (omega arith))

pub returns-in_ok-push : goal.returns-in_ok-push
returns-in_ok-push c =
    let p : PartialPlacement =
    record {
      loads = c.args.loads.now;
      core_of = c.args.core_of.now;
      left = c.args.left.now.items;
    } in
    let e = c.least_loaded-core.ensures in
    let is : IsFirstLeast c.args.loads.now c.least_loaded-core.result =
    record { is_core = e.is_core; least = e.least; lowest = e.lowest } in
    rw c.in_ok-push.ensures.items (leaves_next p c.args.rank c.least_loaded-core.result
    (c.from.result + c.from-2.result) is (omega (arith, c.from.ensures, c.from-2.ensures))
    (omega arith))
