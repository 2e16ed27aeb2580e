use Rattle.std.proofs.Common.{◌≡◌, length, arith, ap}
use Rattle.std.proofs.lemmas.Grind.{common_steps}
use Rattle.worst_fit.proofs.KeepingHomes.{placement_leaves_for_need, placement_stays}
use Rattle.worst_fit.proofs.PlacingInvariant.{all_ranked}
use Rattle.worst_fit.proofs.PlacesEach.{placement_fits, placement_places_each, placement_within_bound}
use Rattle.worst_fit.specs.Placement.{who_stays}
use Rattle.worst_fit.proofs.StayingLemmas.{kept_staying}
use Rattle.worst_fit.proofs.OnePlacement.{placement_unique}
use Rattle.worst_fit.proofs.placing.place_staying.Goals as goal

pub stay_in_order-requires-clause-known : goal.stay_in_order-requires-clause-known
stay_in_order-requires-clause-known c =
    let ranked = all_ranked c.items.result.now c.in_ok-order.order.items c.in_ok-order.ensures in
    let same = c.deref.ensures.value in
    let items = c.items.ensures.same in
    let items2 = c.items-2.ensures.same in
    let len = c.in_ok-core_of.ensures.len in
    let back = c.deref_mut-2.ensures.value in
    λ k d lt.
    (let ranks = ap length same in
    let known = (ranked k d (omega arith)).known in
    let tasks = ap length items in
    let tasks2 = ap length items2 in
    let cores = ap length back in
    rw same (omega arith))

pub place_in_order-requires-clause-known : goal.place_in_order-requires-clause-known
place_in_order-requires-clause-known c =
    let tasks = c.items.result.now in
    let stay = who_stays c.args.homes.now c.args.cores (length tasks) c.in_ok-order.order.items in
    let moving : c.deref-2.result.now ≡ stay.moving = grind (arith, common_steps) in
    let kept = kept_staying c.args.homes.now tasks c.args.cores c.in_ok-order.order.items
    c.in_ok-order.ensures in
    let len = c.in_ok-core_of.ensures.len in
    λ k d lt.
    (let ranks = ap length moving in
    let known = (kept.ranked k d (omega arith)).known in
    let items = ap length c.items.ensures.same in
    let items2 = ap length c.items-2.ensures.same in
    rw moving (omega arith))

pub returns-clause-placement : goal.returns-clause-placement
returns-clause-placement c = grind (arith, common_steps)

pub returns-clause-only : goal.returns-clause-only
returns-clause-only c = λ other is. placement_unique c.args.homes.now c.args.tasks.now c.args.cores other _ is
    (returns-clause-placement c)

pub returns-clause-each : goal.returns-clause-each
returns-clause-each c = placement_places_each c.args.homes.now c.args.tasks.now c.args.cores _ c.requires.some_core
    (returns-clause-placement c)

pub returns-clause-fits : goal.returns-clause-fits
returns-clause-fits c = placement_fits c.args.homes.now c.args.tasks.now c.args.cores _ c.requires.some_core
    (returns-clause-placement c)

pub returns-clause-stay : goal.returns-clause-stay
returns-clause-stay c = placement_stays c.args.homes.now c.args.tasks.now c.args.cores _
    c.requires.some_core (returns-clause-placement c)

pub returns-clause-need : goal.returns-clause-need
returns-clause-need c = placement_leaves_for_need c.args.homes.now c.args.tasks.now c.args.cores _
    c.requires.some_core (returns-clause-placement c)

pub returns-clause-bound : goal.returns-clause-bound
returns-clause-bound c = placement_within_bound c.args.homes.now c.args.tasks.now c.args.cores _ c.requires.some_core
    (returns-clause-placement c)
