use Rattle.std.proofs.Common.{◌≡◌, ◌++◌, ap, arith, length, map, subst, sym, ◌∙◌}
use Rattle.std.specs.Prelude.{All, IsPermutation}
use Rattle.std.specs.List.{flat_map}
use Rattle.std.proofs.lemmas.List.{take_all}
use Rattle.std.proofs.lemmas.List.{with_items_is}
use Rattle.std.specs.Vec.{with_items}
use Rattle.fleet_place.specs.Deals.{Deal, IsPlacing}
use Rattle.fleet_place.specs.Held.{all_held}
use Rattle.fleet_place.specs.Order.{IsFallingVmOrder}
use Rattle.fleet_place.specs.Stays.{NoHost, Stay}
use Rattle.fleet_place.proofs.PlaceLemmas.{placing_cores, placing_fits, placing_keeps}
use Rattle.fleet_place.proofs.StayLemmas.{FitsItself, group_cores, group_vms, held_cores}
use Rattle.fleet_place.proofs.TurnLemmas.{stay_more}
use Rattle.fleet_place.proofs.fleet.place.Goals as goal

pub loop-group-init : goal.loop-group-init
loop-group-init c = rw (c.new-pool.ensures.items, c.in_ok-hosts.ensures.items) NoHost

pub loop-group-preserved : goal.loop-group-preserved
loop-group-preserved c =
    let p = c.in_ok-host.ensures in
    rw (c.in_ok-push.ensures.items, p.1)
    (stay_more c.args.policy.now c.args.groups.now c.loop-group.group-index c.group-item.result c.loop-group.hosts.items
    c.loop-group.pool.items c.in_ok-host.host p.0 c.loop-group-test.true c.group-item.is c.loop-group.invariant p.2)

pub returns-clause-cores : goal.returns-clause-cores
returns-clause-cores c =
    let same : (with_items c.loop-group.hosts c.deal.new.hosts).items ≡ c.deal.new.hosts =
    with_items_is c.loop-group.hosts c.deal.new.hosts
    (c.deal.auto.hosts ∙ (ap length c.deref_mut.ensures.value ∙ sym c.loop-group.hosts.ok.0)) in
    let test = c.loop-group-test.false in
    let is : IsPlacing c.args.policy.now c.args.groups.now c.args.others.now c.deal.new.hosts c.in_ok-left.left.items = record {
      start = c.loop-group.hosts.items;
      moved = c.loop-group.pool.items;
      stay = subst (λ gs. Stay c.args.policy.now gs c.loop-group.hosts.items c.loop-group.pool.items)
          (take_all c.loop-group.group-index c.args.groups.now (omega (arith, test))) c.loop-group.invariant;
      order = c.put_in_order.new.vms.items;
      falling = subst (λ vms. IsFallingVmOrder vms c.put_in_order.new.vms.items)
          c.in_ok-extend_from_slice.ensures.items c.in_ok-put_in_order.ensures;
      deal = subst (λ start. Deal c.args.policy.now start c.put_in_order.new.vms.items c.deal.new.hosts c.in_ok-left.left.items)
          c.deref_mut.ensures.value
          (subst (λ order. Deal c.args.policy.now c.deref_mut.result.now order c.deal.new.hosts c.in_ok-left.left.items)
          c.deref.ensures.value c.in_ok-left.ensures);
    } in
    subst (λ hosts. map held_cores hosts ≡ map group_cores c.args.groups.now) (sym same)
    (placing_cores c.args.policy.now c.args.groups.now c.args.others.now c.deal.new.hosts c.in_ok-left.left.items is)

pub returns-clause-each : goal.returns-clause-each
returns-clause-each c =
    let same : (with_items c.loop-group.hosts c.deal.new.hosts).items ≡ c.deal.new.hosts =
    with_items_is c.loop-group.hosts c.deal.new.hosts
    (c.deal.auto.hosts ∙ (ap length c.deref_mut.ensures.value ∙ sym c.loop-group.hosts.ok.0)) in
    let test = c.loop-group-test.false in
    let is : IsPlacing c.args.policy.now c.args.groups.now c.args.others.now c.deal.new.hosts c.in_ok-left.left.items = record {
      start = c.loop-group.hosts.items;
      moved = c.loop-group.pool.items;
      stay = subst (λ gs. Stay c.args.policy.now gs c.loop-group.hosts.items c.loop-group.pool.items)
          (take_all c.loop-group.group-index c.args.groups.now (omega (arith, test))) c.loop-group.invariant;
      order = c.put_in_order.new.vms.items;
      falling = subst (λ vms. IsFallingVmOrder vms c.put_in_order.new.vms.items)
          c.in_ok-extend_from_slice.ensures.items c.in_ok-put_in_order.ensures;
      deal = subst (λ start. Deal c.args.policy.now start c.put_in_order.new.vms.items c.deal.new.hosts c.in_ok-left.left.items)
          c.deref_mut.ensures.value
          (subst (λ order. Deal c.args.policy.now c.deref_mut.result.now order c.deal.new.hosts c.in_ok-left.left.items)
          c.deref.ensures.value c.in_ok-left.ensures);
    } in
    subst (λ hosts. IsPermutation (flat_map group_vms c.args.groups.now ++ c.args.others.now)
    (all_held hosts ++ c.in_ok-left.left.items)) (sym same)
    (placing_keeps c.args.policy.now c.args.groups.now c.args.others.now c.deal.new.hosts c.in_ok-left.left.items is)

pub returns-clause-fits : goal.returns-clause-fits
returns-clause-fits c =
    let same : (with_items c.loop-group.hosts c.deal.new.hosts).items ≡ c.deal.new.hosts =
    with_items_is c.loop-group.hosts c.deal.new.hosts
    (c.deal.auto.hosts ∙ (ap length c.deref_mut.ensures.value ∙ sym c.loop-group.hosts.ok.0)) in
    let test = c.loop-group-test.false in
    let is : IsPlacing c.args.policy.now c.args.groups.now c.args.others.now c.deal.new.hosts c.in_ok-left.left.items = record {
      start = c.loop-group.hosts.items;
      moved = c.loop-group.pool.items;
      stay = subst (λ gs. Stay c.args.policy.now gs c.loop-group.hosts.items c.loop-group.pool.items)
          (take_all c.loop-group.group-index c.args.groups.now (omega (arith, test))) c.loop-group.invariant;
      order = c.put_in_order.new.vms.items;
      falling = subst (λ vms. IsFallingVmOrder vms c.put_in_order.new.vms.items)
          c.in_ok-extend_from_slice.ensures.items c.in_ok-put_in_order.ensures;
      deal = subst (λ start. Deal c.args.policy.now start c.put_in_order.new.vms.items c.deal.new.hosts c.in_ok-left.left.items)
          c.deref_mut.ensures.value
          (subst (λ order. Deal c.args.policy.now c.deref_mut.result.now order c.deal.new.hosts c.in_ok-left.left.items)
          c.deref.ensures.value c.in_ok-left.ensures);
    } in
    subst (All (FitsItself c.args.policy.now)) (sym same)
    (placing_fits c.args.policy.now c.args.groups.now c.args.others.now c.deal.new.hosts c.in_ok-left.left.items is)
