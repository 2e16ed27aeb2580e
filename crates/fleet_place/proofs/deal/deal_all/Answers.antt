use Rattle.std.proofs.Common.{arith, subst, sym, take}
use Rattle.std.proofs.lemmas.List.{take_all}
use Rattle.fleet_place.specs.Deals.{Deal, NoVm}
use Rattle.fleet_place.proofs.HeldLemmas.{take_more}
use Rattle.fleet_place.proofs.deal.deal_all.Goals as goal

pub loop-vm-init : goal.loop-vm-init
loop-vm-init c = record {
  size = c.requires.sizes;
  knows = c.requires.known;
  dealt = subst (Deal c.args.policy.now c.args.hosts.now _ c.args.hosts.now) (sym c.new-left.ensures.items) NoVm;
}

pub loop-vm-preserved : goal.loop-vm-preserved
loop-vm-preserved c =
    let turn = c.in_ok-deal_next.ensures in
    record {
      size = turn.many;
      knows = turn.knows;
      dealt = rw (take_more c.args.order.now c.loop-vm.vm-index c.vm-item.result c.loop-vm-test.true c.vm-item.is)
          (turn.dealt c.args.hosts.now (take c.loop-vm.vm-index c.args.order.now) c.loop-vm.invariant.dealt);
    }

pub returns : goal.returns
returns c =
    let test = c.loop-vm-test.false in
    subst (λ order. Deal c.args.policy.now c.args.hosts.now order c.loop-vm.hosts c.loop-vm.left.items)
    (take_all c.loop-vm.vm-index c.args.order.now (omega (arith, test))) c.loop-vm.invariant.dealt
