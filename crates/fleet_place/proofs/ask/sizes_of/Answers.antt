use Rattle.std.proofs.Common.{ap, ◌∙◌, arith}
use Rattle.std.proofs.lemmas.List.{take_all}
use Rattle.fleet_place.specs.Held.{sizes_in}
use Rattle.fleet_place.proofs.HeldLemmas.{sizes_next}
use Rattle.fleet_place.proofs.ask.sizes_of.Goals as goal

pub loop-vm-preserved : goal.loop-vm-preserved
loop-vm-preserved c = c.in_ok-push.ensures.items ∙ sizes_next c.args.vms.now c.loop-vm.vm-index c.loop-vm.sizes.items
    c.vm-item.result c.loop-vm-test.true c.vm-item.is c.loop-vm.invariant

pub returns : goal.returns
returns c = c.loop-vm.invariant ∙ ap sizes_in (take_all c.loop-vm.vm-index c.args.vms.now (omega (arith, c.loop-vm-test.false)))
