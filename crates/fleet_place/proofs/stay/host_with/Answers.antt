use Rattle.std.proofs.Common.{◌+◌, List, ap, sym, ◌∙◌, arith}
use Rattle.std.proofs.lemmas.List.{take_all}
use Rattle.fleet_place.specs.Deals.{with_vm}
use Rattle.fleet_place.specs.Held.{Held}
use Rattle.fleet_place.specs.declared.vm.Vm.{Vm}
use Rattle.fleet_place.proofs.HeldLemmas.{count_next, count_take, load_next, load_take, take_more}
use Rattle.fleet_place.proofs.stay.host_with.Goals as goal

pub push-requires-clause-much : goal.push-requires-clause-much
push-requires-clause-much c =
    let next = load_next c.args.vms.now c.loop-vm.vm-index c.vm-item.result c.loop-vm-test.true c.vm-item.is in
    let most = load_take (c.loop-vm.vm-index + 1) c.args.vms.now in
    rw c.loop-vm.invariant (omega (arith, next, most, c.requires.much))

pub push-requires-clause-many : goal.push-requires-clause-many
push-requires-clause-many c =
    let next = count_next c.args.vms.now c.loop-vm.vm-index c.vm-item.result c.loop-vm-test.true c.vm-item.is in
    let most = count_take (c.loop-vm.vm-index + 1) c.args.vms.now in
    rw c.loop-vm.invariant (omega (arith, next, most, c.requires.many))

pub loop-vm-preserved : goal.loop-vm-preserved
loop-vm-preserved c =
    let host_of : List Vm → Held = λ vms. record { cores = c.args.cores; vms = vms } in
    c.in_ok-push.ensures
    ∙ (ap (λ (held : Held). with_vm held c.vm-item.result) c.loop-vm.invariant
    ∙ ap host_of (sym (take_more c.args.vms.now c.loop-vm.vm-index c.vm-item.result c.loop-vm-test.true c.vm-item.is)))

pub returns : goal.returns
returns c =
    let host_of : List Vm → Held = λ vms. record { cores = c.args.cores; vms = vms } in
    c.loop-vm.invariant ∙ ap host_of (take_all c.loop-vm.vm-index c.args.vms.now (omega (arith, c.loop-vm-test.false)))
