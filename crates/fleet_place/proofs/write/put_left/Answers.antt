use Rattle.std.proofs.lemmas.Result.{err_from_is_err_and}
use Rattle.tab_words.proofs.PieceLemmas.{pieces_last, pieces_broken}
use Rattle.fleet_place.specs.FleetText.{left_line}
use Rattle.fleet_place.proofs.write.put_left.Goals as goal

pub returns-in_err-put_left_vm : goal.returns-in_err-put_left_vm
returns-in_err-put_left_vm g c =
    let p = err_from_is_err_and c.from_residual.result c.from_residual.ensures.1 in
    rw p.1 (pieces_broken _ _ _ left_line c.args.left.now c.loop-vm.vm-index c.vm-item.result (tt {0}) _
    c.in_err-put_left_vm.field-0.0 c.loop-vm-test.true c.loop-vm.invariant
    (rw (← c.vm-item.is) c.put_left_vm.ensures) c.in_err-put_left_vm.was)

pub loop-vm-preserved : goal.loop-vm-preserved
loop-vm-preserved g c = pieces_last _ _ _ left_line c.args.left.now c.loop-vm.vm-index c.vm-item.result
    (tt {0}) c.in_ok-put_left_vm.field-0 _ c.loop-vm-test.true c.loop-vm.invariant
    (rw (← c.vm-item.is) c.put_left_vm.ensures) c.in_ok-put_left_vm.was
