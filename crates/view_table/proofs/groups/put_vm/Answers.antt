use Rattle.std.proofs.Common.{◌∙◌, sym}
use Rattle.tab_io.proofs.SinkLemmas.{writes_nothing}
use Rattle.view_table.proofs.groups.put_vm.Goals as goal

pub returns-then-has_vm : goal.returns-then-has_vm
returns-then-has_vm g c =
    let vm = rw c.deref.ensures.value at c.vm_at-vm.ensures in
    let known = sym c.has_vm.ensures ∙ c.if-has_vm.true in
    rw (← vm, known) (writes_nothing _ _)

pub returns : goal.returns
returns g c =
    let vm = rw c.deref.ensures.value at c.vm_at-vm.ensures in
    let fresh = sym c.has_vm.ensures ∙ c.if-has_vm.false in
    rw (← vm, fresh) c.put_vm_line.ensures
