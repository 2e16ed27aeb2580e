use Rattle.std.proofs.Common.{◌≡◌, ◌∙◌, sym, true, false}
use Rattle.tab_io.proofs.SinkLemmas.{writes_nothing}
use Rattle.view_table.specs.Sums.{is_first}
use Rattle.view_table.proofs.vm_diff.put_first.Goals as goal

pub returns-then-is_first : goal.returns-then-is_first
returns-then-is_first g c =
    let vm = rw c.deref.ensures.value at c.vm_at-vm.ensures in
    let first : is_first c.args.old.now c.args.vcpu ≡ true = sym c.is_first.ensures ∙ c.if-is_first.true in
    rw (first, ← vm) c.put_old_vm.ensures

pub returns-else-is_first : goal.returns-else-is_first
returns-else-is_first g c =
    let later : is_first c.args.old.now c.args.vcpu ≡ false = sym c.is_first.ensures ∙ c.if-is_first.false in
    rw later (writes_nothing _ _)
