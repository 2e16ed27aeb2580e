use Rattle.std.proofs.Common.{◌≡◌, ◌∙◌, sym, true, false, length, rules}
use Rattle.view_table.specs.VmDiff.{is_vm}
use Rattle.view_table.proofs.vm_diff.put_old_vm.Goals as goal

pub returns-then-has_vm : goal.returns-then-has_vm
returns-then-has_vm g c =
    let count : c.len-count.result ≡ length c.args.new.now.tasks.items = search rules in
    let known : is_vm c.args.new.now c.args.vm.now ≡ true = sym (rw count at c.has_vm.ensures) ∙ c.if-has_vm.true in
    rw known c.put_both.ensures

pub returns-else-has_vm : goal.returns-else-has_vm
returns-else-has_vm g c =
    let count : c.len-count.result ≡ length c.args.new.now.tasks.items = search rules in
    let fresh : is_vm c.args.new.now c.args.vm.now ≡ false = sym (rw count at c.has_vm.ensures) ∙ c.if-has_vm.false in
    rw fresh c.put_lone.ensures
