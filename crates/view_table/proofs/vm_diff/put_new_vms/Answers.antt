use Rattle.std.proofs.lemmas.Result.{err_from_is_err_and}
use Rattle.tab_words.proofs.NumberedTextLemmas.{all_written, next_broken, next_written, none_written}
use Rattle.std.proofs.Common.{◌≡◌, length, rules}
use Rattle.view_table.specs.VmDiff.{new_vm_lines}
use Rattle.view_table.proofs.vm_diff.put_new_vms.Goals as goal

pub loop-vcpu-init : goal.loop-vcpu-init
loop-vcpu-init g c = none_written _ _ (tt {0})

pub returns-in_err-put_new_first : goal.returns-in_err-put_new_first
returns-in_err-put_new_first g c =
    let p = err_from_is_err_and c.from_residual.result c.from_residual.ensures.1 in
    let count : c.len-vcpu-end.result ≡ length c.args.new.now.tasks.items = search rules in
    rw (p.1, ← count) (next_broken _ _ _ (new_vm_lines c.args.old.now c.args.new.now) c.loop-vcpu.vcpu _ (tt {0}) _ c.in_err-put_new_first.field-0.0
    c.loop-vcpu-test.true c.loop-vcpu.invariant c.put_new_first.ensures c.in_err-put_new_first.was)

pub loop-vcpu-preserved : goal.loop-vcpu-preserved
loop-vcpu-preserved g c = next_written _ _ _ (new_vm_lines c.args.old.now c.args.new.now) c.loop-vcpu.vcpu (tt {0}) c.in_ok-put_new_first.field-0 _
    c.loop-vcpu.invariant c.put_new_first.ensures c.in_ok-put_new_first.was

pub returns : goal.returns
returns g c =
    let count : c.len-vcpu-end.result ≡ length c.args.new.now.tasks.items = search rules in
    rw (← count) (all_written _ _ (new_vm_lines c.args.old.now c.args.new.now) c.loop-vcpu.vcpu _ (tt {0}) c.loop-vcpu.auto.vcpu-end
    c.loop-vcpu-test.false c.loop-vcpu.invariant)
