use Rattle.std.proofs.lemmas.Result.{err_from_is_err_and}
use Rattle.tab_words.proofs.NumberedTextLemmas.{all_written, next_broken, next_written, none_written}
use Rattle.std.proofs.Common.{◌≡◌, length, option_copied, rules}
use Rattle.view_table.specs.Given.{is_refused}
use Rattle.view_table.specs.Groups.{vm_row}
use Rattle.view_table.proofs.groups.put_vms.Goals as goal

pub loop-vcpu-init : goal.loop-vcpu-init
loop-vcpu-init g c = none_written _ _ (tt {0})

pub returns-in_err-put_vm : goal.returns-in_err-put_vm
returns-in_err-put_vm g c =
    let p = err_from_is_err_and c.from_residual.result c.from_residual.ensures.1 in
    let count : c.len-vcpu-end.result ≡ length c.args.view.now.tasks.items = search rules in
    rw (p.1, ← count) (next_broken _ _ _ (vm_row (option_copied c.args.host) (is_refused c.args.figures.now.refusal.items) c.args.tick_ns c.args.width c.args.view.now.names.items c.args.view.now.tasks.items c.args.view.now.slots.items c.args.view.now.cores) c.loop-vcpu.vcpu _ (tt {0}) _ c.in_err-put_vm.field-0.0
    c.loop-vcpu-test.true c.loop-vcpu.invariant c.put_vm.ensures c.in_err-put_vm.was)

pub loop-vcpu-preserved : goal.loop-vcpu-preserved
loop-vcpu-preserved g c = next_written _ _ _ (vm_row (option_copied c.args.host) (is_refused c.args.figures.now.refusal.items) c.args.tick_ns c.args.width c.args.view.now.names.items c.args.view.now.tasks.items c.args.view.now.slots.items c.args.view.now.cores) c.loop-vcpu.vcpu (tt {0}) c.in_ok-put_vm.field-0 _
    c.loop-vcpu.invariant c.put_vm.ensures c.in_ok-put_vm.was

pub returns : goal.returns
returns g c =
    let count : c.len-vcpu-end.result ≡ length c.args.view.now.tasks.items = search rules in
    rw (← count) (all_written _ _ (vm_row (option_copied c.args.host) (is_refused c.args.figures.now.refusal.items) c.args.tick_ns c.args.width c.args.view.now.names.items c.args.view.now.tasks.items c.args.view.now.slots.items c.args.view.now.cores) c.loop-vcpu.vcpu _ (tt {0}) c.loop-vcpu.auto.vcpu-end
    c.loop-vcpu-test.false c.loop-vcpu.invariant)
