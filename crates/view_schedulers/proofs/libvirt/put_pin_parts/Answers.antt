use Rattle.std.proofs.lemmas.Result.{err_from_is_err_and}
use Rattle.tab_words.proofs.NumberedTextLemmas.{all_written, next_broken, next_written, none_written}
use Rattle.view_schedulers.specs.Lines.{each_vcpu_text}
use Rattle.view_schedulers.specs.LibvirtLines.{pin_part_of}
use Rattle.view_schedulers.proofs.libvirt.put_pin_parts.Goals as goal

pub loop-vcpu-init : goal.loop-vcpu-init
loop-vcpu-init g c = none_written _ _ (tt {0})

pub returns-in_err-put_pin_part_at : goal.returns-in_err-put_pin_part_at
returns-in_err-put_pin_part_at g c =
    let p = err_from_is_err_and c.from_residual.result c.from_residual.ensures.1 in
    rw p.1 (next_broken _ _ _ (each_vcpu_text (pin_part_of c.args.cpus.now c.args.guest.now) c.args.names.now c.args.tasks.now)
    c.loop-vcpu.vcpu _ (tt {0}) _ c.in_err-put_pin_part_at.field-0.0 c.loop-vcpu-test.true c.loop-vcpu.invariant
    c.put_pin_part_at.ensures c.in_err-put_pin_part_at.was)

pub loop-vcpu-preserved : goal.loop-vcpu-preserved
loop-vcpu-preserved g c = next_written _ _ _
    (each_vcpu_text (pin_part_of c.args.cpus.now c.args.guest.now) c.args.names.now c.args.tasks.now)
    c.loop-vcpu.vcpu (tt {0}) c.in_ok-put_pin_part_at.field-0 _ c.loop-vcpu.invariant c.put_pin_part_at.ensures c.in_ok-put_pin_part_at.was

pub returns : goal.returns
returns g c = all_written _ _ (each_vcpu_text (pin_part_of c.args.cpus.now c.args.guest.now) c.args.names.now c.args.tasks.now)
    c.loop-vcpu.vcpu _ (tt {0}) c.loop-vcpu.auto.vcpu-end c.loop-vcpu-test.false c.loop-vcpu.invariant
