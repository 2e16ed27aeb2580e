use Rattle.std.proofs.lemmas.Result.{err_from_is_err_and}
use Rattle.tab_words.proofs.NumberedTextLemmas.{all_written, next_broken, next_written, none_written}
use Rattle.view_export.specs.Json.{vcpu_row}
use Rattle.view_export.proofs.json.put_vcpus.Goals as goal

pub loop-vcpu-init : goal.loop-vcpu-init
loop-vcpu-init g c = none_written _ _ (tt {0})

pub returns-in_err-put_vcpu : goal.returns-in_err-put_vcpu
returns-in_err-put_vcpu g c =
    let p = err_from_is_err_and c.from_residual.result c.from_residual.ensures.1 in
    rw p.1 (next_broken _ _ _ (vcpu_row c.args.names.now c.args.tasks.now) c.loop-vcpu.vcpu _ (tt {0}) _
    c.in_err-put_vcpu.field-0.0 c.loop-vcpu-test.true c.loop-vcpu.invariant c.put_vcpu.ensures
    c.in_err-put_vcpu.was)

pub loop-vcpu-preserved : goal.loop-vcpu-preserved
loop-vcpu-preserved g c = next_written _ _ _ (vcpu_row c.args.names.now c.args.tasks.now) c.loop-vcpu.vcpu
    (tt {0}) c.in_ok-put_vcpu.field-0 _ c.loop-vcpu.invariant c.put_vcpu.ensures c.in_ok-put_vcpu.was

pub returns : goal.returns
returns g c = all_written _ _ (vcpu_row c.args.names.now c.args.tasks.now) c.loop-vcpu.vcpu _ (tt {0})
    c.loop-vcpu.auto.vcpu-end c.loop-vcpu-test.false c.loop-vcpu.invariant
