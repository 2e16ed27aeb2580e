use Rattle.std.proofs.lemmas.Result.{err_from_is_err_and}
use Rattle.tab_words.proofs.PieceLemmas.{pieces_last, pieces_broken}
use Rattle.host_gen.specs.HostText.{vcpu_text}
use Rattle.host_gen.proofs.write.put_vcpus.Goals as goal

pub returns-in_err-put_vcpu : goal.returns-in_err-put_vcpu
returns-in_err-put_vcpu g c =
    let p = err_from_is_err_and c.from_residual.result c.from_residual.ensures.1 in
    rw p.1 (pieces_broken _ _ _ vcpu_text c.args.vcpus.now c.loop-vcpu.vcpu-index c.vcpu-item.result
    (tt {0}) _ c.in_err-put_vcpu.field-0.0 c.loop-vcpu-test.true c.loop-vcpu.invariant
    (rw (← c.vcpu-item.is) c.put_vcpu.ensures) c.in_err-put_vcpu.was)

pub loop-vcpu-preserved : goal.loop-vcpu-preserved
loop-vcpu-preserved g c =
    pieces_last _ _ _ vcpu_text c.args.vcpus.now c.loop-vcpu.vcpu-index c.vcpu-item.result
    (tt {0}) c.in_ok-put_vcpu.field-0 _ c.loop-vcpu-test.true c.loop-vcpu.invariant
    (rw (← c.vcpu-item.is) c.put_vcpu.ensures) c.in_ok-put_vcpu.was
