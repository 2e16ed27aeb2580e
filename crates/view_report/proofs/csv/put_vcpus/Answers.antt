use Rattle.std.proofs.lemmas.Result.{err_from_is_err_and}
use Rattle.tab_words.proofs.PieceLemmas.{pieces_last, pieces_broken}
use Rattle.view_report.specs.RunCsv.{vcpu_ran_csv}
use Rattle.view_report.proofs.csv.put_vcpus.Goals as goal

pub returns-in_err-put_vcpu : goal.returns-in_err-put_vcpu
returns-in_err-put_vcpu g c =
    let p = err_from_is_err_and c.from_residual.result c.from_residual.ensures.1 in
    rw p.1 (pieces_broken _ _ _ (vcpu_ran_csv c.args.tick_ns) c.args.vcpus.now c.loop-ran.ran-index _
    (tt {0}) _ c.in_err-put_vcpu.field-0.0 c.loop-ran-test.true c.loop-ran.invariant
    c.put_vcpu.ensures c.in_err-put_vcpu.was)

pub loop-ran-preserved : goal.loop-ran-preserved
loop-ran-preserved g c =
    pieces_last _ _ _ (vcpu_ran_csv c.args.tick_ns) c.args.vcpus.now c.loop-ran.ran-index _
    (tt {0}) c.in_ok-put_vcpu.field-0 _ c.loop-ran-test.true c.loop-ran.invariant
    c.put_vcpu.ensures c.in_ok-put_vcpu.was
