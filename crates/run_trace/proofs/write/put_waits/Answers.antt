use Rattle.std.proofs.lemmas.Result.{err_from_is_err_and}
use Rattle.tab_words.proofs.PieceLemmas.{pieces_last, pieces_broken}
use Rattle.run_trace.specs.RunTraces.{waits_line}
use Rattle.run_trace.proofs.write.put_waits.Goals as goal

pub returns-in_err-put_wait : goal.returns-in_err-put_wait
returns-in_err-put_wait g c =
    let p = err_from_is_err_and c.from_residual.result c.from_residual.ensures.1 in
    rw p.1 (pieces_broken _ _ _ waits_line c.args.vcpus.now c.loop-ran.ran-index _
    (tt {0}) _ c.in_err-put_wait.field-0.0 c.loop-ran-test.true c.loop-ran.invariant
    c.put_wait.ensures c.in_err-put_wait.was)

pub loop-ran-preserved : goal.loop-ran-preserved
loop-ran-preserved g c =
    pieces_last _ _ _ waits_line c.args.vcpus.now c.loop-ran.ran-index _
    (tt {0}) c.in_ok-put_wait.field-0 _ c.loop-ran-test.true c.loop-ran.invariant
    c.put_wait.ensures c.in_ok-put_wait.was
