use Rattle.std.proofs.Common.{refl}
use Rattle.std.proofs.lemmas.Result.{err_from_is_err_and}
use Rattle.tab_io.proofs.SinkLemmas.{all_left, left_behind, left_broken, left_last}
use Rattle.run_course.proofs.write.write_run.Goals as goal

pub returns-in_err-put_traces-in-Trace : goal.returns-in_err-put_traces-in-Trace
returns-in_err-put_traces-in-Trace g c =
    let p = err_from_is_err_and c.from_residual.result c.from_residual.ensures.1 in
    rw (c.in-Trace.is, p.1) (left_broken _ _ _ _ _ _ _ _ _ (all_left _ _) refl c.put_traces.ensures c.in_err-put_traces-in-Trace.was)

pub returns-in_ok-put_traces-in-Trace : goal.returns-in_ok-put_traces-in-Trace
returns-in_ok-put_traces-in-Trace g c =
    rw c.in-Trace.is (left_last _ _ _ _ _ _ (left_behind _ _ _ _ _ _ _ _ _ (all_left _ _) refl c.put_traces.ensures c.in_ok-put_traces-in-Trace.was) c.put_report-in-Trace.ensures)
