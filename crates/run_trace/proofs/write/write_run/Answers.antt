use Rattle.std.proofs.Common.{refl}
use Rattle.std.proofs.lemmas.Result.{err_from_is_err_and}
use Rattle.tab_io.proofs.SinkLemmas.{all_left, left_behind, left_broken, left_last}
use Rattle.run_trace.proofs.write.write_run.Goals as goal

pub returns-in_err-put_trace_head : goal.returns-in_err-put_trace_head
returns-in_err-put_trace_head g c =
    let p = err_from_is_err_and c.from_residual.result c.from_residual.ensures.1 in
    rw p.1 (left_broken _ _ _ _ _ _ _ _ _ (all_left _ _) refl c.put_trace_head.ensures c.in_err-put_trace_head.was)

pub returns-in_err-put_waits : goal.returns-in_err-put_waits
returns-in_err-put_waits g c =
    let p = err_from_is_err_and c.from_residual-in_err-put_waits.result c.from_residual-in_err-put_waits.ensures.1 in
    let at0 = left_behind _ _ _ _ _ _ _ _ _ (all_left _ _) refl c.put_trace_head.ensures c.in_ok-put_trace_head.was in
    rw p.1 (left_broken _ _ _ _ _ _ _ _ _ at0 refl c.put_waits.ensures c.in_err-put_waits.was)

pub returns : goal.returns
returns g c =
    let at0 = left_behind _ _ _ _ _ _ _ _ _ (all_left _ _) refl c.put_trace_head.ensures c.in_ok-put_trace_head.was in
    let at1 = left_behind _ _ _ _ _ _ _ _ _ at0 refl c.put_waits.ensures c.in_ok-put_waits.was in
    left_last _ _ _ _ _ _ at1 c.put_turns.ensures
