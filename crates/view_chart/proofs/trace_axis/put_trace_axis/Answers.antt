use Rattle.std.proofs.lemmas.Result.{err_from_is_err_and}
use Rattle.std.proofs.Common.{refl}
use Rattle.tab_io.proofs.SinkLemmas.{all_left, left_behind, left_broken, left_last}
use Rattle.view_chart.proofs.trace_axis.put_trace_axis.Goals as goal

pub returns-in_err-put_time_axis : goal.returns-in_err-put_time_axis
returns-in_err-put_time_axis g c =
    let p = err_from_is_err_and c.from_residual.result c.from_residual.ensures.1 in
    rw p.1 (left_broken _ _ _ _ _ _ _ _ _ (all_left _ _) refl c.put_time_axis.ensures c.in_err-put_time_axis.was)

pub returns : goal.returns
returns g c =
    let at0 = left_behind _ _ _ _ _ _ _ _ _ (all_left _ _) refl c.put_time_axis.ensures c.in_ok-put_time_axis.was in
    left_last _ _ _ _ _ _ at0 c.put_ns_axis.ensures
