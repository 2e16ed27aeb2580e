use Rattle.std.proofs.lemmas.Result.{err_from_is_err_and}
use Rattle.std.proofs.Common.{refl}
use Rattle.tab_io.proofs.SinkLemmas.{all_left, left_behind, left_broken, left_last}
use Rattle.view_lanes.proofs.titles.put_trace_title.Goals as goal

pub returns-in_err-put_trace_kind : goal.returns-in_err-put_trace_kind
returns-in_err-put_trace_kind g c =
    let p = err_from_is_err_and c.from_residual.result c.from_residual.ensures.1 in
    rw p.1 (left_broken _ _ _ _ _ _ _ _ _ (all_left _ _) refl c.put_trace_kind.ensures c.in_err-put_trace_kind.was)

pub returns-in_err-put_stints : goal.returns-in_err-put_stints
returns-in_err-put_stints g c =
    let p = err_from_is_err_and c.from_residual-in_err-put_stints.result c.from_residual-in_err-put_stints.ensures.1 in
    let at0 = left_behind _ _ _ _ _ _ _ _ _ (all_left _ _) refl c.put_trace_kind.ensures c.in_ok-put_trace_kind.was in
    rw p.1 (left_broken _ _ _ _ _ _ _ _ _ at0 refl c.put_stints.ensures c.in_err-put_stints.was)

pub returns : goal.returns
returns g c =
    let at0 = left_behind _ _ _ _ _ _ _ _ _ (all_left _ _) refl c.put_trace_kind.ensures c.in_ok-put_trace_kind.was in
    let at1 = left_behind _ _ _ _ _ _ _ _ _ at0 refl c.put_stints.ensures c.in_ok-put_stints.was in
    left_last _ _ _ _ _ _ at1 c.put_lanes_word.ensures
