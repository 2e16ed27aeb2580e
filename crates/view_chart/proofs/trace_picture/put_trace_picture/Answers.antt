use Rattle.std.proofs.lemmas.Result.{err_from_is_err_and}
use Rattle.std.proofs.Common.{refl}
use Rattle.tab_io.proofs.SinkLemmas.{all_left, left_behind, left_broken, left_last}
use Rattle.view_chart.specs.Traces.{drawn_trace}
use Rattle.view_chart.proofs.trace_picture.put_trace_picture.Goals as goal

pub returns-in_err-put_picture_head : goal.returns-in_err-put_picture_head
unfolding drawn_trace
returns-in_err-put_picture_head g c =
    let p = err_from_is_err_and c.from_residual.result c.from_residual.ensures.1 in
    rw p.1 (left_broken _ _ _ _ _ _ _ _ _ (all_left _ _) refl c.put_picture_head.ensures c.in_err-put_picture_head.was)

pub returns-in_err-put_grounds : goal.returns-in_err-put_grounds
unfolding drawn_trace
returns-in_err-put_grounds g c =
    let p = err_from_is_err_and c.from_residual-in_err-put_grounds.result c.from_residual-in_err-put_grounds.ensures.1 in
    let at0 = left_behind _ _ _ _ _ _ _ _ _ (all_left _ _) refl c.put_picture_head.ensures c.in_ok-put_picture_head.was in
    rw p.1 (left_broken _ _ _ _ _ _ _ _ _ at0 refl c.put_grounds.ensures c.in_err-put_grounds.was)

pub returns-in_err-put_trace_axis : goal.returns-in_err-put_trace_axis
unfolding drawn_trace
returns-in_err-put_trace_axis g c =
    let p = err_from_is_err_and c.from_residual-in_err-put_trace_axis.result c.from_residual-in_err-put_trace_axis.ensures.1 in
    let at0 = left_behind _ _ _ _ _ _ _ _ _ (all_left _ _) refl c.put_picture_head.ensures c.in_ok-put_picture_head.was in
    let at1 = left_behind _ _ _ _ _ _ _ _ _ at0 refl c.put_grounds.ensures c.in_ok-put_grounds.was in
    rw p.1 (left_broken _ _ _ _ _ _ _ _ _ at1 refl c.put_trace_axis.ensures c.in_err-put_trace_axis.was)

pub returns-in_err-put_lanes : goal.returns-in_err-put_lanes
unfolding drawn_trace
returns-in_err-put_lanes g c =
    let p = err_from_is_err_and c.from_residual-in_err-put_lanes.result c.from_residual-in_err-put_lanes.ensures.1 in
    let at0 = left_behind _ _ _ _ _ _ _ _ _ (all_left _ _) refl c.put_picture_head.ensures c.in_ok-put_picture_head.was in
    let at1 = left_behind _ _ _ _ _ _ _ _ _ at0 refl c.put_grounds.ensures c.in_ok-put_grounds.was in
    let at2 = left_behind _ _ _ _ _ _ _ _ _ at1 refl c.put_trace_axis.ensures c.in_ok-put_trace_axis.was in
    rw p.1 (left_broken _ _ _ _ _ _ _ _ _ at2 refl (rw c.deref.ensures.value at c.put_lanes.ensures) c.in_err-put_lanes.was)

pub returns-in_err-put_legend : goal.returns-in_err-put_legend
unfolding drawn_trace
returns-in_err-put_legend g c =
    let p = err_from_is_err_and c.from_residual-in_err-put_legend.result c.from_residual-in_err-put_legend.ensures.1 in
    let at0 = left_behind _ _ _ _ _ _ _ _ _ (all_left _ _) refl c.put_picture_head.ensures c.in_ok-put_picture_head.was in
    let at1 = left_behind _ _ _ _ _ _ _ _ _ at0 refl c.put_grounds.ensures c.in_ok-put_grounds.was in
    let at2 = left_behind _ _ _ _ _ _ _ _ _ at1 refl c.put_trace_axis.ensures c.in_ok-put_trace_axis.was in
    let at3 = left_behind _ _ _ _ _ _ _ _ _ at2 refl (rw c.deref.ensures.value at c.put_lanes.ensures) c.in_ok-put_lanes.was in
    rw p.1 (left_broken _ _ _ _ _ _ _ _ _ at3 refl c.put_legend.ensures c.in_err-put_legend.was)

pub returns : goal.returns
unfolding drawn_trace
returns g c =
    let at0 = left_behind _ _ _ _ _ _ _ _ _ (all_left _ _) refl c.put_picture_head.ensures c.in_ok-put_picture_head.was in
    let at1 = left_behind _ _ _ _ _ _ _ _ _ at0 refl c.put_grounds.ensures c.in_ok-put_grounds.was in
    let at2 = left_behind _ _ _ _ _ _ _ _ _ at1 refl c.put_trace_axis.ensures c.in_ok-put_trace_axis.was in
    let at3 = left_behind _ _ _ _ _ _ _ _ _ at2 refl (rw c.deref.ensures.value at c.put_lanes.ensures) c.in_ok-put_lanes.was in
    let at4 = left_behind _ _ _ _ _ _ _ _ _ at3 refl c.put_legend.ensures c.in_ok-put_legend.was in
    left_last _ _ _ _ _ _ at4 c.write_all.ensures
