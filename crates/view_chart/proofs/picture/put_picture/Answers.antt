use Rattle.std.proofs.lemmas.Result.{err_from_is_err_and}
use Rattle.std.proofs.Common.{refl}
use Rattle.tab_io.proofs.SinkLemmas.{all_left, left_behind, left_broken, left_last}
use Rattle.view_chart.specs.Charts.{chart_of}
use Rattle.view_chart.proofs.picture.put_picture.Goals as goal

pub returns-in_err-put_chart_head : goal.returns-in_err-put_chart_head
unfolding chart_of
returns-in_err-put_chart_head g c =
    let p = err_from_is_err_and c.from_residual.result c.from_residual.ensures.1 in
    rw p.1 (left_broken _ _ _ _ _ _ _ _ _ (all_left _ _) refl c.put_chart_head.ensures c.in_err-put_chart_head.was)

pub returns-in_err-put_grounds : goal.returns-in_err-put_grounds
unfolding chart_of
returns-in_err-put_grounds g c =
    let p = err_from_is_err_and c.from_residual-in_err-put_grounds.result c.from_residual-in_err-put_grounds.ensures.1 in
    let at0 = left_behind _ _ _ _ _ _ _ _ _ (all_left _ _) refl c.put_chart_head.ensures c.in_ok-put_chart_head.was in
    rw p.1 (left_broken _ _ _ _ _ _ _ _ _ at0 refl c.put_grounds.ensures c.in_err-put_grounds.was)

pub returns-in_err-put_axis : goal.returns-in_err-put_axis
unfolding chart_of
returns-in_err-put_axis g c =
    let p = err_from_is_err_and c.from_residual-in_err-put_axis.result c.from_residual-in_err-put_axis.ensures.1 in
    let at0 = left_behind _ _ _ _ _ _ _ _ _ (all_left _ _) refl c.put_chart_head.ensures c.in_ok-put_chart_head.was in
    let at1 = left_behind _ _ _ _ _ _ _ _ _ at0 refl c.put_grounds.ensures c.in_ok-put_grounds.was in
    rw p.1 (left_broken _ _ _ _ _ _ _ _ _ at1 refl c.put_axis.ensures c.in_err-put_axis.was)

pub returns-in_err-put_lanes : goal.returns-in_err-put_lanes
unfolding chart_of
returns-in_err-put_lanes g c =
    let p = err_from_is_err_and c.from_residual-in_err-put_lanes.result c.from_residual-in_err-put_lanes.ensures.1 in
    let at0 = left_behind _ _ _ _ _ _ _ _ _ (all_left _ _) refl c.put_chart_head.ensures c.in_ok-put_chart_head.was in
    let at1 = left_behind _ _ _ _ _ _ _ _ _ at0 refl c.put_grounds.ensures c.in_ok-put_grounds.was in
    let at2 = left_behind _ _ _ _ _ _ _ _ _ at1 refl c.put_axis.ensures c.in_ok-put_axis.was in
    rw p.1 (left_broken _ _ _ _ _ _ _ _ _ at2 refl c.put_lanes.ensures c.in_err-put_lanes.was)

pub returns-in_err-put_rounds : goal.returns-in_err-put_rounds
unfolding chart_of
returns-in_err-put_rounds g c =
    let p = err_from_is_err_and c.from_residual-in_err-put_rounds.result c.from_residual-in_err-put_rounds.ensures.1 in
    let at0 = left_behind _ _ _ _ _ _ _ _ _ (all_left _ _) refl c.put_chart_head.ensures c.in_ok-put_chart_head.was in
    let at1 = left_behind _ _ _ _ _ _ _ _ _ at0 refl c.put_grounds.ensures c.in_ok-put_grounds.was in
    let at2 = left_behind _ _ _ _ _ _ _ _ _ at1 refl c.put_axis.ensures c.in_ok-put_axis.was in
    let at3 = left_behind _ _ _ _ _ _ _ _ _ at2 refl c.put_lanes.ensures c.in_ok-put_lanes.was in
    rw p.1 (left_broken _ _ _ _ _ _ _ _ _ at3 refl (rw c.shown_in.ensures at c.put_rounds.ensures) c.in_err-put_rounds.was)

pub returns-in_err-put_legend : goal.returns-in_err-put_legend
unfolding chart_of
returns-in_err-put_legend g c =
    let p = err_from_is_err_and c.from_residual-in_err-put_legend.result c.from_residual-in_err-put_legend.ensures.1 in
    let at0 = left_behind _ _ _ _ _ _ _ _ _ (all_left _ _) refl c.put_chart_head.ensures c.in_ok-put_chart_head.was in
    let at1 = left_behind _ _ _ _ _ _ _ _ _ at0 refl c.put_grounds.ensures c.in_ok-put_grounds.was in
    let at2 = left_behind _ _ _ _ _ _ _ _ _ at1 refl c.put_axis.ensures c.in_ok-put_axis.was in
    let at3 = left_behind _ _ _ _ _ _ _ _ _ at2 refl c.put_lanes.ensures c.in_ok-put_lanes.was in
    let at4 = left_behind _ _ _ _ _ _ _ _ _ at3 refl (rw c.shown_in.ensures at c.put_rounds.ensures) c.in_ok-put_rounds.was in
    rw p.1 (left_broken _ _ _ _ _ _ _ _ _ at4 refl c.put_legend.ensures c.in_err-put_legend.was)

pub returns : goal.returns
unfolding chart_of
returns g c =
    let at0 = left_behind _ _ _ _ _ _ _ _ _ (all_left _ _) refl c.put_chart_head.ensures c.in_ok-put_chart_head.was in
    let at1 = left_behind _ _ _ _ _ _ _ _ _ at0 refl c.put_grounds.ensures c.in_ok-put_grounds.was in
    let at2 = left_behind _ _ _ _ _ _ _ _ _ at1 refl c.put_axis.ensures c.in_ok-put_axis.was in
    let at3 = left_behind _ _ _ _ _ _ _ _ _ at2 refl c.put_lanes.ensures c.in_ok-put_lanes.was in
    let at4 = left_behind _ _ _ _ _ _ _ _ _ at3 refl (rw c.shown_in.ensures at c.put_rounds.ensures) c.in_ok-put_rounds.was in
    let at5 = left_behind _ _ _ _ _ _ _ _ _ at4 refl c.put_legend.ensures c.in_ok-put_legend.was in
    left_last _ _ _ _ _ _ at5 c.write_all.ensures
