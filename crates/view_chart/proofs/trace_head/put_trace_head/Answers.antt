use Rattle.std.proofs.lemmas.Result.{err_from_is_err_and}
use Rattle.std.proofs.Common.{refl}
use Rattle.tab_io.proofs.SinkLemmas.{all_left, left_behind, left_broken, left_last}
use Rattle.view_chart.proofs.trace_head.put_trace_head.Goals as goal

pub returns-in_err-put_size : goal.returns-in_err-put_size
returns-in_err-put_size g c =
    let p = err_from_is_err_and c.from_residual.result c.from_residual.ensures.1 in
    rw p.1 (left_broken _ _ _ _ _ _ _ _ _ (all_left _ _) refl c.put_size.ensures c.in_err-put_size.was)

pub returns-in_err-put_trace_title : goal.returns-in_err-put_trace_title
returns-in_err-put_trace_title g c =
    let p = err_from_is_err_and c.from_residual-in_err-put_trace_title.result c.from_residual-in_err-put_trace_title.ensures.1 in
    let at0 = left_behind _ _ _ _ _ _ _ _ _ (all_left _ _) refl c.put_size.ensures c.in_ok-put_size.was in
    rw p.1 (left_broken _ _ _ _ _ _ _ _ _ at0 refl c.put_trace_title.ensures c.in_err-put_trace_title.was)

pub returns-in_err-put_desc : goal.returns-in_err-put_desc
returns-in_err-put_desc g c =
    let p = err_from_is_err_and c.from_residual-in_err-put_desc.result c.from_residual-in_err-put_desc.ensures.1 in
    let at0 = left_behind _ _ _ _ _ _ _ _ _ (all_left _ _) refl c.put_size.ensures c.in_ok-put_size.was in
    let at1 = left_behind _ _ _ _ _ _ _ _ _ at0 refl c.put_trace_title.ensures c.in_ok-put_trace_title.was in
    rw p.1 (left_broken _ _ _ _ _ _ _ _ _ at1 refl c.put_desc.ensures c.in_err-put_desc.was)

pub returns-in_err-put_trace_sub : goal.returns-in_err-put_trace_sub
returns-in_err-put_trace_sub g c =
    let p = err_from_is_err_and c.from_residual-in_err-put_trace_sub.result c.from_residual-in_err-put_trace_sub.ensures.1 in
    let at0 = left_behind _ _ _ _ _ _ _ _ _ (all_left _ _) refl c.put_size.ensures c.in_ok-put_size.was in
    let at1 = left_behind _ _ _ _ _ _ _ _ _ at0 refl c.put_trace_title.ensures c.in_ok-put_trace_title.was in
    let at2 = left_behind _ _ _ _ _ _ _ _ _ at1 refl c.put_desc.ensures c.in_ok-put_desc.was in
    rw p.1 (left_broken _ _ _ _ _ _ _ _ _ at2 refl c.put_trace_sub.ensures c.in_err-put_trace_sub.was)

pub returns-in_err-put_style : goal.returns-in_err-put_style
returns-in_err-put_style g c =
    let p = err_from_is_err_and c.from_residual-in_err-put_style.result c.from_residual-in_err-put_style.ensures.1 in
    let at0 = left_behind _ _ _ _ _ _ _ _ _ (all_left _ _) refl c.put_size.ensures c.in_ok-put_size.was in
    let at1 = left_behind _ _ _ _ _ _ _ _ _ at0 refl c.put_trace_title.ensures c.in_ok-put_trace_title.was in
    let at2 = left_behind _ _ _ _ _ _ _ _ _ at1 refl c.put_desc.ensures c.in_ok-put_desc.was in
    let at3 = left_behind _ _ _ _ _ _ _ _ _ at2 refl c.put_trace_sub.ensures c.in_ok-put_trace_sub.was in
    rw p.1 (left_broken _ _ _ _ _ _ _ _ _ at3 refl c.put_style.ensures c.in_err-put_style.was)

pub returns-in_err-put_ground : goal.returns-in_err-put_ground
returns-in_err-put_ground g c =
    let p = err_from_is_err_and c.from_residual-in_err-put_ground.result c.from_residual-in_err-put_ground.ensures.1 in
    let at0 = left_behind _ _ _ _ _ _ _ _ _ (all_left _ _) refl c.put_size.ensures c.in_ok-put_size.was in
    let at1 = left_behind _ _ _ _ _ _ _ _ _ at0 refl c.put_trace_title.ensures c.in_ok-put_trace_title.was in
    let at2 = left_behind _ _ _ _ _ _ _ _ _ at1 refl c.put_desc.ensures c.in_ok-put_desc.was in
    let at3 = left_behind _ _ _ _ _ _ _ _ _ at2 refl c.put_trace_sub.ensures c.in_ok-put_trace_sub.was in
    let at4 = left_behind _ _ _ _ _ _ _ _ _ at3 refl c.put_style.ensures c.in_ok-put_style.was in
    rw p.1 (left_broken _ _ _ _ _ _ _ _ _ at4 refl c.put_ground.ensures c.in_err-put_ground.was)

pub returns-in_err-put_trace_title-2 : goal.returns-in_err-put_trace_title-2
returns-in_err-put_trace_title-2 g c =
    let p = err_from_is_err_and c.from_residual-in_err-put_trace_title-2.result c.from_residual-in_err-put_trace_title-2.ensures.1 in
    let at0 = left_behind _ _ _ _ _ _ _ _ _ (all_left _ _) refl c.put_size.ensures c.in_ok-put_size.was in
    let at1 = left_behind _ _ _ _ _ _ _ _ _ at0 refl c.put_trace_title.ensures c.in_ok-put_trace_title.was in
    let at2 = left_behind _ _ _ _ _ _ _ _ _ at1 refl c.put_desc.ensures c.in_ok-put_desc.was in
    let at3 = left_behind _ _ _ _ _ _ _ _ _ at2 refl c.put_trace_sub.ensures c.in_ok-put_trace_sub.was in
    let at4 = left_behind _ _ _ _ _ _ _ _ _ at3 refl c.put_style.ensures c.in_ok-put_style.was in
    let at5 = left_behind _ _ _ _ _ _ _ _ _ at4 refl c.put_ground.ensures c.in_ok-put_ground.was in
    rw p.1 (left_broken _ _ _ _ _ _ _ _ _ at5 refl c.put_trace_title-2.ensures c.in_err-put_trace_title-2.was)

pub returns-in_err-write_all : goal.returns-in_err-write_all
returns-in_err-write_all g c =
    let p = err_from_is_err_and c.from_residual-in_err-write_all.result c.from_residual-in_err-write_all.ensures.1 in
    let at0 = left_behind _ _ _ _ _ _ _ _ _ (all_left _ _) refl c.put_size.ensures c.in_ok-put_size.was in
    let at1 = left_behind _ _ _ _ _ _ _ _ _ at0 refl c.put_trace_title.ensures c.in_ok-put_trace_title.was in
    let at2 = left_behind _ _ _ _ _ _ _ _ _ at1 refl c.put_desc.ensures c.in_ok-put_desc.was in
    let at3 = left_behind _ _ _ _ _ _ _ _ _ at2 refl c.put_trace_sub.ensures c.in_ok-put_trace_sub.was in
    let at4 = left_behind _ _ _ _ _ _ _ _ _ at3 refl c.put_style.ensures c.in_ok-put_style.was in
    let at5 = left_behind _ _ _ _ _ _ _ _ _ at4 refl c.put_ground.ensures c.in_ok-put_ground.was in
    let at6 = left_behind _ _ _ _ _ _ _ _ _ at5 refl c.put_trace_title-2.ensures c.in_ok-put_trace_title-2.was in
    rw p.1 (left_broken _ _ _ _ _ _ _ _ _ at6 refl c.write_all.ensures c.in_err-write_all.was)

pub returns-in_err-put_trace_sub-2 : goal.returns-in_err-put_trace_sub-2
returns-in_err-put_trace_sub-2 g c =
    let p = err_from_is_err_and c.from_residual-in_err-put_trace_sub-2.result c.from_residual-in_err-put_trace_sub-2.ensures.1 in
    let at0 = left_behind _ _ _ _ _ _ _ _ _ (all_left _ _) refl c.put_size.ensures c.in_ok-put_size.was in
    let at1 = left_behind _ _ _ _ _ _ _ _ _ at0 refl c.put_trace_title.ensures c.in_ok-put_trace_title.was in
    let at2 = left_behind _ _ _ _ _ _ _ _ _ at1 refl c.put_desc.ensures c.in_ok-put_desc.was in
    let at3 = left_behind _ _ _ _ _ _ _ _ _ at2 refl c.put_trace_sub.ensures c.in_ok-put_trace_sub.was in
    let at4 = left_behind _ _ _ _ _ _ _ _ _ at3 refl c.put_style.ensures c.in_ok-put_style.was in
    let at5 = left_behind _ _ _ _ _ _ _ _ _ at4 refl c.put_ground.ensures c.in_ok-put_ground.was in
    let at6 = left_behind _ _ _ _ _ _ _ _ _ at5 refl c.put_trace_title-2.ensures c.in_ok-put_trace_title-2.was in
    let at7 = left_behind _ _ _ _ _ _ _ _ _ at6 refl c.write_all.ensures c.in_ok-write_all.was in
    rw p.1 (left_broken _ _ _ _ _ _ _ _ _ at7 refl c.put_trace_sub-2.ensures c.in_err-put_trace_sub-2.was)

pub returns : goal.returns
returns g c =
    let at0 = left_behind _ _ _ _ _ _ _ _ _ (all_left _ _) refl c.put_size.ensures c.in_ok-put_size.was in
    let at1 = left_behind _ _ _ _ _ _ _ _ _ at0 refl c.put_trace_title.ensures c.in_ok-put_trace_title.was in
    let at2 = left_behind _ _ _ _ _ _ _ _ _ at1 refl c.put_desc.ensures c.in_ok-put_desc.was in
    let at3 = left_behind _ _ _ _ _ _ _ _ _ at2 refl c.put_trace_sub.ensures c.in_ok-put_trace_sub.was in
    let at4 = left_behind _ _ _ _ _ _ _ _ _ at3 refl c.put_style.ensures c.in_ok-put_style.was in
    let at5 = left_behind _ _ _ _ _ _ _ _ _ at4 refl c.put_ground.ensures c.in_ok-put_ground.was in
    let at6 = left_behind _ _ _ _ _ _ _ _ _ at5 refl c.put_trace_title-2.ensures c.in_ok-put_trace_title-2.was in
    let at7 = left_behind _ _ _ _ _ _ _ _ _ at6 refl c.write_all.ensures c.in_ok-write_all.was in
    let at8 = left_behind _ _ _ _ _ _ _ _ _ at7 refl c.put_trace_sub-2.ensures c.in_ok-put_trace_sub-2.was in
    left_last _ _ _ _ _ _ at8 c.put_trace_end.ensures
