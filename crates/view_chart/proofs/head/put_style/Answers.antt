use Rattle.std.proofs.lemmas.Result.{err_from_is_err_and}
use Rattle.std.proofs.Common.{refl}
use Rattle.tab_io.proofs.SinkLemmas.{all_left, left_behind, left_broken, left_last}
use Rattle.view_chart.proofs.head.put_style.Goals as goal

pub returns-in_err-put_style_begin : goal.returns-in_err-put_style_begin
returns-in_err-put_style_begin g c =
    let p = err_from_is_err_and c.from_residual.result c.from_residual.ensures.1 in
    rw p.1 (left_broken _ _ _ _ _ _ _ _ _ (all_left _ _) refl c.put_style_begin.ensures c.in_err-put_style_begin.was)

pub returns-in_err-put_rules : goal.returns-in_err-put_rules
returns-in_err-put_rules g c =
    let p = err_from_is_err_and c.from_residual-in_err-put_rules.result c.from_residual-in_err-put_rules.ensures.1 in
    let at0 = left_behind _ _ _ _ _ _ _ _ _ (all_left _ _) refl c.put_style_begin.ensures c.in_ok-put_style_begin.was in
    rw p.1 (left_broken _ _ _ _ _ _ _ _ _ at0 refl c.put_rules.ensures c.in_err-put_rules.was)

pub returns-in_err-put_style_dark : goal.returns-in_err-put_style_dark
returns-in_err-put_style_dark g c =
    let p = err_from_is_err_and c.from_residual-in_err-put_style_dark.result c.from_residual-in_err-put_style_dark.ensures.1 in
    let at0 = left_behind _ _ _ _ _ _ _ _ _ (all_left _ _) refl c.put_style_begin.ensures c.in_ok-put_style_begin.was in
    let at1 = left_behind _ _ _ _ _ _ _ _ _ at0 refl c.put_rules.ensures c.in_ok-put_rules.was in
    rw p.1 (left_broken _ _ _ _ _ _ _ _ _ at1 refl c.put_style_dark.ensures c.in_err-put_style_dark.was)

pub returns-in_err-put_fills : goal.returns-in_err-put_fills
returns-in_err-put_fills g c =
    let p = err_from_is_err_and c.from_residual-in_err-put_fills.result c.from_residual-in_err-put_fills.ensures.1 in
    let at0 = left_behind _ _ _ _ _ _ _ _ _ (all_left _ _) refl c.put_style_begin.ensures c.in_ok-put_style_begin.was in
    let at1 = left_behind _ _ _ _ _ _ _ _ _ at0 refl c.put_rules.ensures c.in_ok-put_rules.was in
    let at2 = left_behind _ _ _ _ _ _ _ _ _ at1 refl c.put_style_dark.ensures c.in_ok-put_style_dark.was in
    rw p.1 (left_broken _ _ _ _ _ _ _ _ _ at2 refl c.put_fills.ensures c.in_err-put_fills.was)

pub returns : goal.returns
returns g c =
    let at0 = left_behind _ _ _ _ _ _ _ _ _ (all_left _ _) refl c.put_style_begin.ensures c.in_ok-put_style_begin.was in
    let at1 = left_behind _ _ _ _ _ _ _ _ _ at0 refl c.put_rules.ensures c.in_ok-put_rules.was in
    let at2 = left_behind _ _ _ _ _ _ _ _ _ at1 refl c.put_style_dark.ensures c.in_ok-put_style_dark.was in
    let at3 = left_behind _ _ _ _ _ _ _ _ _ at2 refl c.put_fills.ensures c.in_ok-put_fills.was in
    left_last _ _ _ _ _ _ at3 c.write_all.ensures
