use Rattle.std.proofs.Common.{◌≡◌, Err, ap, refl, sym, subst}
use Rattle.std.proofs.lemmas.Result.{err_from_is_err_and}
use Rattle.plan_text.specs.RowReading.{HasRead}
use Rattle.plan_text.specs.declared.read_fault.ReadPlan.TheVariants.{BadLine}
use Rattle.plan_text.proofs.RowReaderLemmas.{bad_in_rows, row_read}
use Rattle.plan_text.proofs.row_reader.RowReader.read_row.Goals as goal

pub returns-clause-ok : goal.returns-clause-ok
returns-clause-ok c names cores tasks bytes rows many low has =
    row_read names cores tasks bytes rows _ c.args.core _ _ many low
    (subst (HasRead names cores tasks bytes rows) (sym c.self.view_is) has) refl refl
    c.in_ok-row.ensures.lines c.in_ok-row.ensures.fine c.in_ok-row.ensures.behind

pub returns-in_err-row-clause-bad_line : goal.returns-in_err-row-clause-bad_line
returns-in_err-row-clause-bad_line c = λ bad is names cores tasks bytes rows many low has.
    let p = err_from_is_err_and c.from_residual.result c.from_residual.ensures.1 in
    let same : c.in_err-row.field-0.0 ≡ BadLine bad = cc in
    bad_in_rows names cores tasks bytes rows c.args.core _ bad many
    (subst (HasRead names cores tasks bytes rows) (sym c.self.view_is) has)
    (c.in_err-row.ensures.bad_line bad (ap Err same) cores low)
