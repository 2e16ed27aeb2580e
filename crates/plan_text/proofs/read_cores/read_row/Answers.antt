use Rattle.std.proofs.Common.{◌≡◌, Err, ap}
use Rattle.std.proofs.lemmas.Result.{err_from_is_err_and}
use Rattle.plan_text.specs.declared.read_fault.ReadPlan.TheVariants.{BadLine}
use Rattle.plan_text.proofs.ReadingLemmas.{bad_behind_core, core_is_bad}
use Rattle.plan_text.proofs.read_cores.read_row.Goals as goal

pub returns-in_err-take-clause-bad_line : goal.returns-in_err-take-clause-bad_line
returns-in_err-take-clause-bad_line c = λ bad is cores low.
    let p = err_from_is_err_and c.from_residual.result c.from_residual.ensures.1 in
    let same : c.in_err-take.field-0.0 ≡ BadLine bad = cc in
    let fault = c.in_err-take.ensures.bad_line bad (ap Err same) in
    rw fault.0 (core_is_bad _ _ c.args.core cores _ _ low fault.1)

pub returns-clause-behind : goal.returns-clause-behind
returns-clause-behind c = λ cores bad low is.
    bad_behind_core _ _ c.args.core cores _ _ _ _ _ _ c.in_ok-read_segments.field-0.items bad low
    c.in_ok-take.ensures.ok c.in_ok-take.ensures.number
    c.in_ok-read_segments.ensures.fine c.in_ok-read_segments.ensures.lines c.in_ok-read_segments.ensures.number
    c.in_ok-read_segments.ensures.behind is
