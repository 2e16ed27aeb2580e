use Rattle.std.proofs.Common.{◌≡◌, Err, ap}
use Rattle.std.proofs.lemmas.Result.{err_from_is_err_and}
use Rattle.plan_text.specs.declared.read_fault.ReadPlan.TheVariants.{BadLine}
use Rattle.plan_text.proofs.OldReadingLemmas.{bad_behind_rows}
use Rattle.plan_text.proofs.read_old.read_behind_head.Goals as goal

pub returns-in_err-read_end-clause-bad_line : goal.returns-in_err-read_end-clause-bad_line
returns-in_err-read_end-clause-bad_line c = λ bad is.
    let p = err_from_is_err_and c.from_residual-in_err-read_end.result
    c.from_residual-in_err-read_end.ensures.1 in
    let same : c.in_err-read_end.field-0.0 ≡ BadLine bad = cc in
    c.in_ok-vcpus.ensures.behind bad (c.skip_rows.ensures.behind bad (bad_behind_rows _ bad _
    c.skip_rows.ensures.last (c.in_err-read_end.ensures.no_end bad (ap Err same))))
