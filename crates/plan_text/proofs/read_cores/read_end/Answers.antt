use Rattle.std.proofs.Common.{◌≡◌, ◌≢◌, [], Err, ap}
use Rattle.std.proofs.lemmas.Result.{err_from_is_err_and}
use Rattle.plan_text.specs.declared.read_fault.ReadPlan.TheVariants.{BadLine}
use Rattle.plan_text.proofs.OldReadingLemmas.{more_behind_end, no_end_here}
use Rattle.plan_text.proofs.ReadingLemmas.{end_is_bad, line_behind_end}
use Rattle.plan_text.proofs.read_cores.read_end.Goals as goal

pub returns-in_err-take-clause-bad_line : goal.returns-in_err-take-clause-bad_line
returns-in_err-take-clause-bad_line c = λ bad is names tasks core cores past.
    let p = err_from_is_err_and c.from_residual.result c.from_residual.ensures.1 in
    let same : c.in_err-take.field-0.0 ≡ BadLine bad = cc in
    let fault = c.in_err-take.ensures.bad_line bad (ap Err same) in
    rw fault.0 (end_is_bad names tasks core cores _ _ past fault.1)

pub returns-in-Some-clause-bad_line : goal.returns-in-Some-clause-bad_line
returns-in-Some-clause-bad_line c = λ bad is names tasks core cores past.
    let some : c.take.new.self.lines ≢ [] = λ none. absurd (let starts = c.in-Some.ensures in cc) in
    let number : bad ≡ c.take.new.self.number = cc in
    rw number (line_behind_end names tasks core cores _ _ _ _ past c.in_ok-take.ensures.ok
    c.in_ok-take.ensures.number some)

pub returns-in_err-take-clause-no_end : goal.returns-in_err-take-clause-no_end
returns-in_err-take-clause-no_end c = λ bad is.
    let p = err_from_is_err_and c.from_residual.result c.from_residual.ensures.1 in
    let same : c.in_err-take.field-0.0 ≡ BadLine bad = cc in
    let fault = c.in_err-take.ensures.bad_line bad (ap Err same) in
    rw fault.0 (no_end_here _ _ fault.1)

pub returns-in-Some-clause-no_end : goal.returns-in-Some-clause-no_end
returns-in-Some-clause-no_end c = λ bad is.
    let some : c.take.new.self.lines ≢ [] = λ none. absurd (let starts = c.in-Some.ensures in cc) in
    let number : bad ≡ c.take.new.self.number = cc in
    rw number (more_behind_end _ _ _ _ c.in_ok-take.ensures.ok c.in_ok-take.ensures.number some)
