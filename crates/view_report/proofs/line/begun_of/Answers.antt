use Rattle.std.proofs.Common.{[], ◌∙◌}
use Rattle.view_report.proofs.LineLemmas.{after_six}
use Rattle.view_report.proofs.line.begun_of.Goals as goal

pub returns-in_err-step_over : goal.returns-in_err-step_over
returns-in_err-step_over c = rw c.from_residual-in_err-step_over.ensures
    (λ rounds cores events small is. c.in_err-step_over.ensures []
    (after_six _ _ _ _ _ _ _ _ _ _ _ _ _ _ _ _ _ c.in_ok-rounds.ensures.1 c.in_ok-cores.ensures.1
    c.in_ok-events.ensures.1 (c.of-words.ensures ∙ is)))
