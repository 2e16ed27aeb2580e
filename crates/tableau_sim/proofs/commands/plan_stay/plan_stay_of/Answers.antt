use Rattle.std.proofs.Common.{sym, subst, ◌∙◌}
use Rattle.tableau_sim.specs.Hosts.OfHost.{Hosted}
use Rattle.tableau_sim.specs.Outcomes.CallOutcome.{Writes}
use Rattle.tableau_sim.specs.PlanStay.{PlansStaying}
use Rattle.tableau_sim.proofs.ReplyLemmas.{made_of_changed}
use Rattle.tableau_sim.proofs.StopsLemmas.{host_stopped}
use Rattle.tableau_sim.proofs.commands.plan_stay.plan_stay_of.Goals as goal

pub returns-in-Err : goal.returns-in-Err
returns-in-Err c = host_stopped PlansStaying _ _ (rw c.part.ensures at c.in-Err.ensures.stop)

pub returns-in-Ok-from_slice : goal.returns-in-Ok-from_slice
returns-in-Ok-from_slice c =
    let has = c.in-Ok-true.ensures.yes c.in-Ok-true.field-0-test in (
      Hosted c.in-Ok.host _ (rw c.part.ensures at c.in-Ok.ensures.ok)
          (subst (λ text. PlansStaying c.in-Ok.host c.args.sections.now (Writes text))
          (sym (c.in-Ok-from_slice.ensures.items ∙ c.part-in-Ok-true.ensures))
          (PlansStaying.Unchanged has.0 has.1)),
      tt {0},
    )

pub returns-in-Ok-false : goal.returns-in-Ok-false
returns-in-Ok-false c = made_of_changed c.args.sections.now c.in-Ok.host _ (rw c.part.ensures at c.in-Ok.ensures.ok)
    (c.in-Ok-false.ensures.no c.in-Ok-false.field-0-test) c.plan_anew.ensures
