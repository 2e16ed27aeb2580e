use Rattle.tab_words.specs.declared.command.Command.TheVariants.{PlanStay}
use Rattle.advice.proofs.write.is_plan_stay.Goals as goal

pub returns-in-Err : goal.returns-in-Err
returns-in-Err c = ((λ no. absurd cc), (λ stay. let no = c.in-Err.ensures.due PlanStay stay in absurd cc))
