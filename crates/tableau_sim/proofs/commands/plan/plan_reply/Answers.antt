use Rattle.std.proofs.Common.{subst}
use Rattle.tableau_sim.specs.Plan.{Plans}
use Rattle.tableau_sim.specs.Hosts.{OfHost}
use Rattle.tableau_sim.specs.Inside.Reply.{Makes}
use Rattle.tableau_sim.specs.Sections.{host_section}
use Rattle.tableau_sim.proofs.ReplyLemmas.{made_of_sections, off_sections}
use Rattle.tableau_sim.proofs.commands.plan.plan_reply.Goals as goal

pub returns-in-Ok : goal.returns-in-Ok
returns-in-Ok c = made_of_sections 1 (OfHost Plans) _ _ c.in-Ok.ensures.wanted
    (subst (λ s. Makes (OfHost Plans s) (host_section s) c.plan_of.result) c.in-Ok.ensures.ok c.plan_of.ensures)

pub returns-in-Err : goal.returns-in-Err
returns-in-Err c = off_sections 1 (OfHost Plans) _ _ c.in-Err.ensures.off
