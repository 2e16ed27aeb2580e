use Rattle.std.proofs.Common.{arith, subst}
use Rattle.tab_words.proofs.SectionSizeLemmas.{section_size}
use Rattle.tableau_sim.specs.PlanStay.{PlansStaying}
use Rattle.tableau_sim.specs.Hosts.{OfHost}
use Rattle.tableau_sim.specs.Inside.Reply.{Makes}
use Rattle.tableau_sim.specs.Sections.{host_section}
use Rattle.tableau_sim.proofs.ReplyLemmas.{made_of_sections, off_sections}
use Rattle.tableau_sim.proofs.commands.plan_stay.plan_stay_reply.Goals as goal

pub plan_stay_of-requires-clause-short : goal.plan_stay_of-requires-clause-short
plan_stay_of-requires-clause-short c i =
    rw c.in-Ok.ensures.ok (omega (arith, section_size c.args.input.now i, c.requires))

pub returns-in-Ok : goal.returns-in-Ok
returns-in-Ok c = made_of_sections 2 (OfHost PlansStaying) _ _ c.in-Ok.ensures.wanted
    (subst (λ s. Makes (OfHost PlansStaying s) (host_section s) c.plan_stay_of.result) c.in-Ok.ensures.ok c.plan_stay_of.ensures)

pub returns-in-Err : goal.returns-in-Err
returns-in-Err c = off_sections 2 (OfHost PlansStaying) _ _ c.in-Err.ensures.off
