use Rattle.std.proofs.Common.{arith, subst}
use Rattle.tab_words.proofs.SectionSizeLemmas.{section_size}
use Rattle.tableau_sim.specs.Check.{Checks}
use Rattle.tableau_sim.specs.Hosts.{OfHost}
use Rattle.tableau_sim.specs.Inside.Reply.{Makes}
use Rattle.tableau_sim.specs.Sections.{host_section}
use Rattle.tableau_sim.proofs.ReplyLemmas.{made_of_sections, off_sections}
use Rattle.tableau_sim.proofs.commands.check.check_reply.Goals as goal

pub check_of-requires-clause-short : goal.check_of-requires-clause-short
check_of-requires-clause-short c i =
    rw c.in-Ok.ensures.ok (omega (arith, section_size c.args.input.now i, c.requires))

pub returns-in-Ok : goal.returns-in-Ok
returns-in-Ok c = made_of_sections 2 (OfHost Checks) _ _ c.in-Ok.ensures.wanted
    (subst (λ s. Makes (OfHost Checks s) (host_section s) c.check_of.result) c.in-Ok.ensures.ok c.check_of.ensures)

pub returns-in-Err : goal.returns-in-Err
returns-in-Err c = off_sections 2 (OfHost Checks) _ _ c.in-Err.ensures.off
