use Rattle.std.proofs.Common.{arith, subst}
use Rattle.tab_words.proofs.SectionSizeLemmas.{section_size}
use Rattle.tableau_sim.specs.Replay.{Replays}
use Rattle.tableau_sim.specs.Hosts.{OfHost}
use Rattle.tableau_sim.specs.Inside.Reply.{Makes}
use Rattle.tableau_sim.specs.Scripts.{OfScript}
use Rattle.tableau_sim.specs.Sections.{host_section}
use Rattle.tableau_sim.proofs.ReplyLemmas.{made_of_sections, off_sections}
use Rattle.tableau_sim.proofs.commands.replay.replay_reply.Goals as goal

pub replay_of-requires-clause-short : goal.replay_of-requires-clause-short
replay_of-requires-clause-short c i =
    rw c.in-Ok.ensures.ok (omega (arith, section_size c.args.input.now i, c.requires.within))

pub returns-in-Ok : goal.returns-in-Ok
returns-in-Ok c = made_of_sections 3 (OfHost (OfScript c.args.rounds (Replays c.args.rounds))) _ _ c.in-Ok.ensures.wanted
    (subst (λ s. Makes (OfHost (OfScript c.args.rounds (Replays c.args.rounds)) s) (host_section s) c.replay_of.result) c.in-Ok.ensures.ok c.replay_of.ensures)

pub returns-in-Err : goal.returns-in-Err
returns-in-Err c = off_sections 3 (OfHost (OfScript c.args.rounds (Replays c.args.rounds))) _ _ c.in-Err.ensures.off
