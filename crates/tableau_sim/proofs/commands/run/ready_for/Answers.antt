use Rattle.std.proofs.Common.{Err, arith, subst}
use Rattle.tab_words.proofs.SectionSizeLemmas.{section_size}
use Rattle.tableau_sim.specs.Inside.Reply.{Makes}
use Rattle.tableau_sim.specs.Inside.Running.{RunsSections}
use Rattle.tableau_sim.specs.Run.{Runs}
use Rattle.tableau_sim.specs.Sections.{host_section}
use Rattle.tableau_sim.proofs.ReplyLemmas.{made_of_sections, off_sections}
use Rattle.tableau_sim.proofs.StopsLemmas.{script_stopped}
use Rattle.tableau_sim.proofs.commands.run.ready_for.Goals as goal

pub script_of-requires-clause-short : goal.script_of-requires-clause-short
script_of-requires-clause-short c i =
    rw c.in-Ok.ensures.ok (omega (arith, section_size c.args.input.now i, c.requires.short))

pub returns-in-Err-clause-stop : goal.returns-in-Err-clause-stop
returns-in-Err-clause-stop c = λ view.
    off_sections 2 (RunsSections c.args.rounds c.args.mode view) c.args.input.now _ c.in-Err.ensures.off

pub returns-in-Err-script_of-clause-stop : goal.returns-in-Err-script_of-clause-stop
returns-in-Err-script_of-clause-stop c = λ view.
    let why = c.in-Err-script_of.stop in
    let P = RunsSections c.args.rounds c.args.mode view in
    made_of_sections 2 P c.args.input.now (Err why) c.in-Ok.ensures.wanted
    (subst (λ s. Makes (P s) (host_section s) (Err why)) c.in-Ok.ensures.ok
    (script_stopped c.args.rounds (Runs c.args.rounds c.args.mode view) c.in-Ok.sections why
    c.in-Err-script_of.ensures.stop))

pub returns-in-Err-prepare-clause-stop : goal.returns-in-Err-prepare-clause-stop
returns-in-Err-prepare-clause-stop c = λ view.
    let why = c.in-Err-prepare.stop in
    let P = RunsSections c.args.rounds c.args.mode view in
    made_of_sections 2 P c.args.input.now (Err why) c.in-Ok.ensures.wanted
    (subst (λ s. Makes (P s) (host_section s) (Err why)) c.in-Ok.ensures.ok
    (c.in-Err-prepare.ensures.stop c.args.mode view c.in-Ok.sections c.in-Ok-script_of.ensures.ok))
