use Rattle.std.proofs.Common.{List, [], Err, ap, subst, sym, ◌∙◌, arith}
use Rattle.run_course.specs.Changes.{changes_of}
use Rattle.script_doc.specs.declared.event.Event.{Event}
use Rattle.tableau_sim.specs.Inside.Reply.{Makes}
use Rattle.tableau_sim.specs.Inside.Running.{RunsSections}
use Rattle.tableau_sim.specs.Run.{Runs}
use Rattle.tableau_sim.proofs.RunLemmas.{run_of_script}
use Rattle.tableau_sim.specs.Sections.{host_section}
use Rattle.tableau_sim.specs.declared.reply.Stop.{Stop}
use Rattle.tableau_sim.proofs.StopsLemmas.{plan_stopped}
use Rattle.tableau_sim.proofs.commands.prepared.prepare.Goals as goal

pub returns-in-Err-clause-stop : goal.returns-in-Err-clause-stop
returns-in-Err-clause-stop c = λ mode view sections script.
    let P = RunsSections c.args.rounds mode view sections in
    subst (λ (why : Stop). Makes P (host_section sections) (Err why)) (sym c.stop_of_plan.ensures)
    (plan_stopped P (host_section sections) [] c.args.host c.in-Err.fault script.is_host
    (λ vcpu e. c.in-Err.ensures.no_period vcpu (ap Err e))
    (λ vcpu rest over e. c.in-Err.ensures.no_room vcpu rest over (ap Err e))
    (λ refusal lacks. run_of_script c.args.rounds mode view sections c.args.host c.args.script _ script
    (Runs.Unplanned refusal lacks)))

pub returns-clause-prepared : goal.returns-clause-prepared
returns-clause-prepared c = record {
  book = c.in-Ok.ensures.ok;
  vcpus = sym (c.in-Ok.ensures.vcpus 0 (omega arith));
  fits = c.in-Ok.ensures.rounds c.args.rounds c.requires.some c.requires.few c.requires.in_run;
  changes = c.in-Ok-changes_of.ensures ∙ (ap (λ (events : List Event). changes_of events c.outcomes.result.now) c.events.ensures.same
      ∙ ap (changes_of c.args.script) c.outcomes.ensures.same);
}
