use Rattle.std.proofs.Common.{[], ap, length, subst, sym, ◌∙◌, Err, ◌<◌}
use Rattle.std.proofs.lemmas.Option.{slice_get-get_or}
use Rattle.table_form.specs.Running.Courses.{CourseView}
use Rattle.run_promises.proofs.PromiseLemmas.{promised}
use Rattle.step_machine.specs.Refusals.{IsFaultOf, IsRefused}
use Rattle.tableau_sim.specs.Replay.{ReplaysSteps}
use Rattle.plan_promises.proofs.RunsLemmas.{run_keeps}
use Rattle.step_machine.proofs.GivenSteps.{each_names_core, place_in}
use Rattle.tableau_sim.proofs.StopsLemmas.{plan_stopped}
use Rattle.tableau_sim.proofs.commands.replay.replay_of_parts.Goals as goal

pub returns-in-Err : goal.returns-in-Err
returns-in-Err c = λ section is.
    rw c.stop_of_plan.ensures
    (plan_stopped (ReplaysSteps c.args.rounds c.args.host c.args.script c.args.list.steps c.args.list.lines) section []
    c.args.host c.in-Err.fault is (λ vcpu e. c.in-Err.ensures.no_period vcpu (ap Err e))
    (λ vcpu rest over e. c.in-Err.ensures.no_room vcpu rest over (ap Err e)) ReplaysSteps.Unplanned)

pub replay-requires-clause-names : goal.replay-requires-clause-names
replay-requires-clause-names c = λ k taken at.
    each_names_core c.course.result.now c.args.host.cores c.args.list.steps
    (ap (λ (course : CourseView). course.cores) c.course.ensures ∙ c.in-Ok.ensures.ok.course.cores)
    c.requires.names k taken (rw c.items.ensures at at)

pub returns-in-Ok-replay : goal.returns-in-Ok-replay
returns-in-Ok-replay c = λ section is.
    let of = c.in-Ok.ensures.ok.course in
    let world = c.in-Ok-replay.world in
    let kept = rw c.course.ensures at c.in-Ok-replay.ensures.kept in
    let course_kept = rw c.course.ensures at c.in-Ok-replay.ensures.course_kept in
    let promises = promised c.in-Ok.book.course c.args.rounds world.state course_kept kept in
    rw (c.into_trace-trace.ensures.made, c.into_trace-trace.ensures.posted) (
      ReplaysSteps.Replayed c.in-Ok.book.course world.state world.made (record {
        course_is = of;
        leads = rw (c.course.ensures, c.items.ensures) at c.in-Ok-replay.ensures.ok;
        course_kept = course_kept;
        promises = promises;
        reservations = run_keeps c.args.host c.args.script c.in-Ok.book.course c.args.rounds world.state of
            promises;
        trace = rw (c.course.ensures, c.items.ensures) at c.in-Ok-replay.ensures.trace;
      }),
      rw c.course.ensures at c.in-Ok-replay.ensures.of_course,
    )

pub bounds-items-place : goal.bounds-items-place
bounds-items-place c =
    let refused : IsRefused c.course.result.now c.args.rounds c.items.result.now c.in-Err-Refused.place
    c.in-Err-Refused.answer =
    subst (IsFaultOf c.course.result.now c.args.rounds c.items.result.now) c.in-Err-Refused.field-0-is
    c.in-Err-Refused.ensures.refused in
    place_in c.course.result.now c.args.rounds c.items.result.now c.items-in-Err-Refused.result.now
    c.in-Err-Refused.place c.in-Err-Refused.answer
    (ap length c.items-in-Err-Refused.ensures ∙ c.args.list.one_line_each ∙ ap length (sym c.items.ensures))
    refused

pub returns-in-Err-Refused : goal.returns-in-Err-Refused
returns-in-Err-Refused c = λ section is.
    let given : IsRefused c.course.result.now c.args.rounds c.items.result.now c.in-Err-Refused.place
    c.in-Err-Refused.answer =
    subst (IsFaultOf c.course.result.now c.args.rounds c.items.result.now) c.in-Err-Refused.field-0-is
    c.in-Err-Refused.ensures.refused in
    let refused : IsRefused c.in-Ok.book.course c.args.rounds c.args.list.steps c.in-Err-Refused.place
    c.in-Err-Refused.answer = rw (c.course.ensures, c.items.ensures) at given in
    let low : c.in-Err-Refused.place < length c.args.list.lines =
    place_in c.in-Ok.book.course c.args.rounds c.args.list.steps c.args.list.lines c.in-Err-Refused.place
    c.in-Err-Refused.answer c.args.list.one_line_each refused in
    rw (c.stopped.ensures, c.items-in-Err-Refused.ensures) (
      ReplaysSteps.StepRefused c.in-Err-Refused.place _ c.in-Err-Refused.answer
          (slice_get-get_or c.args.list.lines c.in-Err-Refused.place 0 low) (record {
            course = c.in-Ok.book.course;
            course_is = c.in-Ok.ensures.ok.course;
            course_kept = rw c.course.ensures at (c.in-Err-Refused.ensures.refused_course c.in-Err-Refused.place
                c.in-Err-Refused.answer (ap Err c.in-Err-Refused.field-0-is));
            refused = refused;
          }),
      tt {0},
    )
