use Rattle.std.proofs.Common.{length, refl, sym, ap, subst, arith}
use Rattle.table_form.specs.Running.Courses.{CourseView}
use Rattle.table_form.specs.Running.State.{State}
use Rattle.run_limit.proofs.StintBoundLemmas.{all_stints}
use Rattle.run_state.specs.Readings.{state_of}
use Rattle.tab_words.specs.declared.command.RunMode.TheVariants.{Burst}
use Rattle.core_workers.specs.Views.{CrewView}
use Rattle.run_course.specs.Runs.{IsRunOf}
use Rattle.burst_bound.specs.KeptRuns.{IsKeptRun}
use Rattle.tests_burst.proofs.KeptLemmas.{kept_run}
use Rattle.tests_burst.proofs.running.run_scene.Goals as goal

pub fill-requires-clause-kept : goal.fill-requires-clause-kept
fill-requires-clause-kept g c =
    let course : CourseView = c.course-course.result.now in
    let rounds = c.args.scene.now.rounds in
    let view = c.in-Ok.field-0-0.view in
    let ran : IsRunOf course rounds Burst view c.in-Ok.ran = c.in-Ok.ensures.ran in
    let s : State = state_of course view in
    let kept : IsKeptRun course rounds c.crew.result.now s =
    subst (λ (w : CrewView). IsKeptRun course rounds w s) (sym c.crew.ensures)
    (kept_run course rounds view c.in-Ok.ran ran) in (
      s,
      kept,
      record {
        rounds_fit = omega (arith, c.in_ok-report.ensures.room);
        stints_fit = omega (
          arith,
          all_stints course rounds c.stint_bound.result s ran.course_kept kept.invariant c.stint_bound.ensures,
          c.in-Ok.ensures.short refl c.stint_bound.result c.stint_bound.ensures,
          c.min-stints.ensures,
          c.in_ok-report.ensures.room,
        );
        events_fit = omega (arith, ap length c.events-events.ensures.same, c.in_ok-report.ensures.room);
      },
    )

pub answers_alone-requires-clause-kept : goal.answers_alone-requires-clause-kept
answers_alone-requires-clause-kept g c =
    let course : CourseView = c.course-course.result.now in
    let rounds = c.args.scene.now.rounds in
    let view = c.in-Ok.field-0-0.view in
    let ran : IsRunOf course rounds Burst view c.in-Ok.ran = c.in-Ok.ensures.ran in (
      state_of course view,
      subst (λ (w : CrewView). IsKeptRun course rounds w (state_of course view)) (sym c.crew-in-Ok.ensures)
          (kept_run course rounds view c.in-Ok.ran ran),
    )
