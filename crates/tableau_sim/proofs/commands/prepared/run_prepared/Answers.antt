use Rattle.std.proofs.Common.{◌≡◌, length, ap, subst, sym, ◌∙◌}
use Rattle.std.proofs.lemmas.List.{length-map}
use Rattle.tab_words.specs.declared.command.RunMode.TheVariants.{Burst}
use Rattle.script_doc.specs.declared.event.Event.{Event}
use Rattle.table_form.specs.Running.State.{State}
use Rattle.core_workers.specs.Views.{CrewView}
use Rattle.burst_bound.specs.KeptRuns.{IsKeptRun}
use Rattle.burst_bound.specs.Reports.{AreBurstAnswers}
use Rattle.run_state.specs.Readings.{state_of}
use Rattle.run_course.specs.Inside.Keeping.{IsTraceWithinLimit, StopsRun}
use Rattle.run_course.specs.Runs.{IsRunOf, keeps_stints}
use Rattle.tableau_sim.proofs.RunLemmas.{kept_run, run_made, run_stops, run_written}
use Rattle.tableau_sim.proofs.commands.prepared.run_prepared.Goals as goal

pub tell_bursts-requires-clause-events : goal.tell_bursts-requires-clause-events
tell_bursts-requires-clause-events g c =
    let run = c.args.prepared.now in
    rw c.course-course.ensures (sym (ap length c.requires.prepared.book.course.ticks
    ∙ length-map run.script (λ (event : Event). event.tick)))

pub tell_bursts-requires-clause-kept : goal.tell_bursts-requires-clause-kept
tell_bursts-requires-clause-kept g c = λ asked.
    let book = c.args.prepared.now.book in
    let view = c.in-Ok-run_course.seat.view in
    let s : State = state_of book.course view in
    let ran : IsRunOf book.course c.args.rounds c.args.mode view c.in-Ok-run_course.ran =
    rw c.course-course.ensures at c.in-Ok-run_course.ensures.ran in
    let kept : IsKeptRun book.course c.args.rounds c.crew.result.now s =
    subst (λ (w : CrewView). IsKeptRun book.course c.args.rounds w s) (sym c.crew.ensures)
    (kept_run book.course c.args.rounds c.args.mode view c.in-Ok-run_course.ran ran (ap keeps_stints asked)) in
    rw c.course-course.ensures (s, kept)

pub returns-in-Ok-run_course-clause-makes : goal.returns-in-Ok-run_course-clause-makes
returns-in-Ok-run_course-clause-makes g c =
    let run = c.args.prepared.now in
    let course = run.book.course in
    let view = c.in-Ok-run_course.seat.view in
    let ran = c.in-Ok-run_course.ran in
    let answers = c.tell_bursts.new.bursts.answers in
    let s : State = state_of course view in
    let of : IsRunOf course c.args.rounds c.args.mode view ran = rw c.course-course.ensures at c.in-Ok-run_course.ensures.ran in
    let short : IsTraceWithinLimit course c.args.rounds c.args.mode = rw c.course-course.ensures at c.in-Ok-run_course.ensures.short in
    let bursts : c.args.mode ≡ Burst → AreBurstAnswers course c.args.rounds s run.script answers =
    λ asked. (let all : (s : State) → IsKeptRun course c.args.rounds c.crew.result.now s
    → AreBurstAnswers course c.args.rounds s run.script answers = rw c.course-course.ensures at (c.tell_bursts.ensures asked) in
    all s (subst (λ (w : CrewView). IsKeptRun course c.args.rounds w s) (sym c.crew.ensures)
    (kept_run course c.args.rounds c.args.mode view ran of (ap keeps_stints asked)))) in (
      run_made c.args.rounds c.args.mode run view ran answers c.requires.prepared of bursts short,
      run_written c.args.rounds c.args.mode run view ran answers c.requires.prepared of bursts,
    )

pub returns-clause-makes : goal.returns-clause-makes
returns-clause-makes g c =
    let run = c.args.prepared.now in
    let long : StopsRun run.book.course c.args.rounds c.args.mode c.in-Err.fault =
    rw c.course-course.ensures at c.in-Err.ensures.cause in
    rw c.stop_of_run.ensures (run_stops c.args.rounds c.args.mode run c.args.seat.view c.in-Err.seat.view
    c.in-Err.fault (c.in-Err.ensures.still ∙ sym c.requires.opening) long)
