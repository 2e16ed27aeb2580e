-- The replies of a run: what is made of what was prepared, and what is due then.
use Rattle.std.proofs.Common.{◌≡◌, ℕ, ◌<◌, true, List, [], ◌++◌, length, Option, None, Some, Result, Ok, Err, refl, sym, ap, ◌∙◌, subst, arith}
use Rattle.std.proofs.lemmas.Option.{slice_get_within}
use Rattle.std.specs.Prelude.{IfErr, IfOk}
use Rattle.tab_core.specs.declared.host.Host.{Host}
use Rattle.tab_io.specs.Views.{SourceView}
use Rattle.tab_words.specs.Commands.{IsCommand}
use Rattle.tab_words.specs.Sections.{sections_of}
use Rattle.tab_words.specs.declared.command.Command.TheVariants as called
use Rattle.tab_words.specs.declared.command.RunMode.{RunMode}
use Rattle.tab_words.specs.declared.command.RunMode.TheVariants.{Burst, Report}
use Rattle.script_doc.specs.declared.event.Event.{Event}
use Rattle.host_gen.specs.Generated.{IsGenerated}
use Rattle.plan_book.specs.Books.{BookView, IsBookOf}
use Rattle.plan_book.specs.declared.outcome.Outcome.{Outcome as PlanOutcome}
use Rattle.plan_promises.proofs.RunsLemmas.{run_keeps}
use Rattle.round_words.specs.declared.view.View.{View}
use Rattle.table_form.specs.Running.Courses.{CourseView, IsCourse}
use Rattle.table_form.specs.Running.Invariant.{StateInvariant}
use Rattle.table_form.specs.Running.State.{State}
use Rattle.run_limit.proofs.StintBoundLemmas.{all_stints}
use Rattle.burst_bound.specs.KeptRuns.{IsKeptRun}
use Rattle.burst_bound.specs.Reports.{AreBurstAnswers, BurstReportView, HasRoomFor}
use Rattle.burst_bound.specs.ScriptBursts.{bursts_of}
use Rattle.burst_bound.specs.declared.answer.BurstAnswer.{BurstAnswer}
use Rattle.run_state.specs.Readings.{state_of}
use Rattle.run_course.proofs.TellingLemmas.{can_be_told, tells_of_state}
use Rattle.run_course.specs.Inside.Keeping.{IsTraceWithinLimit, StopsRun}
use Rattle.run_course.specs.RunText.{run_text}
use Rattle.run_course.specs.Runs.{IsRunOf, IsRunWritable, RanView, keeps_stints, kept_in, kept_stints, stints_at, stints_of}
use Rattle.run_course.specs.declared.keeping.RunFault.{RunFault}
use Rattle.run_course.specs.declared.keeping.RunFault.TheVariants as fault
use Rattle.tableau_sim.specs.declared.commands.prepared.Prepared.{Prepared}
use Rattle.tableau_sim.specs.declared.commands.run.Ready.{Ready}
use Rattle.tableau_sim.specs.declared.commands.run.Ready.TheVariants as readied
use Rattle.tableau_sim.specs.declared.reply.Stop.{Stop}
use Rattle.tableau_sim.specs.declared.reply.Stop.TheVariants as stop
use Rattle.tableau_sim.specs.declared.reply.Text.{Text}
use Rattle.tableau_sim.specs.declared.status.Status.{Status}
use Rattle.tableau_sim.specs.Inside.Reply.{CanBeWritten, HasInput, HasItsHost, IsReadyTo, IsReplyTo, KeepsHost, Makes, MakesOnSeat, names_in}
use Rattle.tableau_sim.specs.Inside.Running.{HasBurstRoom, IsPrepared, IsReady, IsReadyOf, IsTest, RunsPrepared, RunsSections, head_of}
use Rattle.tableau_sim.specs.Inside.Stops.{run_stop}
use Rattle.tableau_sim.specs.Outcomes.{CallOutcome}
use Rattle.tableau_sim.specs.Outcomes.CallOutcome.{Refuses, Writes}
use Rattle.tableau_sim.specs.Hosts.OfHost.{Hosted}
use Rattle.tableau_sim.specs.Scripts.{HasScript}
use Rattle.tableau_sim.specs.Scripts.OfScript.{Scripted}
use Rattle.tableau_sim.specs.Run.{Runs, RunsWhole, text_of_run}
use Rattle.tableau_sim.specs.Seats.{IsStillIfRefused, LeavesRun, LeavesSeat, OnSeat}
use Rattle.tableau_sim.specs.Selftest.{Selftests}
use Rattle.tableau_sim.specs.Sections.{OfSections, host_section}
use Rattle.tableau_sim.specs.Sections.OfSections.{Sectioned}
use Rattle.tableau_sim.proofs.ReplyLemmas.{input_reply, unread_reply}
use Rattle.tableau_sim.proofs.SeatsLemmas.{run_left}

-- ---- replies on a seat

-- a reply on a seat can be written
pub can_be_written : (P : CallOutcome → Type 0) (Q : Type 0) (old new : View) (reply : Result Text Stop)
    → MakesOnSeat P Q old new reply → CanBeWritten reply
can_be_written P Q old new (Ok text) makes = makes.1
can_be_written P Q old new (Err why) makes = tt {0}

-- why there is no text, over a seat that is as it was
pub stops_on_seat : (P : CallOutcome → Type 0) (Q : Type 0) (section : List ℕ) (old new : View) (why : Stop)
    → new ≡ old → Q
    → Makes P section (Err why) → MakesOnSeat P Q old new (Err why)
stops_on_seat P Q section old new (stop.Refused refusal host) same left makes = (makes.0, same)
stops_on_seat P Q section old new stop.NoMemory same left makes = left

-- a reply on a seat is one for all that have its outcomes and what it leaves
made_as : (P P' : CallOutcome → Type 0) (Q Q' : Type 0) (old new : View) (reply : Result Text Stop)
    → ((outcome : CallOutcome) → P outcome → P' outcome) → (Q → Q') → MakesOnSeat P Q old new reply
    → MakesOnSeat P' Q' old new reply
made_as P P' Q Q' old new (Ok text) made left makes = (made _ makes.0, makes.1)
made_as P P' Q Q' old new (Err (stop.Refused refusal host)) made left makes = (made _ makes.0, makes.1)
made_as P P' Q Q' old new (Err stop.NoMemory) made left makes = left makes

-- a reply on a seat by what the frame asks of each reply
on_seat : (P : CallOutcome → Type 0) (Q : Type 0) (section : List ℕ) (old new : View) (reply : Result Text Stop)
    → MakesOnSeat P Q old new reply → HasItsHost section reply
    → Makes (λ outcome. P outcome × IsStillIfRefused old new outcome) section reply
on_seat P Q section old new (Ok text) makes has = ((makes.0, tt {0}), makes.1)
on_seat P Q section old new (Err (stop.Refused refusal host)) makes has = (makes, has)
on_seat P Q section old new (Err stop.NoMemory) makes has = tt {0}

-- what it leaves where memory ran out
left_on_seat : (P : CallOutcome → Type 0) (Q : Type 0) (old new : View) (reply : Result Text Stop)
    → MakesOnSeat P Q old new reply → reply ≡ Err stop.NoMemory → Q
left_on_seat P Q old new reply makes lacks = subst (MakesOnSeat P Q old new) lacks makes

-- ---- what is due

-- what is made of the two sections of an input is due after it
pub run_reply : (rounds : ℕ) (mode : RunMode) (old new : View) (words : List (List ℕ)) (source source' : SourceView)
    (input : List ℕ) (reply : Result Text Stop) → IsCommand words (called.Run rounds mode)
    → HasInput source source' input → length (sections_of input) ≡ 2
    → MakesOnSeat (RunsSections rounds mode new (sections_of input)) (LeavesRun rounds mode old new (sections_of input)) old new reply
    → HasItsHost (host_section (sections_of input)) reply
    → IsReplyTo (OnSeat old new) (LeavesSeat old new) words source source' reply
run_reply rounds mode old new words source source' input reply are has two makes its =
    let P = RunsSections rounds mode new (sections_of input) in
    let P' = OfSections 2 (RunsSections rounds mode new) input in
    let Q = LeavesRun rounds mode old new (sections_of input) in
    input_reply (OnSeat old new) (LeavesSeat old new) words source source' (called.Run rounds mode) input reply are refl
    has (left_on_seat P Q old new reply makes) (on_seat P' Q (host_section (sections_of input)) old new reply
    (made_as P P' Q Q old new reply (λ outcome made. Sectioned outcome two made) (λ left. left) makes) its)

-- a run that is refused leaves the seat as it was
still_stop : (rounds : ℕ) (mode : RunMode) (view : View) (input section : List ℕ) (why : Stop)
    → Makes (OfSections 2 (RunsSections rounds mode view) input) section (Err why)
    → Makes (OnSeat view view (called.Run rounds mode) input) section (Err why)
still_stop rounds mode view input section (stop.Refused refusal host) h = ((h.0, refl), h.1)
still_stop rounds mode view input section stop.NoMemory h = tt {0}

-- why an input isn't run is due after it
stop_reply : (rounds : ℕ) (mode : RunMode) (view : View) (words : List (List ℕ)) (source source' : SourceView)
    (input : List ℕ) (why : Stop) → IsCommand words (called.Run rounds mode) → HasInput source source' input
    → Makes (OfSections 2 (RunsSections rounds mode view) input) (host_section (sections_of input)) (Err why)
    → IsReplyTo (OnSeat view view) (LeavesSeat view view) words source source' (Err why)
stop_reply rounds mode view words source source' input why are has makes =
    input_reply (OnSeat view view) (LeavesSeat view view) words source source' (called.Run rounds mode) input (Err why)
    are refl has (λ lacks. run_left rounds mode view view (sections_of input) refl)
    (still_stop rounds mode view input (host_section (sections_of input)) why makes)

-- what was made of an input that was read is ready for it
pub ready_read : (rounds : ℕ) (mode : RunMode) (old new : SourceView) (input : List ℕ) (made : Result Ready Stop)
    → HasInput old new input → IfOk made (IsReady rounds mode input) → IfOk made (IsReadyTo rounds mode old new)
ready_read rounds mode old new input (Ok prepared) has is = record { input = input; has = has; is = is }
ready_read rounds mode old new input (Err why) has is = tt {0}

-- why nothing was made of it is due after it
pub stop_read : (rounds : ℕ) (mode : RunMode) (old new : SourceView) (input : List ℕ) (made : Result Ready Stop)
    → HasInput old new input
    → IfErr made (λ why. (view : View)
    → Makes (OfSections 2 (RunsSections rounds mode view) input) (host_section (sections_of input)) (Err why))
    → IfErr made (λ why. (words : List (List ℕ)) (view : View) → IsCommand words (called.Run rounds mode)
    → IsReplyTo (OnSeat view view) (LeavesSeat view view) words old new (Err why))
stop_read rounds mode old new input (Ok prepared) has stops = tt {0}
stop_read rounds mode old new input (Err why) has stops =
    λ words view are. stop_reply rounds mode view words old new input why are has (stops view)

-- `selftest` refuses no host
tests_keep : (seed : ℕ) (view : View) (outcome : CallOutcome) (section : List ℕ) (refusal : Status) (host : Option Host)
    → Selftests seed view outcome → outcome ≡ Refuses refusal (names_in host) → KeepsHost section refusal host
tests_keep seed view outcome section refusal host (Selftests.Tested made text is of) same = absurd cc

-- a self test has no host that is refused for room
tests_have : (seed : ℕ) (Q : Type 0) (old new : View) (section : List ℕ) (reply : Result Text Stop)
    → MakesOnSeat (Selftests seed new) Q old new reply → HasItsHost section reply
tests_have seed Q old new section (Ok text) makes = tt {0}
tests_have seed Q old new section (Err (stop.Refused refusal host)) makes =
    tests_keep seed new _ section refusal host makes.0 refl
tests_have seed Q old new section (Err stop.NoMemory) makes = tt {0}

-- what is made of a seed is due, and nothing is read
pub test_reply : (seed : ℕ) (old new : View) (words : List (List ℕ)) (source : SourceView) (reply : Result Text Stop)
    → IsCommand words (called.Selftest seed) → MakesOnSeat (Selftests seed new) (new ≡ old) old new reply
    → IsReplyTo (OnSeat old new) (LeavesSeat old new) words source source reply
test_reply seed old new words source reply are makes =
    unread_reply (OnSeat old new) (LeavesSeat old new) words source (called.Selftest seed) reply are refl
    (λ lacks. (refl, left_on_seat (Selftests seed new) (new ≡ old) old new reply makes lacks))
    (on_seat (Selftests seed new) (new ≡ old) (host_section (sections_of [])) old new reply makes
    (tests_have seed (new ≡ old) old new (host_section (sections_of [])) reply makes))

-- ---- what is made of what was prepared

-- an outcome of a host and a script is one of their sections
pub run_of_script : (rounds : ℕ) (mode : RunMode) (view : View) (sections : List (List ℕ)) (host : Host)
    (events : List Event) (outcome : CallOutcome) → HasScript rounds sections host events
    → Runs rounds mode view host events sections outcome → RunsSections rounds mode view sections outcome
run_of_script rounds mode view sections host events outcome has made =
    Hosted host outcome has.is_host (Scripted events outcome has.is_script made)

-- what is made of a host and a script is what `run` makes of their sections
prepared_runs : (rounds : ℕ) (mode : RunMode) (view : View) (sections : List (List ℕ)) (host : Host) (events : List Event)
    (book : BookView) → HasScript rounds sections host events → IsBookOf host events book → (outcome : CallOutcome)
    → RunsPrepared rounds mode None host events book view outcome → RunsSections rounds mode view sections outcome
prepared_runs rounds mode view sections host events book script is _ (RunsPrepared.Ran report answers whole short reports bursts) =
    run_of_script rounds mode view sections host events _ script (Runs.Ran book report answers is whole short reports bursts)
prepared_runs rounds mode view sections host events book script is _ (RunsPrepared.TraceTooLong bound long) =
    run_of_script rounds mode view sections host events _ script (Runs.TraceTooLong book bound is long)

-- the reply of a run that was prepared is one of `run`
pub prepared_reply : (rounds : ℕ) (mode : RunMode) (old new : View) (sections : List (List ℕ)) (run : Prepared)
    (reply : Result Text Stop) → IsReadyOf rounds mode sections (readied.Prepared run)
    → MakesOnSeat (RunsPrepared rounds mode run.seed run.host run.script run.book new) (new ≡ old) old new reply
    → MakesOnSeat (RunsSections rounds mode new sections) (LeavesRun rounds mode old new sections) old new reply
prepared_reply rounds mode old new sections run reply is makes = made_as _ _ _ _ old new reply
    (λ outcome made. prepared_runs rounds mode new sections run.host run.script run.book is.2 is.0.book outcome
    (subst (λ seed. RunsPrepared rounds mode seed run.host run.script run.book new outcome) is.1 made))
    (run_left rounds mode old new sections) makes

-- a run that was prepared is refused for its trace alone
prepared_keeps : (rounds : ℕ) (mode : RunMode) (seed : Option ℕ) (host : Host) (events : List Event) (book : BookView)
    (view : View) (section : List ℕ) (refusal : Status) (names : List (List ℕ)) (named : Option Host)
    → RunsPrepared rounds mode seed host events book view (Refuses refusal names) → KeepsHost section refusal named
prepared_keeps rounds mode seed host events book view section refusal names named (RunsPrepared.TraceTooLong bound long) =
    tt {0}

-- a run that was prepared has no host that is refused for room
pub prepared_has : (rounds : ℕ) (mode : RunMode) (run : Prepared) (Q : Type 0) (old new : View) (section : List ℕ)
    (reply : Result Text Stop)
    → MakesOnSeat (RunsPrepared rounds mode run.seed run.host run.script run.book new) Q old new reply
    → HasItsHost section reply
prepared_has rounds mode run Q old new section (Ok text) makes = tt {0}
prepared_has rounds mode run Q old new section (Err (stop.Refused refusal host)) makes =
    prepared_keeps rounds mode run.seed run.host run.script run.book new section refusal (names_in host) host makes.0
prepared_has rounds mode run Q old new section (Err stop.NoMemory) makes = tt {0}

-- what is made of a seed's host without an event is what `selftest` makes of the seed
prepared_tests : (seed : ℕ) (view : View) (host : Host) (book : BookView) → IsGenerated seed 8 64 host
    → IsBookOf host [] book → (outcome : CallOutcome) → RunsPrepared 4 Report (Some seed) host [] book view outcome
    → Selftests seed view outcome
prepared_tests seed view host book generated is _ (RunsPrepared.Ran report answers whole short reports bursts) =
    Selftests.Tested host _ generated (Runs.Ran book report answers is whole short reports bursts)
prepared_tests seed view host book generated is _ (RunsPrepared.TraceTooLong bound long) = let asked = long.asked in absurd cc

-- the reply of a run of the seed's host is one of `selftest`
pub prepared_test : (seed : ℕ) (old new : View) (run : Prepared) (reply : Result Text Stop) → IsTest seed run
    → MakesOnSeat (RunsPrepared 4 Report run.seed run.host run.script run.book new) (new ≡ old) old new reply
    → MakesOnSeat (Selftests seed new) (new ≡ old) old new reply
prepared_test seed old new run reply is makes = made_as _ _ _ _ old new reply
    (λ outcome made. prepared_tests seed new run.host run.book is.generated
    (subst (λ events. IsBookOf run.host events run.book) is.still is.prepared.book) outcome
    (subst (λ events. RunsPrepared 4 Report (Some seed) run.host events run.book new outcome) is.still
    (subst (λ head. RunsPrepared 4 Report head run.host run.script run.book new outcome) is.seed_is made)))
    (λ same. same) makes

-- a run that doesn't begin is refused so
pub run_stops : (rounds : ℕ) (mode : RunMode) (run : Prepared) (old new : View) (f : RunFault) → new ≡ old
    → StopsRun run.book.course rounds mode f
    → MakesOnSeat (RunsPrepared rounds mode run.seed run.host run.script run.book new) (new ≡ old) old new (Err (run_stop f))
run_stops rounds mode run old new (fault.TraceTooLong bound) same long = (RunsPrepared.TraceTooLong bound long, same)
run_stops rounds mode run old new fault.NoMemory same long = same

-- the crew of a run that keeps all stints has those of a whole run
pub kept_run : (course : CourseView) (rounds : ℕ) (mode : RunMode) (view : View) (ran : RanView)
    → IsRunOf course rounds mode view ran → keeps_stints mode ≡ true → IsKeptRun course rounds ran.crew (state_of course view)
kept_run course rounds mode view ran is asked = record {
  course_is = is.course_is;
  invariant = is.promises.invariant;
  complete = is.complete;
  used = is.used;
  stints = λ c a core at here.
      let within : c < course.cores = omega (arith, slice_get_within (state_of course view).cores c core here, is.promises.invariant.size) in
      sym (ap kept_in at) ∙ (is.stints asked c within ∙ ap stints_of here);
}

-- there is room for a run that is made
pub room_for : (course : CourseView) (rounds : ℕ) (mode : RunMode) (s : State) (events : List Event) (report : BurstReportView)
    → IsCourse course → StateInvariant course rounds s → keeps_stints mode ≡ true → IsTraceWithinLimit course rounds mode
    → HasBurstRoom course rounds events report → HasRoomFor rounds s events report
room_for course rounds mode s events report kept invariant asked short room = record {
  rounds_fit = room.rounds_fit;
  stints_fit = omega (arith, all_stints course rounds room.bound s kept invariant room.is, room.stints_fit (short asked room.bound room.is));
  events_fit = room.events_fit;
}

-- a run that was made of what was prepared, with answers on its bursts
module _ (rounds : ℕ) (mode : RunMode) (run : Prepared) (view : View) (ran : RanView) (answers : List BurstAnswer)
    (is : IsPrepared rounds run) (of : IsRunOf run.book.course rounds mode view ran)
    (bursts : mode ≡ Burst → AreBurstAnswers run.book.course rounds (state_of run.book.course view) run.script answers) where
  -- it is a whole run
  whole_run : RunsWhole rounds run.host run.script run.book.course view
  whole_run = record {
    course_is = is.book.course;
    course_kept = of.course_kept;
    started = of.started;
    holds = of.holds;
    promises = of.promises;
    reservations = run_keeps run.host run.script run.book.course rounds (state_of run.book.course view) is.book.course of.promises;
    complete = of.complete;
  }

  -- what is written of it is the text of that
  text_is : run_text mode run.host run.changes.items ran.crew.course rounds (kept_stints ran) ran.report
      ≡ text_of_run rounds mode run.host run.script run.book view ran.report
  text_is = tells_of_state run.book.course rounds mode view ran run.host run.changes.items of
      ∙ ap (λ (changes : List (ℕ × PlanOutcome)). run_text mode run.host changes run.book.course rounds
      (stints_at (state_of run.book.course view)) ran.report) is.changes

  -- its text is what is made of it
  pub run_made : IsTraceWithinLimit run.book.course rounds mode
      → RunsPrepared rounds mode run.seed run.host run.script run.book view
      (Writes (head_of run.seed mode run.host run.script answers
      ++ run_text mode run.host run.changes.items ran.crew.course rounds (kept_stints ran) ran.report))
  run_made short =
      subst (λ (t : List ℕ). RunsPrepared rounds mode run.seed run.host run.script run.book view
      (Writes (head_of run.seed mode run.host run.script answers ++ t))) (sym text_is)
      (RunsPrepared.Ran ran.report answers whole_run (λ bound long.
      (let most = short long.asked bound long.is in
      omega (arith, most, long.beyond))) of.report bursts)

  -- it can be written
  pub run_written : IsRunWritable mode run.host ran × (mode ≡ Burst → length answers ≡ length (bursts_of run.script))
  run_written = (
    can_be_told run.book.course rounds mode view ran run.host of is.vcpus (sym is.book.course.cores),
    λ asked. (bursts asked).size,
  )
