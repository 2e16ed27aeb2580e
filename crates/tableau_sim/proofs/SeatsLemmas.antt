-- The calls with a seat: what they share with those without one, and what a run's `Ok` tells.
use Rattle.tab_words.specs.declared.command.Usage.{Usage}
use Rattle.std.proofs.Common.{◌≡◌, ℕ, List, [], Option, None, Some, Result, Ok, false, refl, inl, subst}
use Rattle.tab_core.specs.declared.host.Host.{Host}
use Rattle.tab_io.specs.Views.{SourceView, SinkView}
use Rattle.tab_words.specs.Commands.{IsCommand}
use Rattle.tab_words.specs.declared.command.Command.{Command}
use Rattle.tab_words.specs.declared.command.Command.TheVariants as called
use Rattle.tab_words.specs.declared.command.RunMode.{RunMode}
use Rattle.tab_words.specs.declared.command.RunMode.TheVariants.{Live, Report}
use Rattle.round_words.specs.declared.view.View.{View}
use Rattle.tableau_sim.specs.declared.status.Status.{Status}
use Rattle.tableau_sim.specs.declared.status.Status.TheVariants as status
use Rattle.tableau_sim.specs.Columns.{reads}
use Rattle.tableau_sim.specs.Commands.{AreStill, IsStillCommand, LeavesNothing, Replies}
use Rattle.tableau_sim.specs.Frame.{Answers, Due, HasDue, IsDue}
use Rattle.tableau_sim.specs.Frame.Due.{LacksMemory, NoCommand, Replied, SourceFailed, TooMuch}
use Rattle.tableau_sim.specs.Outcomes.{CallOutcome, IsOfInput, status_of}
use Rattle.tableau_sim.specs.Outcomes.CallOutcome.{Refuses, Writes}
use Rattle.script_doc.specs.declared.event.Event.{Event}
use Rattle.table_form.specs.Running.Courses.{CourseView}
use Rattle.tableau_sim.specs.Hosts.OfHost.{BadHost, Hosted}
use Rattle.tableau_sim.specs.Inside.Running.{RunsSections}
use Rattle.tableau_sim.specs.Scripts.{OfScript}
use Rattle.tableau_sim.specs.Scripts.OfScript.{BadScript, Scripted}
use Rattle.tableau_sim.specs.Run.{Runs, RunsWhole}
use Rattle.tableau_sim.specs.Seats.{HasRun, HasTested, LeavesRun, LeavesSeat, OnSeat}
use Rattle.tableau_sim.specs.Sections.{OfSections}
use Rattle.tableau_sim.specs.Sections.OfSections.{BadSections, Sectioned}
use Rattle.tableau_sim.specs.Clauses.{HandsHost}
use Rattle.tableau_sim.specs.Inside.Reply.{AnswersWith}
use Rattle.tab_words.specs.Sections.{sections_of}
use Rattle.std.specs.Io.KnownBytes.{Consumes}
use Rattle.tableau_sim.specs.Selftest.{Selftests}
use Rattle.tableau_sim.proofs.ClausesLemmas.{WroteFor}
use Rattle.tableau_sim.proofs.OutcomesLemmas.{host_refuses, refuses_input, script_refuses, sections_refuse, unplanned_tells, writes_unread}

-- each refusal of `run` tells of its input, by its constructors
run_refuses : (rounds : ℕ) (mode : RunMode) (view : View) (host : Host) (events : List Event)
    (sections : List (List ℕ)) (refusal : Status) (names : List (List ℕ))
    → Runs rounds mode view host events sections (Refuses refusal names) → IsOfInput refusal
run_refuses rounds mode view host events sections refusal names (Runs.Unplanned same lacks) =
    unplanned_tells [] host refusal lacks
run_refuses rounds mode view host events sections refusal names (Runs.TraceTooLong book bound is long) = tt {0}

-- each refusal of the input of `run` tells of it
run_input_refuses : (rounds : ℕ) (mode : RunMode) (view : View) (input : List ℕ) (refusal : Status)
    (names : List (List ℕ)) → OfSections 2 (RunsSections rounds mode view) input (Refuses refusal names)
    → IsOfInput refusal
run_input_refuses rounds mode view input refusal names =
    sections_refuse 2 (RunsSections rounds mode view) input refusal names
    (λ s r ns. host_refuses (OfScript rounds (Runs rounds mode view)) s r ns
    (λ host parts r' ns'. script_refuses rounds (Runs rounds mode view) host parts r' ns'
    (run_refuses rounds mode view)))

-- `selftest` writes a text
selftest_writes : (seed : ℕ) (view : View) (outcome : CallOutcome) → Selftests seed view outcome
    → status_of outcome ≡ status.Ok
selftest_writes seed view outcome (Selftests.Tested host text is of) = refl

-- the refusals of `selftest` are of its input: there are none
selftest_refuses : (seed : ℕ) (view : View) (outcome : CallOutcome) (refusal : Status) (names : List (List ℕ))
    → Selftests seed view outcome → outcome ≡ Refuses refusal names → IsOfInput refusal
selftest_refuses seed view outcome refusal names (Selftests.Tested host text is of) same = absurd cc

-- no command refuses as the frame does, with a seat either
pub seat_refuses : (old new : View) (command : Command) (input : List ℕ) (refusal : Status)
    (names : List (List ℕ)) → OnSeat old new command input (Refuses refusal names) → IsOfInput refusal
seat_refuses old new (called.Run rounds mode) input refusal names h =
    run_input_refuses rounds mode new input refusal names h.0
seat_refuses old new (called.Selftest seed) input refusal names h =
    selftest_refuses seed new _ refusal names h.0 refl
seat_refuses old new other input refusal names h = refuses_input other input refusal names h.0

-- a command that reads nothing refuses nothing, with a seat too
pub seat_writes : (old new : View) (command : Command) (input : List ℕ) (outcome : CallOutcome)
    → reads command ≡ false → OnSeat old new command input outcome → status_of outcome ≡ status.Ok
seat_writes old new (called.Run rounds mode) input outcome still h = absurd cc
seat_writes old new (called.Selftest seed) input outcome still h = selftest_writes seed new outcome h.0
seat_writes old new other input outcome still h = writes_unread other input outcome still h.0

-- what a command makes without a seat it makes with one that it leaves
left_alone : (view : View) (command : Command) (input : List ℕ) (outcome : CallOutcome) → IsStillCommand command
    → Replies command input outcome → OnSeat view view command input outcome
left_alone view (called.Run rounds mode) input outcome still h = absurd still
left_alone view (called.Selftest seed) input outcome still h = absurd still
left_alone view other input outcome still h = (h, refl)

-- running out of memory for a run may leave the seat as it was
pub run_left : (rounds : ℕ) (mode : RunMode) (old new : View) (sections : List (List ℕ)) → new ≡ old
    → LeavesRun rounds mode old new sections
run_left rounds Live old new sections same = inl same
run_left rounds other old new sections same = same

-- whatever isn't a command's reply may leave the seat as it was
pub seat_left : (old new : View) (due : Due) (input : List ℕ) → new ≡ old → LeavesSeat old new due input
seat_left old new (LacksMemory (called.Run rounds mode)) input same =
    run_left rounds mode old new (sections_of input) same
seat_left old new due input same = same

-- what is due without a seat is due with one
due_with_seat : (view : View) (words : List (List ℕ)) (old new : SourceView) (input : List ℕ) (due : Due)
    → AreStill words → IsDue Replies LeavesNothing words old new input due
    → IsDue (OnSeat view view) (LeavesSeat view view) words old new input due
due_with_seat view words old new input (NoCommand place) still h = (h.0, h.1, refl)
due_with_seat view words old new input (SourceFailed command) still h = (h.0, h.1, h.2, h.3, h.4, refl)
due_with_seat view words old new input (TooMuch command) still h = (h.0, h.1, h.2, refl)
due_with_seat view words old new input (LacksMemory command) still h =
    (h.0, h.1, h.2, seat_left view view (LacksMemory command) input refl)
due_with_seat view words old new input (Replied command outcome) still h =
    (h.0, h.1, left_alone view command input outcome (still command h.0) h.2)

-- what was due without a seat was due with one
abbrev had_with_seat : (view : View) (words : List (List ℕ)) (old new : SourceView) (due : Due) → AreStill words
    → HasDue Replies LeavesNothing words old new due → HasDue (OnSeat view view) (LeavesSeat view view) words old new due
had_with_seat view words old new due still had = record {
  input = had.input;
  consumed = had.consumed;
  is_due = due_with_seat view words old new had.input due still had.is_due;
}

-- the answer with a seat is that without one
answers_with_seat : (view : View) (words : List (List ℕ)) (source source' : SourceView)
    (sink sink' : SinkView) (told : Status) → AreStill words
    → Answers Replies LeavesNothing words source source' sink sink' told
    → Answers (OnSeat view view) (LeavesSeat view view) words source source' sink sink' told
answers_with_seat view words source source' sink sink' told still a = record {
  due = a.due;
  has_due = had_with_seat view words source source' a.due still a.has_due;
  later = a.later;
  written = a.written;
}

-- what is handed on without a seat is handed on with one that is left
hands_with_seat : (view : View) (words : List (List ℕ)) (source source' : SourceView) (told : Status)
    (host : Option Host) → AreStill words → HandsHost Replies LeavesNothing words source source' told host
    → HandsHost (OnSeat view view) (LeavesSeat view view) words source source' told host
hands_with_seat view words source source' (status.NoRoom vcpu rest over) None still h = h
hands_with_seat view words source source' (status.NoRoom vcpu rest over) (Some host) still h = record {
  command = h.command;
  had = had_with_seat view words source source' _ still h.had;
  is_host = h.is_host;
}
hands_with_seat view words source source' other host still h = h

-- the call with a seat that is left ends as that without one
pub ended_with_seat : (view : View) (words : List (List ℕ)) (source source' : SourceView) (sink sink' : SinkView)
    (told : Status) (host : Option Host) → AreStill words
    → AnswersWith Replies LeavesNothing words source source' sink sink' told host
    → AnswersWith (OnSeat view view) (LeavesSeat view view) words source source' sink sink' told host
ended_with_seat view words source source' sink sink' told host still a = record {
  answers = answers_with_seat view words source source' sink sink' told still a.answers;
  hands = hands_with_seat view words source source' told host still a.hands;
}

-- ---- what `Ok` of a run tells

-- a run on some course of a host and a script
record HasCourse (rounds : ℕ) (host : Host) (events : List Event) (view : View) : Type 0 where
  course : CourseView
  whole : RunsWhole rounds host events course view

-- the text of a run is that of a whole run
run_whole : (rounds : ℕ) (mode : RunMode) (view : View) (host : Host) (events : List Event)
    (sections : List (List ℕ)) (outcome : CallOutcome) → status_of outcome ≡ status.Ok
    → Runs rounds mode view host events sections outcome → HasCourse rounds host events view
run_whole rounds mode view host events sections _ ok (Runs.Ran book report answers is whole short reports told) =
    record { course = book.course; whole = whole }
run_whole rounds mode view host events sections _ ok (Runs.Unplanned refusal lacks) =
    absurd (subst IsOfInput ok (unplanned_tells [] host refusal lacks))
run_whole rounds mode view host events sections _ ok (Runs.TraceTooLong book bound is long) = absurd cc

-- the text of a run of sections is that of a whole run of their host and script
run_has : (rounds : ℕ) (mode : RunMode) (view : View) (input : List ℕ) (outcome : CallOutcome)
    (source source' : SourceView) → Consumes source.rest source'.rest input → status_of outcome ≡ status.Ok
    → RunsSections rounds mode view (sections_of input) outcome → HasRun rounds source source' view
run_has rounds mode view input _ source source' consumed ok (BadHost fault bad) = absurd cc
run_has rounds mode view input _ source source' consumed ok (Hosted host _ is (BadScript fault bad)) = absurd cc
run_has rounds mode view input _ source source' consumed ok
    (Hosted host _ is (Scripted events outcome script made)) =
    let run = run_whole rounds mode view host events (sections_of input) outcome ok made in
    record {
      input = input;
      consumed = consumed;
      host = host;
      events = events;
      course = run.course;
      script = record { is_host = is; is_script = script };
      whole = run.whole;
    }

-- the text of a run is that of its input
run_of : (rounds : ℕ) (mode : RunMode) (view : View) (input : List ℕ) (outcome : CallOutcome)
    (source source' : SourceView) → Consumes source.rest source'.rest input
    → status_of outcome ≡ status.Ok → OfSections 2 (RunsSections rounds mode view) input outcome
    → HasRun rounds source source' view
run_of rounds mode view input _ source source' consumed ok (BadSections found is off) = absurd cc
run_of rounds mode view input _ source source' consumed ok (Sectioned outcome two made) =
    run_has rounds mode view input outcome source source' consumed ok made

-- the clause `ran`
pub ran_told : (old new : View) (words : List (List ℕ)) (rounds : ℕ) (mode : RunMode) (source source' : SourceView)
    (sink sink' : SinkView)
    → WroteFor (OnSeat old new) (LeavesSeat old new) words (called.Run rounds mode) source source' sink sink'
    → HasRun rounds source source' new
ran_told old new words rounds mode source source' sink sink' wrote =
    let had = wrote.1.had in
    run_of rounds mode new had.input _ source source' had.consumed refl had.is_due.2.0

-- a self test whose text is written is a whole run
test_of : (seed : ℕ) (view : View) (outcome : CallOutcome) → Selftests seed view outcome → HasTested seed view
test_of seed view outcome (Selftests.Tested host text is of) =
    let run = run_whole 4 Report view host [] [] (Writes text) refl of in
    record { host = host; course = run.course; is = is; whole = run.whole }

-- the clause `tested`
pub tested_told : (old new : View) (words : List (List ℕ)) (seed : ℕ) (source source' : SourceView)
    (sink sink' : SinkView)
    → WroteFor (OnSeat old new) (LeavesSeat old new) words (called.Selftest seed) source source' sink sink'
    → HasTested seed new
tested_told old new words seed source source' sink sink' wrote = test_of seed new _ wrote.1.had.is_due.2.0

-- ---- the words

-- words that weren't read as a command that starts threads are none
pub still_words : (words : List (List ℕ)) (read : Result Command Usage)
    → ((command : Command) → IsCommand words command → read ≡ Ok command)
    → ((rounds : ℕ) (mode : RunMode) → read ≡ Ok (called.Run rounds mode) → ⊥)
    → ((seed : ℕ) → read ≡ Ok (called.Selftest seed) → ⊥) → AreStill words
still_words words read due no_run no_test = still where
  still : AreStill words
  still (called.Run rounds mode) are = absurd (no_run rounds mode (due (called.Run rounds mode) are))
  still (called.Selftest seed) are = absurd (no_test seed (due (called.Selftest seed) are))
  still other are = tt {0}
