-- What is between what was read and the reply of a run: what was prepared, and what is made of it.
use Rattle.std.specs.Prelude.{◌≡◌, ℕ, ◌≤◌, List, [], ◌++◌, length, Option, Some, None}
use Rattle.tab_core.specs.declared.host.Host.{Host}
use Rattle.tab_words.specs.Sections.{sections_of}
use Rattle.tab_words.specs.declared.command.RunMode.{RunMode}
use Rattle.tab_words.specs.declared.command.RunMode.TheVariants.{Burst, Live}
use Rattle.script_doc.specs.Script.{AreInRun, AreWithin}
use Rattle.script_doc.specs.declared.event.Event.{Event}
use Rattle.host_gen.specs.Generated.{IsGenerated}
use Rattle.table_form.specs.Running.Courses.{CourseView, FitsRounds}
use Rattle.plan_book.specs.Books.{BookView, IsBookOf}
use Rattle.round_words.specs.declared.view.View.{View}
use Rattle.run_state.specs.Readings.{state_of}
use Rattle.trace_report.specs.ReportViews.{ReportView}
use Rattle.trace_report.specs.RunReports.{vcpu_count}
use Rattle.run_limit.specs.StintBounds.{IsStintBound}
use Rattle.burst_bound.specs.Reports.{AreBurstAnswers, BurstReportView}
use Rattle.burst_bound.specs.declared.answer.BurstAnswer.{BurstAnswer}
use Rattle.run_course.specs.declared.keeping.TheConstants.{TRACE_LIMIT}
use Rattle.run_course.specs.Changes.{changes_of}
use Rattle.run_course.specs.Runs.{IsReportOfState, IsTooLong}
use Rattle.tableau_sim.specs.declared.commands.prepared.Prepared.{Prepared}
use Rattle.tableau_sim.specs.declared.commands.run.Ready.{Ready}
use Rattle.tableau_sim.specs.declared.commands.run.Ready.TheVariants as readied
use Rattle.tableau_sim.specs.declared.status.Status.TheVariants as status
use Rattle.tableau_sim.specs.Outcomes.{CallOutcome}
use Rattle.tableau_sim.specs.Outcomes.CallOutcome.{Refuses, Writes}
use Rattle.tableau_sim.specs.Hosts.{OfHost}
use Rattle.tableau_sim.specs.Run.{Runs, RunsWhole, burst_part, text_of_run}
use Rattle.tableau_sim.specs.Scripts.{HasScript, OfScript}
use Rattle.tableau_sim.specs.Selftest.{selftest_line}

-- there is room for the rounds, for the script's events, and for all stints, if they are few enough to be kept
pub record HasBurstRoom (course : CourseView) (rounds : ℕ) (events : List Event) (report : BurstReportView) : Type 0 where
  pub rounds_fit : rounds ≤ report.rounds
  pub events_fit : length events ≤ report.events
  pub bound : ℕ
  pub is : IsStintBound course rounds bound
  pub stints_fit : bound ≤ TRACE_LIMIT → bound ≤ report.stints

-- the run that hasn't begun is one of its script for its host, of so many rounds
pub record IsPrepared (rounds : ℕ) (run : Prepared) : Type 0 where
  pub book : IsBookOf run.host run.script run.book
  pub vcpus : length run.host.vcpus ≡ vcpu_count run.book.course
  pub fits : FitsRounds run.book.course rounds
  pub changes : run.changes.items ≡ changes_of run.script run.book.outcomes

-- the run is one of the seed's host, of 8 cores and 64 vCPUs, without an event
pub record IsTest (seed : ℕ) (run : Prepared) : Type 0 where
  pub prepared : IsPrepared 4 run
  pub seed_is : run.seed ≡ Some seed
  pub generated : IsGenerated seed 8 64 run.host
  pub still : run.script ≡ []

-- a run is prepared for these sections, or its host and its script are there
abbrev pub IsReadyOf : ℕ → RunMode → List (List ℕ) → Ready → Type 0
IsReadyOf rounds mode sections (readied.Prepared run) = IsPrepared rounds run × (run.seed ≡ None)
    × HasScript rounds sections run.host run.script
IsReadyOf rounds mode sections (readied.Beside host events) = (mode ≡ Live) × AreWithin (length host.vcpus) events
    × AreInRun rounds events × HasScript rounds sections host events

-- all is ready for this input, which has two sections
pub record IsReady (rounds : ℕ) (mode : RunMode) (input : List ℕ) (made : Ready) : Type 0 where
  pub two : length (sections_of input) ≡ 2
  pub of : IsReadyOf rounds mode (sections_of input) made

-- what `run` makes of its sections
abbrev pub RunsSections : ℕ → RunMode → View → List (List ℕ) → CallOutcome → Type 0
RunsSections rounds mode view = OfHost (OfScript rounds (Runs rounds mode view))

-- what is before a run: the line of its seed, or the lines of its bursts, if they are asked for
abbrev pub head_of : Option ℕ → RunMode → Host → List Event → List BurstAnswer → List ℕ
head_of (Some seed) mode host events answers = selftest_line seed
head_of None mode host events answers = burst_part mode host events answers

-- what is made of a run that was prepared, whose view this is then: its text, or a refusal with its cause
pub data RunsPrepared (rounds : ℕ) (mode : RunMode) (seed : Option ℕ) (host : Host) (events : List Event)
    (book : BookView) (view : View) : CallOutcome → Type 0 where
  Ran : (report : ReportView) (answers : List BurstAnswer) → RunsWhole rounds host events book.course view
      → ((bound : ℕ) → IsTooLong rounds mode book.course bound → ⊥)
      → IsReportOfState book.course (state_of book.course view) report
      → (mode ≡ Burst → AreBurstAnswers book.course rounds (state_of book.course view) events answers)
      → RunsPrepared rounds mode seed host events book view
      (Writes (head_of seed mode host events answers ++ text_of_run rounds mode host events book view report))
  TraceTooLong : (bound : ℕ) → IsTooLong rounds mode book.course bound
      → RunsPrepared rounds mode seed host events book view (Refuses (status.TraceTooLong bound) [])
