-- What is reported of all bursts of a run.
-- Source: the rules of this project.
use Rattle.std.specs.Prelude.{◌≡◌, ℕ, ◌≤◌, List, Some, length, slice_get}
use Rattle.run_limit.specs.StintBounds.{stints_in}
use Rattle.table_form.specs.Running.Courses.{CourseView}
use Rattle.table_form.specs.Running.State.{State}
use Rattle.script_doc.specs.declared.event.Event.{Event}
use Rattle.burst_bound.specs.Answers.{IsBurstAnswer}
use Rattle.burst_bound.specs.ScriptBursts.{ScriptBurst, bursts_of}
use Rattle.burst_bound.specs.declared.answer.BurstAnswer.{BurstAnswer}

-- the answers so far, and for how many rounds, stints and events there is room
pub record BurstReportView : Type 0 where
  pub answers : List BurstAnswer
  pub rounds : ℕ
  pub stints : ℕ
  pub events : ℕ

-- a report of bursts by its parts
abbrev pub burst_report_view : List BurstAnswer → ℕ → ℕ → ℕ → BurstReportView
burst_report_view answers rounds stints events = record {
  answers = answers;
  rounds = rounds;
  stints = stints;
  events = events;
}

-- the report has room for so many rounds, for the script's events and for the stints of the run
pub record HasRoomFor (rounds : ℕ) (s : State) (events : List Event) (report : BurstReportView) : Type 0 where
  pub rounds_fit : rounds ≤ report.rounds
  pub stints_fit : stints_in s ≤ report.stints
  pub events_fit : length events ≤ report.events

-- the answers are those on the bursts of the script, one for each, in their order
pub record AreBurstAnswers (course : CourseView) (rounds : ℕ) (s : State) (events : List Event)
    (answers : List BurstAnswer) : Type 0 where
  pub size : length answers ≡ length (bursts_of events)
  pub each : (k : ℕ) (b : ScriptBurst) (a : BurstAnswer) → slice_get (bursts_of events) k ≡ Some b
      → slice_get answers k ≡ Some a → IsBurstAnswer course rounds s b.event b.vcpu b.work a
