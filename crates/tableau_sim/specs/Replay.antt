-- `replay`, of a host, a script and a list of steps: the run to which the steps lead; or the first cause
-- that there is none.
use Rattle.std.specs.Prelude.{◌≡◌, ℕ, List, [], Some, slice_get, slice_index_or}
use Rattle.tab_core.specs.declared.host.Host.{Host}
use Rattle.vcpu_names.specs.Names.{names_of}
use Rattle.script_doc.specs.Statements.{statements_of}
use Rattle.script_doc.specs.Steps.{AreSteps, IsFirstBadLine}
use Rattle.script_doc.specs.declared.event.Event.{Event}
use Rattle.script_doc.specs.declared.step.Step.{Step}
use Rattle.table_form.specs.Running.Courses.{CourseView, IsCourse}
use Rattle.table_form.specs.Running.State.{State, opening}
use Rattle.table_form.specs.Promises.Run.{KeepsPromises}
use Rattle.step_machine.specs.Refusals.{IsRefused}
use Rattle.step_machine.specs.Runs.{Leads}
use Rattle.step_machine.specs.declared.answer.Answer.{Answer}
use Rattle.replay_text.specs.ReplayText.{replay_text}
use Rattle.step_machine.specs.Traces.{IsTrace}
use Rattle.step_machine.specs.declared.trace.Made.{Made}
use Rattle.tableau_sim.specs.declared.status.Status.{Status}
use Rattle.tableau_sim.specs.declared.status.Status.TheVariants as status
use Rattle.plan_book.specs.Courses.{IsCourseOf}
use Rattle.plan_promises.specs.Runs.{RunKeepsReservations}
use Rattle.tableau_sim.specs.Outcomes.{CallOutcome}
use Rattle.tableau_sim.specs.Outcomes.CallOutcome.{Refuses, Writes}
use Rattle.tableau_sim.specs.Plan.{HasNoPlan}

-- the section of the steps, which is the third
abbrev pub steps_section : List (List ℕ) → List ℕ
steps_section sections = slice_index_or sections 2 []

-- all steps are allowed, one after the other, from the opening of the course that the script makes of
-- the host, and lead to this state; it keeps what every run promises, and the steps made these entries
-- and stints, in their order
pub record RunsTo (rounds : ℕ) (host : Host) (events : List Event) (steps : List Step) (course : CourseView)
    (state : State) (made : List Made) : Type 0 where
  pub course_is : IsCourseOf host events course
  pub leads : Leads course rounds (opening course.cores) steps state
  pub course_kept : IsCourse course
  pub promises : KeepsPromises course rounds state
  pub reservations : RunKeepsReservations host events course state
  pub trace : IsTrace course rounds (opening course.cores) steps state made

-- the step at the place is the first that isn't done, with this answer, in a run of the course that the
-- script makes of the host
pub record IsStepRefused (rounds : ℕ) (host : Host) (events : List Event) (steps : List Step) (place : ℕ)
    (answer : Answer) : Type 0 where
  pub course : CourseView
  pub course_is : IsCourseOf host events course
  pub course_kept : IsCourse course
  pub refused : IsRefused course rounds steps place answer

-- what becomes of steps and the lines that they are on, in a run of so many rounds: its text, or a refusal with its
-- cause
pub data ReplaysSteps (rounds : ℕ) (host : Host) (events : List Event) (steps : List Step) (lines : List ℕ)
    : CallOutcome → Type 0 where
  Replayed : (course : CourseView) (state : State) (made : List Made)
      → RunsTo rounds host events steps course state made → ReplaysSteps rounds host events steps lines
      (Writes (replay_text (names_of host.vcpus) course made state.posted))
  Unplanned : (refusal : Status) → HasNoPlan [] host refusal
      → ReplaysSteps rounds host events steps lines (Refuses refusal (names_of host.vcpus))
  StepRefused : (place line : ℕ) (answer : Answer) → slice_get lines place ≡ Some line
      → IsStepRefused rounds host events steps place answer
      → ReplaysSteps rounds host events steps lines (Refuses (status.StepRefused line answer) [])

-- what `replay` makes of a host, of a script of it and of these sections: the third is a list of steps, or its first
-- bad line is refused
pub data Replays (rounds : ℕ) (host : Host) (events : List Event) (sections : List (List ℕ))
    : CallOutcome → Type 0 where
  Listed : (steps : List Step) (lines : List ℕ) (outcome : CallOutcome)
      → AreSteps host.cores (statements_of (steps_section sections)) steps lines
      → ReplaysSteps rounds host events steps lines outcome → Replays rounds host events sections outcome
  BadStep : (line : ℕ) → IsFirstBadLine host.cores (statements_of (steps_section sections)) line
      → Replays rounds host events sections (Refuses (status.BadStep line) [])
