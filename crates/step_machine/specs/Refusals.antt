-- Why a list of steps is refused.
use Rattle.std.specs.Prelude.{◌≡◌, ◌≢◌, ℕ, List, Some, take, slice_get}
use Rattle.script_doc.specs.declared.step.Step.{Step}
use Rattle.table_form.specs.Running.Courses.{CourseView}
use Rattle.table_form.specs.Running.State.{State, opening}
use Rattle.step_machine.specs.declared.answer.Answer.{Answer}
use Rattle.step_machine.specs.declared.answer.Answer.TheVariants.{Done}
use Rattle.step_machine.specs.declared.fault.ReplayFault.{ReplayFault}
use Rattle.step_machine.specs.declared.fault.ReplayFault.TheVariants.{Refused, NoMemory}
use Rattle.step_machine.specs.Answers.{AnswersStep}
use Rattle.step_machine.specs.Runs.{Leads}

-- the steps before the place are allowed, and the one there isn't done, with this answer
pub record IsRefused (course : CourseView) (rounds : ℕ) (steps : List Step) (place : ℕ)
    (answer : Answer) : Type 0 where
  pub mid : State
  pub before : Leads course rounds (opening course.cores) (take place steps) mid
  pub step : Step
  pub at : slice_get steps place ≡ Some step
  pub answered : AnswersStep course rounds mid step answer mid
  pub not_done : answer ≢ Done

-- the fault of a replay is the refusal of its steps; running out of memory says nothing of them
abbrev pub IsFaultOf : CourseView → ℕ → List Step → ReplayFault → Type 0
IsFaultOf course rounds steps (Refused place answer) = IsRefused course rounds steps place answer
IsFaultOf course rounds steps NoMemory = Unit {0}
