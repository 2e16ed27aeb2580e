-- The step that is possible while a run isn't whole.
-- Source: the rules of this project.
use Rattle.std.specs.Prelude.{◌≡◌, ◌≢◌, ◌⊎◌, ℕ, ◌<◌, length}
use Rattle.script_doc.specs.declared.step.Step.{Step}
use Rattle.script_doc.specs.declared.step.Step.TheVariants as steps
use Rattle.table_form.specs.Running.Courses.{CourseView}
use Rattle.table_form.specs.Running.Next.{IsLeastClock}
use Rattle.table_form.specs.Running.State.{State, CoreState}
use Rattle.table_form.specs.Running.Phases.{to_see, to_decide, to_run, at_end, phase_of}
use Rattle.table_form.specs.Promises.Fresh.{HasUpTo}
use Rattle.step_machine.specs.Answers.{Moves}

-- for the lowest core of least clock: Post where all have finished, or where this core must see and
-- an event that it must have isn't posted; otherwise what this core has to do next
abbrev pub IsNextFor : CourseView → ℕ → State → ℕ → CoreState → Step → Type 0
IsNextFor course rounds s c core steps.Post =
    ((phase_of rounds core ≡ at_end) × (s.posted < length course.ticks))
    ⊎ ((phase_of rounds core ≡ to_see) × (HasUpTo course s.posted core.clock → ⊥))
IsNextFor course rounds s c core (steps.See d) = (d ≡ c) × (phase_of rounds core ≡ to_see)
    × HasUpTo course s.posted core.clock
IsNextFor course rounds s c core (steps.Decide d) = (d ≡ c) × (phase_of rounds core ≡ to_decide)
IsNextFor course rounds s c core (steps.Run d) = (d ≡ c) × (phase_of rounds core ≡ to_run)

-- the step is the next one for the lowest core of least clock, it is allowed, and it changes the state
pub record IsNextStep (course : CourseView) (rounds : ℕ) (s : State) (step : Step) : Type 0 where
  pub c : ℕ
  pub core : CoreState
  pub lowest : IsLeastClock s c core
  pub next : IsNextFor course rounds s c core step
  pub new : State
  pub moves : Moves course rounds s step new
  pub changes : new ≢ s
