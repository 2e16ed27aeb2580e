-- Whole runs of the machine.
use Rattle.std.specs.Prelude.{◌≡◌, ℕ, List, [], ◌∷◌}
use Rattle.script_doc.specs.declared.step.Step.{Step}
use Rattle.table_form.specs.Running.Courses.{CourseView}
use Rattle.table_form.specs.Running.State.{State}
use Rattle.step_machine.specs.Answers.{Moves}

-- the steps, each of them allowed, lead from the one state to the other
abbrev pub Leads : CourseView → ℕ → State → List Step → State → Type 0
Leads course rounds old [] new = old ≡ new
Leads course rounds old (step ∷ steps) new = (mid : State) × Moves course rounds old step mid
    × Leads course rounds mid steps new
