-- What the steps of a run make of its cores: entries and stints, in the order of the steps.
use Rattle.std.specs.Prelude.{◌≡◌, ℕ, ◌<◌, ◌≤◌, List, [], ◌∷◌, ◌++◌, length}
use Rattle.std.specs.List.{All}
use Rattle.tab_core.specs.declared.entry.Entry.{Entry}
use Rattle.tab_core.specs.declared.stint.Stint.{Stint}
use Rattle.table_form.specs.Running.Courses.{CourseView}
use Rattle.table_form.specs.Running.State.{State}
use Rattle.script_doc.specs.declared.step.Step.{Step}
use Rattle.script_doc.specs.declared.step.Step.TheVariants as steps
use Rattle.step_machine.specs.declared.answer.Answer.{Answer}
use Rattle.step_machine.specs.declared.answer.Answer.TheVariants.{Done, Behind, NotNow}
use Rattle.step_machine.specs.declared.trace.Made.{Made}
use Rattle.step_machine.specs.declared.trace.Made.TheVariants.{Entered, Ran}
use Rattle.step_machine.specs.Answers.{Moves}
use Rattle.step_machine.specs.Cores.{core_at}

-- the list ends with this
abbrev pub EndsWith : {X : Type 0} → List X → X → Type 0
EndsWith {X} xs x = (front : List X) × (xs ≡ front ++ x ∷ [])

-- the step, which led to this state, made these: a Decide its core's last entry, a Run its core's
-- last stint, and any other step nothing
abbrev pub AreMadeBy : Step → State → List Made → Type 0
AreMadeBy steps.Post s made = made ≡ []
AreMadeBy (steps.See c) s made = made ≡ []
AreMadeBy (steps.Decide c) s made = (e : Entry) × EndsWith (core_at s c).entries e × (made ≡ Entered c e ∷ [])
AreMadeBy (steps.Run c) s made = (t : Stint) × EndsWith (core_at s c).stints t × (made ≡ Ran c t ∷ [])

-- a step with this answer, which led to this state, adds what it made; one that isn't done adds nothing
abbrev pub AddsMade : Step → Answer → State → List Made → List Made → Type 0
AddsMade step Done s before after = (made : List Made) × AreMadeBy step s made × (after ≡ before ++ made)
AddsMade step (Behind who tick) s before after = after ≡ before
AddsMade step (NotNow found) s before after = after ≡ before

-- the steps, each of them allowed, lead from the one state to the other and make these, in their order
abbrev pub IsTrace : CourseView → ℕ → State → List Step → State → List Made → Type 0
IsTrace course rounds old [] new made = (old ≡ new) × (made ≡ [])
IsTrace course rounds old (step ∷ steps) new made = (mid : State) × (first : List Made) × (later : List Made)
    × Moves course rounds old step mid × AreMadeBy step mid first
    × IsTrace course rounds mid steps new later × (made ≡ first ++ later)

-- an entry or a stint is of a core of the course, and a stint used a count of the course's events
abbrev pub IsOfCourse : CourseView → Made → Type 0
IsOfCourse course (Entered c e) = c < course.cores
IsOfCourse course (Ran c t) = (c < course.cores) × (t.used ≤ length course.ticks)

-- all that the steps of a run made is of the course
abbrev pub AreOfCourse : CourseView → List Made → Type 0
AreOfCourse course made = All (IsOfCourse course) made
