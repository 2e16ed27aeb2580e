-- What `replay` asks of steps, from what their reader tells of them.
use Rattle.std.proofs.Common.{◌≡◌, ℕ, ◌<◌, All, List, length, Some, slice_get, subst, arith}
use Rattle.std.proofs.lemmas.List.Elements.{All-get_or}
use Rattle.std.proofs.lemmas.Option.{get_or_from_slice_get, slice_get_within}
use Rattle.table_form.specs.Running.Courses.{CourseView}
use Rattle.script_doc.specs.Steps.{IsStepWithin}
use Rattle.script_doc.specs.declared.step.Step.{Step}
use Rattle.script_doc.specs.declared.step.Step.TheVariants as step
use Rattle.step_machine.specs.Answers.{NamesCore}
use Rattle.step_machine.specs.Refusals.{IsRefused}
use Rattle.step_machine.specs.declared.answer.Answer.{Answer}

-- a step within the host's cores names a core of the course
names_core : (course : CourseView) (cores : ℕ) (taken : Step) → course.cores ≡ cores
    → IsStepWithin cores taken → NamesCore course taken
names_core course cores step.Post same within = tt {0}
names_core course cores (step.See c) same within = omega (arith, same, within)
names_core course cores (step.Decide c) same within = omega (arith, same, within)
names_core course cores (step.Run c) same within = omega (arith, same, within)

-- each step of a list within the host's cores names a core of the course, as `replay` wants
pub each_names_core : (course : CourseView) (cores : ℕ) (all : List Step) → course.cores ≡ cores
    → All (IsStepWithin cores) all
    → (k : ℕ) (taken : Step) → slice_get all k ≡ Some taken → NamesCore course taken
each_names_core course cores all same within k taken at =
    names_core course cores taken same (subst (IsStepWithin cores) (get_or_from_slice_get all k taken taken at)
    (All-get_or (IsStepWithin cores) all k taken (slice_get_within all k taken at) within))

-- a step that isn't done has a line, so that its number can be looked up
pub place_in : (course : CourseView) (rounds : ℕ) (taken : List Step) (lines : List ℕ) (place : ℕ)
    (answer : Answer) → length lines ≡ length taken → IsRefused course rounds taken place answer
    → place < length lines
place_in course rounds taken lines place answer same refused =
    omega (arith, same, slice_get_within taken place refused.step refused.at)
