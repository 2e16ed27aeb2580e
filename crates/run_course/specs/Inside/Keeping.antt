-- How many stints each core keeps.
use Rattle.std.specs.Prelude.{◌≡◌, ℕ, ◌*◌, ◌<◌, ◌≤◌, true, List, Some, slice_index}
use Rattle.tab_words.specs.declared.command.RunMode.{RunMode}
use Rattle.table_form.specs.Running.Courses.{CourseView}
use Rattle.dispatch_core.specs.States.{StateView}
use Rattle.round_words.specs.declared.view.View.{View}
use Rattle.core_workers.specs.Crews.{AllAgree, IsNewView}
use Rattle.core_workers.specs.Views.{CrewView, actor_of}
use Rattle.run_limit.specs.StintBounds.{IsLargestSpans, IsStintBound, stints_of_round}
use Rattle.run_course.specs.Runs.{IsTooLong, keeps_stints}
use Rattle.run_course.specs.declared.keeping.RunFault.{RunFault}
use Rattle.run_course.specs.declared.keeping.RunFault.TheVariants.{TraceTooLong, NoMemory}
use Rattle.run_course.specs.declared.keeping.TheConstants.{TRACE_LIMIT}

-- so many stints are all that a run of so many rounds can have of the core
pub record IsRoomFor (course : CourseView) (rounds c keep : ℕ) : Type 0 where
  pub most : ℕ
  pub largest : IsLargestSpans course c most
  pub keep_is : keep ≡ rounds * stints_of_round course most

-- each core below the n-th keeps as many
abbrev pub KeepAll : CourseView → ℕ → List ℕ → ℕ → Type 0
KeepAll course rounds keep n = (c : ℕ) → c < n → IsRoomFor course rounds c (slice_index keep c)

-- the cause of a fault: there may be too many stints to keep
abbrev pub StopsRun : CourseView → ℕ → RunMode → RunFault → Type 0
StopsRun course rounds mode (TraceTooLong bound) = IsTooLong rounds mode course bound
StopsRun course rounds mode NoMemory = Unit {0}

-- where all stints are to be kept, the bound is within the limit
abbrev pub IsTraceWithinLimit : CourseView → ℕ → RunMode → Type 0
IsTraceWithinLimit course rounds mode = keeps_stints mode ≡ true → (bound : ℕ) → IsStintBound course rounds bound
    → bound ≤ TRACE_LIMIT

-- the crew is that of a run of the course that hasn't begun, and where it is to, it keeps all stints
pub record IsReady (course : CourseView) (rounds : ℕ) (mode : RunMode) (crew : CrewView) : Type 0 where
  pub course_is : crew.course ≡ course
  pub rounds_are : crew.rounds ≡ rounds
  pub agrees : (v : View) → IsNewView course v → AllAgree crew v
  pub keeps : keeps_stints mode ≡ true → (c : ℕ) (a : StateView) → actor_of crew c ≡ Some a → c < course.cores
      → IsRoomFor course rounds c a.keep
