-- A course: what a script makes of a host. It has the events by their ticks, and after each count
-- of first events the plan and the set of runnable vCPUs.
-- Source: the rules of this project.
use Rattle.std.specs.Prelude.{◌≡◌, ℕ, ◌+◌, ◌*◌, ◌<◌, ◌≤◌, Bool, List, [], length, Some, slice_get, slice_index, slice_index_or}
use Rattle.tab_core.specs.declared.TheConstants.{MAX_ROUNDS, ROUND}
use Rattle.table_form.specs.Running.Outlines.{IsOutline, OutlineView, outline_view}
use Rattle.table_form.specs.Tables.Plans.{PlanView, IsPlan}

-- times are in ticks; `numbers` has for each count of first events the place of its plan in
-- `plans`, and `runnable` its set of runnable vCPUs
pub record CourseView : Type 0 where
  pub cores : ℕ
  pub lag : ℕ
  pub quantum : ℕ
  pub ticks : List ℕ
  pub plans : List PlanView
  pub numbers : List ℕ
  pub runnable : List (List Bool)

-- stands for the plan of a count that the course doesn't have
abbrev pub no_plan : PlanView
no_plan = record { tasks = []; homes = []; rows = []; capped = [] }

-- the tick of event i, from 0
abbrev pub tick_at : CourseView → ℕ → ℕ
tick_at course i = slice_index course.ticks i

-- the number of the plan after the first n events
abbrev pub plan_number_after : CourseView → ℕ → ℕ
plan_number_after course n = slice_index course.numbers n

-- the plan after the first n events
abbrev pub plan_after : CourseView → ℕ → PlanView
plan_after course n = slice_index_or course.plans (plan_number_after course n) no_plan

-- the runnable vCPUs after the first n events
abbrev pub runnable_after : CourseView → ℕ → List Bool
runnable_after course n = slice_index_or course.runnable n []

-- the course without its plans
abbrev pub outline_of : CourseView → OutlineView
outline_of course = outline_view course.cores course.lag course.quantum course.ticks course.runnable

-- the course of the outline with these plans, whose numbers by count of first events are these
abbrev pub with_plans : OutlineView → List PlanView → List ℕ → CourseView
with_plans o plans numbers = record {
  cores = o.cores;
  lag = o.lag;
  quantum = o.quantum;
  ticks = o.ticks;
  plans = plans;
  numbers = numbers;
  runnable = o.runnable;
}

-- after the first n events this is the plan of the course of the outline with these plans
abbrev pub PlanIs : OutlineView → List PlanView → List ℕ → ℕ → PlanView → Type 0
PlanIs o plans numbers n plan = plan_after (with_plans o plans numbers) n ≡ plan

-- this holds of each course of the outline whose plan after the first n events is the plan
abbrev pub InEachCourse : OutlineView → ℕ → PlanView → (CourseView → Type 0) → Type 0
InEachCourse o n plan Holds = (plans : List PlanView) (numbers : List ℕ) → PlanIs o plans numbers n plan
    → Holds (with_plans o plans numbers)

-- how the parts of a course fit together
pub record IsCourseForm (course : CourseView) : Type 0 where
  pub outline : IsOutline (outline_of course)
  pub numbered : length course.numbers ≡ length course.ticks + 1
  pub planned : (n : ℕ) → n ≤ length course.ticks → plan_number_after course n < length course.plans
  pub all_used : (k : ℕ) → k < length course.plans
      → (n : ℕ) × (n ≤ length course.ticks) × (plan_number_after course n ≡ k)
  pub in_rows : (k : ℕ) (plan : PlanView) → slice_get course.plans k ≡ Some plan
      → length plan.rows ≡ course.cores
  pub same_vcpus : (j k : ℕ) (a b : PlanView) → slice_get course.plans j ≡ Some a
      → slice_get course.plans k ≡ Some b →
      length a.tasks ≡ length b.tasks

-- what each course keeps
pub record IsCourse (course : CourseView) : Type 0 where
  pub form : IsCourseForm course
  pub plans_kept : (k : ℕ) (plan : PlanView) → slice_get course.plans k ≡ Some plan → IsPlan plan

-- a run of so many rounds: at least one, not too many, and each event's tick lies in them
pub record FitsRounds (course : CourseView) (rounds : ℕ) : Type 0 where
  pub some_round : 1 ≤ rounds
  pub few_rounds : rounds ≤ MAX_ROUNDS
  pub in_run : (i : ℕ) → i < length course.ticks → tick_at course i < rounds * ROUND
