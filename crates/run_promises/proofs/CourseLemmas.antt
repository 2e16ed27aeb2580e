-- The plans of a course after each count, which are plans or the empty one.
use Rattle.std.proofs.Common.{ℕ, inl, inr}
use Rattle.std.specs.Prelude.{slice_index}
use Rattle.table_form.specs.Running.Courses.{CourseView, IsCourse, plan_after, no_plan}
use Rattle.table_form.specs.Tables.Serves.{Apart, Serves, ServesExactly}
use Rattle.run_promises.proofs.Lists.{either}

-- after each count no vCPU is in two rows at one place
pub apart_after : (course : CourseView) → IsCourse course → (n : ℕ) → Apart (plan_after course n).rows
apart_after course ok n = elim (either course.plans (slice_index course.numbers n) no_plan) [
  | inl at ↦ (ok.plans_kept (slice_index course.numbers n) (plan_after course n) at).apart
  | inr none ↦ rw none (λ v place c d h g. absurd cc)
]

-- each task gets its cost of cells in each period after each count
pub serves_after : (course : CourseView) → IsCourse course → (n : ℕ)
    → Serves (plan_after course n).tasks (plan_after course n).rows
serves_after course ok n = elim (either course.plans (slice_index course.numbers n) no_plan) [
  | inl at ↦ (ok.plans_kept (slice_index course.numbers n) (plan_after course n) at).serves
  | inr none ↦ rw none (λ v task h k lt. absurd cc)
]

-- each capped task gets exactly its cost of cells in each period after each count
pub exact_after : (course : CourseView) → IsCourse course → (n : ℕ)
    → ServesExactly (plan_after course n).tasks (plan_after course n).capped (plan_after course n).rows
exact_after course ok n = elim (either course.plans (slice_index course.numbers n) no_plan) [
  | inl at ↦ (ok.plans_kept (slice_index course.numbers n) (plan_after course n) at).exact
  | inr none ↦ rw none (λ v task h capped k lt. absurd cc)
]
