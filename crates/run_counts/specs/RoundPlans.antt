-- The rounds that begin with another plan, and its number.
-- Source: the rules of this project.
use Rattle.std.specs.Prelude.{ℕ, suc, nat_eq, if◌then◌else◌, List, [], ◌∷◌, Option, None, Some}
use Rattle.std.specs.Option.{option_eq}
use Rattle.table_form.specs.Running.Courses.{CourseView, plan_number_after}
use Rattle.run_counts.specs.declared.round_plan.RoundPlan.{RoundPlan}

-- of the rounds from r on those whose plan has another number than that of the round before; `last`
-- is the number of the round before r, or none
abbrev pub plans_from : CourseView → ℕ → Option ℕ → List ℕ → List RoundPlan
plans_from course r last [] = []
plans_from course r last (count ∷ counts) =
    if option_eq nat_eq last (Some (plan_number_after course count))
    then plans_from course (suc r) (Some (plan_number_after course count)) counts
    else record { round = r; plan = plan_number_after course count }
    ∷ plans_from course (suc r) (Some (plan_number_after course count)) counts

-- of a run with these counts by round
abbrev pub round_plans_of : CourseView → List ℕ → List RoundPlan
round_plans_of course decided = plans_from course 0 None decided
