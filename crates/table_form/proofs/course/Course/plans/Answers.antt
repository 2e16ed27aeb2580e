use Rattle.std.proofs.Common.{map, arith}
use Rattle.std.proofs.lemmas.List.{length-map}
use Rattle.table_form.specs.Running.Courses.{with_plans}
use Rattle.table_form.specs.Tables.Views.{plan_view}
use Rattle.table_form.proofs.CourseLemmas.{few_plans}
use Rattle.table_form.proofs.course.Course.plans.Goals as goal

-- there are no more plans than counts of first events
pub overflow_cast-result : goal.overflow_cast-result
overflow_cast-result c =
    let was = c.self.inside in
    let few = few_plans (with_plans was.outline (map plan_view was.plans.items) was.numbers.items)
    c.self.invariant.form in
    omega (arith, few, c.self.invariant.form.outline.few_events, c.len.ensures, length-map was.plans.items plan_view)
