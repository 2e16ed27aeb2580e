use Rattle.std.proofs.Common.{◌<◌, map, refl, ap, length, ◌∙◌, arith}
use Rattle.std.proofs.lemmas.List.{length-map}
use Rattle.table_form.specs.Running.Courses.{CourseView, with_plans}
use Rattle.table_form.specs.Tables.Views.{plan_view}
use Rattle.table_form.proofs.CourseLemmas.{rows_of_plan}
use Rattle.table_form.proofs.course.Course.plan.Goals as goal

pub returns-clause-rows : goal.returns-clause-rows
returns-clause-rows c =
    let was = c.self.inside in
    let course : CourseView = with_plans was.outline (map plan_view was.plans.items) was.numbers.items in
    let lt : c.args.number < length (map plan_view was.plans.items) = rw (← c.self.view_is) at c.requires in
    rows_of_plan course was.plans.items c.args.number c.index.result.now c.self.invariant.form refl
    (omega (arith, lt, length-map was.plans.items plan_view)) c.index.ensures
    ∙ ap (λ (v : CourseView). v.cores) c.self.view_is
