use Rattle.std.proofs.Common.{map, sym, subst}
use Rattle.table_form.specs.Running.Courses.{IsCourse, with_plans}
use Rattle.table_form.specs.Running.Outlines.{OutlineView}
use Rattle.table_form.specs.Tables.Views.{plan_view}
use Rattle.table_form.proofs.CourseLemmas.{plans_kept}
use Rattle.table_form.proofs.course.Course.of.Goals as goal

pub invariant_of-result : goal.invariant_of-result
invariant_of-result c =
    let plans = c.args.plans.items in
    subst (λ (o : OutlineView). IsCourse (with_plans o (map plan_view plans) c.args.numbers.items))
    (sym c.of.ensures) (record { form = c.requires; plans_kept = plans_kept plans })
