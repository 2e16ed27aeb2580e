use Rattle.std.proofs.Common.{◌≡◌, List, Option, ap, sym, subst, ◌∙◌, arith}
use Rattle.tab_core.specs.declared.TheConstants.{ROUND}
use Rattle.tab_core.specs.declared.periodic.Periodic.{Periodic}
use Rattle.table_form.specs.Promises.Offered.{some_row_has}
use Rattle.table_form.specs.Tables.Plans.{PlanView}
use Rattle.table_form.specs.Tables.Rows.{Row}
use Rattle.table_form.specs.Tables.Serves.{has_task}
use Rattle.table_form.specs.Tables.Views.{plan_view}
use Rattle.run_counts.specs.Inside.Sweeps.{IsToldTo, closed}
use Rattle.run_counts.specs.Inside.Tells.{IsToldRound}
use Rattle.run_counts.specs.Stretches.{stretch_at}
use Rattle.run_counts.proofs.SweepLemmas.{end_told}
use Rattle.run_counts.proofs.describing.describe.Goals as goal

pub returns-clause-told : goal.returns-clause-told
returns-clause-told c = λ v lt.
    let plan : PlanView = plan_view c.args.plan.now in
    let now = c.walk_late.new.stretches in
    let is : stretch_at c.close.new.stretches v ≡ closed (has_task plan.tasks v) (stretch_at now v) =
    c.close.ensures.closed v (omega (
      arith,
      lt,
      c.walk_late.ensures.size,
    ))
    ∙ ap (λ (tasks : List (Option Periodic)). closed (has_task tasks v) (stretch_at now v))
    c.items.ensures.same in
    subst (IsToldRound plan v) (sym is)
    (end_told plan v c.args.plan.now.owned (stretch_at now v)
    (subst (λ (rows : List Row). IsToldTo (some_row_has rows v) ROUND (stretch_at now v))
    c.items-rows.ensures.same (c.walk_late.ensures.told v lt)))
