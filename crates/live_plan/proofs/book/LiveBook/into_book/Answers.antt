use Rattle.std.proofs.Common.{◌≡◌, length, ap, sym, subst, ◌∙◌}
use Rattle.tab_core.specs.declared.host.Host.{Host}
use Rattle.table_form.specs.Tables.Plans.{PlanView}
use Rattle.table_form.specs.Tables.Views.{plan_view}
use Rattle.plan_make.specs.Planned.{IsPlanned}
use Rattle.plan_book.specs.Mades.{AreMadeOf}
use Rattle.live_plan.specs.Books.{LiveView}
use Rattle.live_plan.specs.Inside.Outcomes.{IsSameButCells}
use Rattle.live_plan.proofs.OutcomesLemmas.{made_of_all, planned_fits}
use Rattle.live_plan.proofs.book.LiveBook.into_book.Goals as goal

pub make_book_with-requires-clause-first : goal.make_book_with-requires-clause-first
make_book_with-requires-clause-first c =
    let host = c.args.host.now in
    let b : LiveView = c.args.self in
    let left : LiveView = c.outcomes_in.new.book in
    let same : IsSameButCells b left = c.in_ok-made.ensures.same in
    let kept = c.into_plan-plan.ensures.kept in
    let plan = plan_view c.into_plan-plan.result in
    let is : plan ≡ left.plan = c.into_plan-plan.ensures.plan in
    let own : left.host ≡ host = ap (λ (x : LiveView). x.host) same ∙ c.requires.live.host_is in
    let planned : IsPlanned host plan = subst (IsPlanned host) (sym is)
    (subst (λ (h : Host). IsPlanned h left.plan) own kept.planned) in
    (planned, planned_fits host plan planned (ap (λ (p : PlanView). length p.rows) is ∙ (kept.rows ∙ ap (λ (h : Host). h.cores) own)))

pub make_book_with-requires-clause-made : goal.make_book_with-requires-clause-made
make_book_with-requires-clause-made c =
    subst (AreMadeOf c.args.host.now c.args.script.now) (sym c.deref_mut.ensures.value)
    (made_of_all c.args.host.now c.args.script.now c.args.self c.requires.live c.in_ok-made.made.items c.in_ok-made.ensures.made)
