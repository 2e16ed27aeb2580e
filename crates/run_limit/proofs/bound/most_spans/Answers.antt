use Rattle.std.proofs.Common.{◌+◌, ℕ, subst, sym, arith}
use Rattle.std.specs.Prelude.{slice_index}
use Rattle.tab_core.specs.declared.TheConstants.{ROUND}
use Rattle.tab_core.proofs.Lists.{get_or-replicate_same}
use Rattle.table_form.specs.Tables.Plans.{PlanView}
use Rattle.table_form.specs.Tables.Spots.{HasSpans}
use Rattle.run_limit.proofs.LargestLemmas.{IsLargestOf, largest_all, largest_more, largest_none}
use Rattle.run_limit.proofs.bound.most_spans.Goals as goal

pub loop-number-init : goal.loop-number-init
loop-number-init c = λ d lt. subst (IsLargestOf c.args.course.now d 0) (sym (get_or-replicate_same 32 d 0))
    (largest_none c.args.course.now d)

pub loop-number-preserved : goal.loop-number-preserved
loop-number-preserved c = λ d lt.
    let course = c.args.course.now in
    let n = c.loop-number.number in
    let most : ℕ = slice_index c.loop-number.most d in
    let found = c.raise.ensures d (omega (arith, c.plan.ensures.rows)) in
    subst (IsLargestOf course d (n + 1)) (sym found.2)
    (largest_more course d n most found.0 (c.loop-number.invariant d lt)
    (subst (λ (p : PlanView). HasSpans p d ROUND found.0) c.plan.ensures.plan found.1))

pub returns : goal.returns
returns c = λ d lt. largest_all c.args.course.now d c.loop-number.number (slice_index c.loop-number.most d)
    c.plans-number-end.ensures.kept
    (omega (arith, c.loop-number-test.false, c.loop-number.auto.number-end, c.plans-number-end.ensures.count))
    (c.loop-number.invariant d lt)
