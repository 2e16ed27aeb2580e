use Rattle.std.proofs.Common.{ℕ, get_or, subst, arith}
use Rattle.burst_bound.specs.Inside.Bounding.{IsReadyFrom}
use Rattle.burst_bound.proofs.FoundLemmas.{blocked_since, budget_lost, is_bound, ready_lost, ready_since}
use Rattle.burst_bound.proofs.ahead.bound_ahead.Goals as goal

pub returns-in_err-found : goal.returns-in_err-found
returns-in_err-found c =
    rw c.from_residual.ensures (rw c.in_err-found.was at c.end_since.ensures c.args.burst.event)

pub returns-then-from : goal.returns-then-from
returns-then-from c = λ x is.
    let course = c.args.course.now in
    let first = get_or c.args.ready.now c.index.result 0 in
    let small = c.index.ensures.small in
    let from = subst (λ (v : ℕ). IsReadyFrom course v first) c.index.ensures.value (c.requires.ready.each c.index.result small) in
    ready_lost course c.args.rounds c.args.used.now c.args.burst.event c.args.burst.vcpu c.args.burst.work c.args.seen x
    (blocked_since course c.args.burst.event c.args.burst.vcpu first from (let a = c.from.ensures in let b = c.from-2.ensures in omega arith)) is

pub returns-then-keeps_budget : goal.returns-then-keeps_budget
returns-then-keeps_budget c =
    let course = c.args.course.now in
    let first = get_or c.args.ready.now c.index.result 0 in
    let small = c.index.ensures.small in
    let found = c.in_ok-found.ensures in
    let from = subst (λ (v : ℕ). IsReadyFrom course v first) c.index.ensures.value (c.requires.ready.each c.index.result small) in
    rw c.from-then-keeps_budget.ensures (is_bound course c.args.rounds c.args.used.now c.args.burst.event c.args.burst.vcpu c.args.burst.work c.args.seen
    c.in_ok-found.found.task found.there c.in_ok-found.found.end found.end found.in_run
    (rw c.div_ceil-end.ensures at (c.keeps_budget.ensures.yes c.if-keeps_budget.true))
    (ready_since course c.args.burst.event c.args.burst.vcpu first from (let a = c.from.ensures in let b = c.from-2.ensures in omega arith)))

pub returns : goal.returns
returns c = λ x is.
    let found = c.in_ok-found.ensures in
    budget_lost c.args.course.now c.args.rounds c.args.used.now c.args.burst.event c.args.burst.vcpu c.args.burst.work c.args.seen
    c.in_ok-found.found.task found.there c.in_ok-found.found.end x found.end
    (rw c.div_ceil-end.ensures at (c.keeps_budget.ensures.no c.if-keeps_budget.false)) is
