use Rattle.std.proofs.Common.{◌≡◌, ℕ, ◌+◌, ◌-◌, Option, Some, None, IfSome, subst, arith}
use Rattle.tab_core.specs.declared.periodic.Periodic.{Periodic}
use Rattle.tab_core.specs.declared.reservation.Reservation.{Reservation}
use Rattle.period_choice.specs.Choice.{IsChosen}
use Rattle.period_choice.proofs.ChoiceLemmas.{IsBestSoFar, best_more, chosen_at_end, chosen_if_just, none_at_end}
use Rattle.period_choice.proofs.Unique.{chosen_unique}
use Rattle.tab_core.proofs.Periods.{period_at}
use Rattle.period_choice.proofs.choice.choose.Goals as goal

pub better_of-best-requires-clause-listed : goal.better_of-best-requires-clause-listed
better_of-best-requires-clause-listed c = period_at (64 - c.loop-i.i) (omega arith)

pub loop-i-preserved : goal.loop-i-preserved
loop-i-preserved c =
    let r = c.args.r.now in
    let tick = c.args.tick_ns in
    let e = c.better_of-best.ensures in
    let one : 65 - c.loop-i.i ≡ (64 - c.loop-i.i) + 1 = omega arith in
    let place : 64 - c.loop-i.i ≡ 65 - (c.loop-i.i + 1) = omega arith in
    subst (λ (n : ℕ). IsBestSoFar r tick n c.better_of-best.result) place
    (best_more r tick (64 - c.loop-i.i) c.loop-i.best c.better_of-best.result (omega arith)
    (subst (λ (n : ℕ). IsBestSoFar r tick n c.loop-i.best) one c.loop-i.invariant) e.late e.kept e.taken)

only_one : (r : Reservation) (tick : ℕ) (best : Option Periodic) → IfSome best (IsChosen r tick)
    → IfSome best (λ task. (other : Periodic) → IsChosen r tick other → other ≡ task)
only_one r tick None chosen = tt
only_one r tick (Some task) chosen = λ other is. chosen_unique r tick other task is chosen

pub returns-then-takes_just-clause-chosen : goal.returns-then-takes_just-clause-chosen
returns-then-takes_just-clause-chosen c =
    let r = c.args.r.now in
    let tick = c.args.tick_ns in
    let e = c.better_of-best.ensures in
    let one : 65 - c.loop-i.i ≡ (64 - c.loop-i.i) + 1 = omega arith in
    chosen_if_just r tick (64 - c.loop-i.i) c.cost_of-least.result c.better_of-best.result
    (best_more r tick (64 - c.loop-i.i) c.loop-i.best c.better_of-best.result (omega arith)
    (subst (λ (n : ℕ). IsBestSoFar r tick n c.loop-i.best) one c.loop-i.invariant) e.late e.kept e.taken)
    (c.takes_just.ensures c.if-takes_just.true) c.cost_of-least.ensures.value

pub returns-then-takes_just-clause-only : goal.returns-then-takes_just-clause-only
returns-then-takes_just-clause-only c = only_one _ _ _ (returns-then-takes_just-clause-chosen c)

pub returns-clause-chosen : goal.returns-clause-chosen
returns-clause-chosen c = chosen_at_end _ _ (65 - c.loop-i.i) _ (omega (arith, c.loop-i-test.false)) c.loop-i.invariant

pub returns-clause-none : goal.returns-clause-none
returns-clause-none c = none_at_end _ _ (65 - c.loop-i.i) _ (omega (arith, c.loop-i-test.false)) c.loop-i.invariant

pub returns-clause-only : goal.returns-clause-only
returns-clause-only c = only_one _ _ _ (chosen_at_end _ _ (65 - c.loop-i.i) _
    (omega (arith, c.loop-i-test.false)) c.loop-i.invariant)
