use Rattle.std.proofs.Common.{◌≡◌, ℕ, ◌+◌, ◌*◌, ◌-◌, get_or, arith, ap, refl, subst, ◌∙◌}
use Rattle.tab_core.specs.declared.TheConstants.{PERIODS}
use Rattle.reservation.specs.Cost.{cost}
use Rattle.host_judge.proofs.OwedLemmas.{NoneFrom, hidden_at, hidden_none, none_more}
use Rattle.host_judge.proofs.dues.hidden_by.Goals as goal

-- twice what the period doesn't give
twice : (p : ℕ) (share tick cost_ticks rest wide : ℕ) → cost_ticks ≡ cost share p → rest ≡ p - cost_ticks → wide ≡ tick
    → 2 * rest * wide ≡ 2 * (p - cost share p) * tick
twice p share tick cost_ticks rest wide costs rests wides =
    ap (λ r. 2 * r * wide) (rests ∙ ap (λ t. p - t) costs) ∙ ap (λ w. 2 * (p - cost share p) * w) wides

pub returns-then-ns-r : goal.returns-then-ns-r
returns-then-ns-r c =
    let n : ℕ = 64 - c.loop-i.i in
    let next : 65 - c.loop-i.i ≡ n + 1 = omega arith in
    hidden_at c.args.r.now c.args.tick_ns n (get_or PERIODS n 0) _ (omega arith)
    (subst (λ (m : ℕ). NoneFrom c.args.r.now c.args.tick_ns m) next c.loop-i.invariant) refl
    (twice (get_or PERIODS n 0) c.args.r.now.share_ppm c.args.tick_ns c.cost_of-cost.result c.from.result
    c.from-in-loop-i.result c.cost_of-cost.ensures.value c.from.ensures c.from-in-loop-i.ensures)
    c.if-ns-r.true

pub loop-i-preserved : goal.loop-i-preserved
loop-i-preserved c =
    let n : ℕ = 64 - c.loop-i.i in
    let next : 65 - c.loop-i.i ≡ n + 1 = omega arith in
    let here : n ≡ 65 - (c.loop-i.i + 1) = omega arith in
    let same = twice (get_or PERIODS n 0) c.args.r.now.share_ppm c.args.tick_ns c.cost_of-cost.result c.from.result
    c.from-in-loop-i.result c.cost_of-cost.ensures.value c.from.ensures c.from-in-loop-i.ensures in
    subst (λ (m : ℕ). NoneFrom c.args.r.now c.args.tick_ns m) here
    (none_more c.args.r.now c.args.tick_ns n (λ meets. omega (arith, meets, same, c.if-ns-r.false))
    (subst (λ (m : ℕ). NoneFrom c.args.r.now c.args.tick_ns m) next c.loop-i.invariant))

pub returns : goal.returns
returns c = hidden_none _ _ 0
    (λ k low high meets. c.loop-i.invariant k (omega (arith, c.loop-i-test.false)) high meets) refl
