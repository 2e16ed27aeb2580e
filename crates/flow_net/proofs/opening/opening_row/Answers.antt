use Rattle.std.proofs.Common.{◌≡◌, ℕ, ◌+◌, ◌*◌, ◌/◌, ◌<◌, ◌≤◌, [], ◌∷◌, length-append, ap, refl, ◌∙◌, arith}
use Rattle.std.proofs.lemmas.List.{get_or_read}
use Rattle.std.proofs.lemmas.Nat.{mul-le}
use Rattle.tab_core.specs.declared.TheConstants.{ROUND}
use Rattle.flow_net.specs.declared.demands.Demands.{Demands}
use Rattle.flow_net.specs.Load.{span}
use Rattle.flow_net.specs.Flows.{fluid}
use Rattle.flow_net.specs.Inside.Demanded.{load}
use Rattle.flow_net.proofs.Fluid.{fluid_short}
use Rattle.flow_net.proofs.Nets.{span_le}
use Rattle.flow_net.proofs.Pushed.{push_numbers}
use Rattle.flow_net.proofs.Spans.{period_le}
use Rattle.flow_net.proofs.opening.opening_row.Goals as goal

-- a cost times a length is at most the square of a round
product_small : (d : Demands) (v i cost n : ℕ) → v < (load d).width → i < (load d).count
    → cost ≡ (load d).cost v → n ≡ span (load d) i → cost * n ≤ ROUND * ROUND
product_small d v i cost n vcpu interval is len = mul-le cost n ROUND ROUND
    (omega (arith, is, d.ok.within v vcpu, period_le (load d) d.ok v vcpu))
    (omega (arith, len, span_le (load d) d.ok i interval))

-- the share that the code computes is that of the fluid schedule
share_is : (d : Demands) (v i cost n period : ℕ) → cost ≡ (load d).cost v → n ≡ span (load d) i
    → period ≡ (load d).period v → cost * n / period ≡ fluid (load d) v i
share_is d v i cost n period cost_is len period_is = rw (cost_is, period_is, len) refl

pub overflow_mul-share : goal.overflow_mul-share
overflow_mul-share c =
    let d = c.args.demands.now in
    let within : c.loop-v.v < (load d).width = omega (arith, c.loop-v-test.true, c.len-v-end.ensures) in
    let cost = get_or_read d.costs.items c.loop-v.v c.index.result.now within c.index.ensures 0 in
    omega (
      arith,
      product_small d c.loop-v.v c.args.i c.from.result c.from-length.result within c.requires
          (c.from.ensures ∙ cost) (c.from-length.ensures ∙ c.length.ensures),
    )

pub nonzero_div-share : goal.nonzero_div-share
nonzero_div-share c =
    let d = c.args.demands.now in
    let within : c.loop-v.v < (load d).width = omega (arith, c.loop-v-test.true, c.len-v-end.ensures) in
    let period = get_or_read d.periods.items c.loop-v.v c.index-in-loop-v.result.now
    (omega (arith, within, d.same_len)) c.index-in-loop-v.ensures 0 in
    omega (arith, d.ok.some_period c.loop-v.v within, period, c.from-in-loop-v.ensures)

pub overflow_cast-share : goal.overflow_cast-share
overflow_cast-share c =
    let d = c.args.demands.now in
    let v = c.loop-v.v in
    let within : v < (load d).width = omega (arith, c.loop-v-test.true, c.len-v-end.ensures) in
    let cost = get_or_read d.costs.items v c.index.result.now within c.index.ensures 0 in
    let period = get_or_read d.periods.items v c.index-in-loop-v.result.now
    (omega (arith, within, d.same_len)) c.index-in-loop-v.ensures 0 in
    let share = share_is d v c.args.i c.from.result c.from-length.result c.from-in-loop-v.result
    (c.from.ensures ∙ cost) (c.from-length.ensures ∙ c.length.ensures)
    (c.from-in-loop-v.ensures ∙ period) in
    omega (
      arith,
      share,
      fluid_short (load d) d.ok v c.args.i within,
      span_le (load d) d.ok c.args.i c.requires,
    )

pub loop-v-preserved : goal.loop-v-preserved
loop-v-preserved c =
    let d = c.args.demands.now in
    let v = c.loop-v.v in
    let inv = c.loop-v.invariant in
    let within : v < (load d).width = omega (arith, c.loop-v-test.true, c.len-v-end.ensures) in
    let cost = get_or_read d.costs.items v c.index.result.now within c.index.ensures 0 in
    let period = get_or_read d.periods.items v c.index-in-loop-v.result.now
    (omega (arith, within, d.same_len)) c.index-in-loop-v.ensures 0 in
    let share = share_is d v c.args.i c.from.result c.from-length.result c.from-in-loop-v.result
    (c.from.ensures ∙ cost) (c.from-length.ensures ∙ c.length.ensures)
    (c.from-in-loop-v.ensures ∙ period) in
    let n = c.from.result * c.from-length.result / c.from-in-loop-v.result in
    record {
      len = rw c.in_ok-push.ensures.items
          (length-append c.loop-v.row.items (n ∷ []) ∙ ap (λ k. k + 1) inv.len);
      shares = rw c.in_ok-push.ensures.items
          (push_numbers c.loop-v.row.items n v (λ w x. x ≡ fluid (load d) w c.args.i) inv.len
          inv.shares share);
    }
