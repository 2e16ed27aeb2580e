use Rattle.std.proofs.Common.{ℕ, subst, sym, ◌∙◌, arith}
use Rattle.std.proofs.lemmas.List.{length-set}
use Rattle.tab_core.specs.Least.{IsLeast}
use Rattle.tab_core.specs.VcpuSets.{IsInBoth}
use Rattle.burst_bound.proofs.ReadyLemmas.{given_more, given_none}
use Rattle.burst_bound.proofs.SightLemmas.{rest_more}
use Rattle.burst_bound.proofs.ahead.give.Goals as goal

pub loop-vcpu-preserved : goal.loop-vcpu-preserved
loop-vcpu-preserved c =
    let inv = c.loop-vcpu.invariant in
    let members = c.args.set.now in
    let place = c.index-place.result in
    let before = c.loop-vcpu.ready in
    let old = c.args.ready.now in
    let small = c.index-place.ensures.small in
    let least = subst (λ (v : ℕ). IsLeast (IsInBoth members members) c.loop-vcpu.from v) (sym c.index-place.ensures.value)
    c.in-Some.ensures.some in
    let high = least.high in
    record {
      size = length-set before place c.args.count ∙ inv.size;
      within = omega arith;
      given = λ v lt. given_more members c.args.count c.loop-vcpu.from place v old before inv.size small least inv.given
          inv.rest lt;
      rest = rest_more old before place c.args.count (λ v le. inv.rest v (omega arith));
    }

pub loop-vcpu-smaller : goal.loop-vcpu-smaller
loop-vcpu-smaller c =
    let least = c.in-Some.ensures.some in
    let high = least.high in
    let value = c.index-place.ensures.value in
    let small = c.index-place.ensures.small in
    let within = c.loop-vcpu.invariant.within in
    omega arith

pub returns-clause-given : goal.returns-clause-given
returns-clause-given c = λ v lt.
    let inv = c.loop-vcpu.invariant in
    given_none c.args.set.now c.args.count c.loop-vcpu.from v c.args.ready.now c.loop-vcpu.ready inv.given inv.rest
    (λ w both low _. c.in_default.ensures.none w both low)
