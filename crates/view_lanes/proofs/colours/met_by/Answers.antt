use Rattle.std.proofs.Common.{arith, false, subst, ◌≡◌, ℕ}
use Rattle.std.proofs.lemmas.Grind.{common_steps}
use Rattle.std.proofs.lemmas.List.{get_or-replicate}
use Rattle.tab_core.specs.VcpuSets.{has_vcpu}
use Rattle.view_lanes.specs.Colours.{meets_below}
use Rattle.view_lanes.proofs.colours.met_by.Goals as goal

pub loop-core-init : goal.loop-core-init
loop-core-init c = record {
  size = grind (arith, common_steps, c.empty-met.ensures);
  members = λ on are u low.
      let none = get_or-replicate 256 u false false low in
      grind (arith, common_steps, c.empty-met.ensures, none);
}

pub returns : goal.returns
returns c on are u low =
    let all : c.loop-core.core ≡ 32 = omega (arith, c.loop-core-test.false, c.loop-core.auto.core-end) in
    subst (λ (n : ℕ). has_vcpu c.loop-core.met u ≡ meets_below on u c.args.v n) all
    (c.loop-core.invariant.members on are u low)
