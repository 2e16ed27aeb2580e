use Rattle.std.proofs.Common.{◌∙◌, ◌<◌, sym, ap, false, arith}
use Rattle.tab_core.specs.VcpuSets.{has_vcpu, has_bit}
use Rattle.tab_core.proofs.Bits.{bits_below-at}
use Rattle.tab_core.proofs.vcpu_set.VcpuSet.has.Goals as goal

pub returns : goal.returns
returns c =
    let small : c.args.vcpu < 256 = omega (arith, c.index.ensures.value, c.index.ensures.small) in
    let bit = ap (has_bit c.self.inside.words) c.index.ensures.value
    ∙ sym (bits_below-at c.self.inside.words 256 c.args.vcpu false small) in
    c.bit_of.ensures ∙ (bit ∙ ap (λ set. has_vcpu set c.args.vcpu) c.self.view_is)
