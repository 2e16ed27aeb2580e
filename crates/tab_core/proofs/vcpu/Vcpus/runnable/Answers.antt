use Rattle.std.proofs.Common.{Bool, List, set, ap, ◌∙◌, arith}
use Rattle.tab_core.specs.declared.vcpu.Vcpu.{Vcpu}
use Rattle.tab_core.proofs.VcpusLemmas.{one_more}
use Rattle.tab_core.proofs.vcpu.Vcpus.runnable.Goals as goal

pub loop-number-preserved : goal.loop-number-preserved
loop-number-preserved c =
    let vcpu = c.index.result.now in
    c.set_to.ensures ∙ ap (λ (members : List Bool). set members c.loop-number.number vcpu.runnable)
    c.loop-number.invariant
    ∙ one_more (λ (v : Vcpu). v.runnable) c.self.inside.items.items c.loop-number.number vcpu
    (omega (arith, c.loop-number-test.true, c.len-number-end.ensures)) (c.self.invariant.0) c.index.ensures
