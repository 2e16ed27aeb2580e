use Rattle.std.proofs.Common.{sym, ◌∙◌}
use Rattle.view_schedulers.proofs.FaultLemmas.{first_below-zero, first_found, none_more}
use Rattle.view_schedulers.proofs.unlike.first_unlike.Goals as goal

pub loop-vcpu-init : goal.loop-vcpu-init
loop-vcpu-init c = first_below-zero _

pub returns-in-Some : goal.returns-in-Some
returns-in-Some c = sym (first_found _ c.loop-vcpu.vcpu _ c.in-Some.fault c.loop-vcpu-test.true
    c.loop-vcpu.invariant (sym c.in-Some.ensures))

pub loop-vcpu-preserved : goal.loop-vcpu-preserved
loop-vcpu-preserved c = none_more _ c.loop-vcpu.vcpu c.loop-vcpu.invariant
    (sym c.unlike_fault.ensures ∙ c.in_default.is)
