use Rattle.std.proofs.Common.{sym, ◌∙◌}
use Rattle.view_schedulers.proofs.FaultLemmas.{first_below-zero, first_found, none_more}
use Rattle.view_schedulers.proofs.unkept.cores_fault.Goals as goal

pub loop-core-init : goal.loop-core-init
loop-core-init c = first_below-zero _

pub returns-in-Some : goal.returns-in-Some
returns-in-Some c = sym (first_found _ c.loop-core.core _ c.in-Some.fault c.loop-core-test.true
    c.loop-core.invariant (sym c.in-Some.ensures))

pub loop-core-preserved : goal.loop-core-preserved
loop-core-preserved c = none_more _ c.loop-core.core c.loop-core.invariant
    (sym c.core_fault.ensures ∙ c.in_default.is)
