use Rattle.std.proofs.Common.{sym, ◌∙◌}
use Rattle.view_schedulers.proofs.FaultLemmas.{first_below-zero, first_found, none_more}
use Rattle.view_schedulers.proofs.unlike.unlike_fault.Goals as goal

pub loop-other-init : goal.loop-other-init
loop-other-init c = first_below-zero _

pub returns-in-Some : goal.returns-in-Some
returns-in-Some c = sym (first_found _ c.loop-other.other _ c.in-Some.fault c.loop-other-test.true
    c.loop-other.invariant (sym c.in-Some.ensures))

pub loop-other-preserved : goal.loop-other-preserved
loop-other-preserved c = none_more _ c.loop-other.other c.loop-other.invariant
    (sym c.unlike_pair.ensures ∙ c.in_default.is)
