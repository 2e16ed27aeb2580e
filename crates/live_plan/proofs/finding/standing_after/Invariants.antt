use Rattle.live_plan.specs.Changes.{HostAfter}
use Rattle.live_plan.proofs.finding.standing_after.Given as goal

abbrev pub invariant-loop-change : goal.invariant-loop-change
invariant-loop-change l = HostAfter l.host l.changes l.change l.standing
