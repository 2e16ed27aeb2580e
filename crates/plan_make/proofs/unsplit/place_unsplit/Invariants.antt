use Rattle.plan_make.proofs.PlacingUnsplit.{FirstStand}
use Rattle.plan_make.proofs.unsplit.place_unsplit.Given as goal

abbrev pub invariant-loop-number : goal.invariant-loop-number
invariant-loop-number l = FirstStand l.number l.tasks l.core_of l.count l.cores
