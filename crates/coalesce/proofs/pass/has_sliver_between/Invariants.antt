use Rattle.coalesce.proofs.Unswapped.{NoneBefore}
use Rattle.coalesce.proofs.pass.has_sliver_between.Given as goal

-- no three neighbours before this one may be swapped
abbrev pub invariant-loop-at : goal.invariant-loop-at
invariant-loop-at l = NoneBefore l.sliver l.segments l.at
