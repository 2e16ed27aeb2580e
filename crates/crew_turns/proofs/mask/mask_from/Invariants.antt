use Rattle.crew_turns.specs.Numbers.{NamesFrom}
use Rattle.crew_turns.proofs.mask.mask_from.Given as goal

abbrev pub invariant-loop-at : goal.invariant-loop-at
invariant-loop-at l = record {
  named : NamesFrom l.fn.first l.at l.mask;
}
