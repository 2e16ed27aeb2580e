use Rattle.std.proofs.Common.{◌≡◌, length}
use Rattle.fleet_place.specs.Inside.Memory.{KnowsRefusals}
use Rattle.fleet_place.proofs.BestLemmas.{BestSoFar}
use Rattle.fleet_place.proofs.deal.best_host.Given as goal

-- the best of the hosts so far, and what is known of refusals
abbrev pub invariant-loop-number : goal.invariant-loop-number
invariant-loop-number l = record {
  size : length l.refused ≡ length l.hosts;
  knows : KnowsRefusals l.policy l.hosts l.refused;
  best : BestSoFar l.policy l.hosts l.vm l.number l.best;
}
