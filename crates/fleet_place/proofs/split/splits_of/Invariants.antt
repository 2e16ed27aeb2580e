use Rattle.std.proofs.Common.{◌≡◌, length}
use Rattle.fleet_place.proofs.SplitCountLemmas.{CountEach}
use Rattle.fleet_place.proofs.split.splits_of.Given as goal

-- the hosts so far are counted
abbrev pub invariant-loop-host : goal.invariant-loop-host
invariant-loop-host l = record {
  size : length l.splits.items ≡ l.host-index;
  each : CountEach l.policy l.hosts l.splits.items;
}
