use Rattle.std.proofs.Common.{◌≡◌, length}
use Rattle.host_judge.specs.Owed.{AreOwedByShares}
use Rattle.host_judge.proofs.dues.owed_by_shares.Given as goal

abbrev pub invariant-loop-number : goal.invariant-loop-number
invariant-loop-number l = record {
  many : length l.owed.items ≡ l.number;
  each : AreOwedByShares l.vcpus l.tick_ns l.owed.items;
}
