use Rattle.std.proofs.Common.{◌≡◌, ℕ, ◌<◌, length}
use Rattle.flow_net.specs.Rows.{row_at}
use Rattle.flow_net.specs.Inside.Demanded.{load}
use Rattle.flow_net.proofs.making.blank.Given as goal

abbrev pub invariant-loop : goal.invariant-loop
invariant-loop l = record {
  near : length l.near.items ≡ l.counter;
  scans : length l.scans.items ≡ l.counter;
  scan : (i : ℕ) → i < l.counter → length (row_at l.scans.items i) ≡ (load l.demands).width;
  queue : length l.queue.items ≡ l.counter;
}
