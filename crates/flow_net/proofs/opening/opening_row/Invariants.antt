use Rattle.std.proofs.Common.{◌≡◌, ℕ, ◌<◌, length, get_or}
use Rattle.flow_net.specs.Flows.{fluid}
use Rattle.flow_net.specs.Inside.Demanded.{load}
use Rattle.flow_net.proofs.opening.opening_row.Given as goal

abbrev pub invariant-loop-v : goal.invariant-loop-v
invariant-loop-v l = record {
  len : length l.row.items ≡ l.v;
  shares : (w : ℕ) → w < l.v → get_or l.row.items w 0 ≡ fluid (load l.demands) w l.i;
}
