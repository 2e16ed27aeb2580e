use Rattle.std.proofs.Common.{◌≡◌, ℕ, ◌<◌, length}
use Rattle.flow_net.specs.Flows.{fluid}
use Rattle.flow_net.specs.Rows.{row_at, ticks_at}
use Rattle.flow_net.specs.Inside.Demanded.{load}
use Rattle.flow_net.proofs.opening.opening_rows.Given as goal

abbrev pub invariant-loop-i : goal.invariant-loop-i
invariant-loop-i l = record {
  len : length l.rows.items ≡ l.i;
  widths : (j : ℕ) → j < l.i → length (row_at l.rows.items j) ≡ (load l.demands).width;
  shares : (v j : ℕ) → v < (load l.demands).width → j < l.i
      → ticks_at l.rows.items j v ≡ fluid (load l.demands) v j;
}
