use Rattle.std.proofs.Common.{◌≡◌, ℕ, ◌<◌, length}
use Rattle.flow_net.specs.Rows.{row_at, ticks_at}
use Rattle.flow_net.proofs.ticks.clear_rows.Given as goal

abbrev pub invariant-loop-i : goal.invariant-loop-i
invariant-loop-i l = record {
  same_len : length l.rows.items ≡ length l.initial.rows.items;
  widths : (j : ℕ) → length (row_at l.rows.items j) ≡ length (row_at l.initial.rows.items j);
  none : (j p : ℕ) → j < l.i → ticks_at l.rows.items j p ≡ 0;
}
