use Rattle.std.proofs.Common.{◌≡◌, ℕ, ◌<◌, ◌≤◌, drop, length}
use Rattle.tab_core.specs.declared.TheConstants.{MAX_VCPUS, ROUND}
use Rattle.table_form.specs.Tables.Rows.{RisesTo}
use Rattle.table_form.proofs.Shapes.{IsAhead}
use Rattle.run_counts.specs.Inside.Sweeps.{IsToldIfShort, has_so_far}
use Rattle.run_counts.specs.Stretches.{stretch_at}
use Rattle.run_counts.proofs.row_pass.offer_row.Given as goal

-- the segments so far are gone over, and the next one begins at `begin`
abbrev pub invariant-loop-segment : goal.invariant-loop-segment
invariant-loop-segment l = record {
  size : length l.stretches ≡ MAX_VCPUS;
  rises : RisesTo l.begin (drop l.segment-index l.segments) ROUND;
  ahead : (x : ℕ) → l.begin ≤ x → IsAhead l.segments x l.segment-index;
  told : (v : ℕ) → v < MAX_VCPUS
      → IsToldIfShort (has_so_far l.rows l.core l.begin v) (stretch_at l.stretches v);
}
