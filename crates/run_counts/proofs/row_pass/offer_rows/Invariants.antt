use Rattle.std.proofs.Common.{◌≡◌, ℕ, ◌<◌, length, take}
use Rattle.tab_core.specs.declared.TheConstants.{MAX_VCPUS}
use Rattle.table_form.specs.Promises.Offered.{some_row_has}
use Rattle.run_counts.specs.Inside.Sweeps.{IsToldIfShort}
use Rattle.run_counts.specs.Stretches.{stretch_at}
use Rattle.run_counts.proofs.row_pass.offer_rows.Given as goal

-- the rows so far are gone over
abbrev pub invariant-loop-core : goal.invariant-loop-core
invariant-loop-core l = record {
  size : length l.stretches ≡ MAX_VCPUS;
  told : (v : ℕ) → v < MAX_VCPUS
      → IsToldIfShort (some_row_has (take l.core l.rows) v) (stretch_at l.stretches v);
}
