-- the rows of the cores so far
use Rattle.std.proofs.Common.{◌≡◌, ◌<◌, ℕ, length, slice_index_or}
use Rattle.table_form.specs.Tables.Rows.{Row}
use Rattle.cd_split.specs.Cores.{pieces_on}
use Rattle.plan_make.specs.Inside.RowsOfCores.{IsRowOf}
use Rattle.plan_make.proofs.rows.rows_of.Given as goal

abbrev pub invariant-loop-core : goal.invariant-loop-core
invariant-loop-core l = record {
  len : length l.rows.items ≡ l.core;
  each : (k : ℕ) (d : Row) → k < l.core → IsRowOf k (pieces_on l.cores k) (slice_index_or l.rows.items k d);
}
