-- the rows of the first cores are made, and all ticks are laid up to the next core
use Rattle.std.proofs.Common.{◌≡◌, ℕ, Some, length, slice_get}
use Rattle.flow_net.specs.Allotted.{allotment_view}
use Rattle.table_form.specs.Tables.Rows.{Row}
use Rattle.wrap_table.specs.Inside.Laying.{AreLaidTo, IsRowOfCore}
use Rattle.wrap_table.proofs.laying.rows_of.Given as goal

abbrev pub invariant-loop-core : goal.invariant-loop-core
invariant-loop-core l = record {
  count : length l.rows.items ≡ l.core;
  size : length l.at.items ≡ length l.allotment.ticks;
  rows : (c : ℕ) (row : Row) → slice_get l.rows.items c ≡ Some row
      → IsRowOfCore (allotment_view l.allotment) c row;
  at : AreLaidTo (allotment_view l.allotment) l.core l.at.items;
}
