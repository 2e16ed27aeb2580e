-- with the cells of the segments that are left, each vCPU has all of its cells
use Rattle.std.proofs.Common.{◌≡◌, ℕ, ◌+◌, ◌<◌, drop, length, get_or}
use Rattle.std.specs.List.{count_by}
use Rattle.tab_core.specs.declared.TheConstants.{ROUND}
use Rattle.table_form.specs.Tables.Rows.{RisesTo, cells_from}
use Rattle.table_form.specs.Tables.Serves.{is_cell_of}
use Rattle.wrap_table.proofs.homing.cells_of.Given as goal

abbrev pub invariant-loop-segment : goal.invariant-loop-segment
invariant-loop-segment l = record {
  size : length l.cells.items ≡ l.width;
  rises : RisesTo l.from (drop l.segment-index l.segments) ROUND;
  cells : (v : ℕ) → v < l.width → get_or l.cells.items v 0
      + count_by (λ cell. is_cell_of v cell) (cells_from l.from (drop l.segment-index l.segments))
      ≡ count_by (λ cell. is_cell_of v cell) (cells_from 0 l.segments);
}
