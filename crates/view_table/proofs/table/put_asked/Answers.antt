use Rattle.std.proofs.Common.{append-nil}
use Rattle.view_table.specs.Table.{asked_cells}
use Rattle.view_table.proofs.table.put_asked.Goals as goal

pub returns : goal.returns
unfolding asked_cells
returns g c = rw (← c.asked_cell.ensures, ← c.of_round-share.ensures.value, ← c.period_cell.ensures, ← c.wait_cell.ensures, ← c.promised_cell.ensures, ← c.kept_cell.ensures)
    (rw append-nil at c.put_cells.ensures)
