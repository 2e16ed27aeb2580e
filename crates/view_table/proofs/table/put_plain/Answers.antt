use Rattle.std.proofs.Common.{append-nil}
use Rattle.view_table.specs.Table.{plain_cells}
use Rattle.view_table.proofs.table.put_plain.Goals as goal

pub returns : goal.returns
unfolding plain_cells
returns g c = rw (← c.of_round-share.ensures.value, ← c.period_cell.ensures, ← c.wait_cell.ensures)
    (rw append-nil at c.put_cells.ensures)
