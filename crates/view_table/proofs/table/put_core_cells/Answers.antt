use Rattle.view_table.specs.Table.{core_cells}
use Rattle.view_table.proofs.table.put_core_cells.Goals as goal

pub returns : goal.returns
unfolding core_cells
returns g c = rw (← c.core_cell.ensures, ← c.of_round.ensures.value, ← c.rest_of_round.ensures)
    c.put_cells.ensures
