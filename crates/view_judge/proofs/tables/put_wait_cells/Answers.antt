use Rattle.view_judge.specs.Tables.{wait_cells}
use Rattle.view_judge.proofs.tables.put_wait_cells.Goals as goal

pub returns : goal.returns
unfolding wait_cells
returns g c = rw (
  ← c.longest_cell.ensures,
  ← c.begin_cell.ensures,
  ← c.cpu_cell.ensures,
  ← c.promised_cell.ensures,
  ← c.late_cell.ensures,
  ← c.kept_cell.ensures,
) c.put_cells.ensures
