use Rattle.view_judge.specs.Tables.{share_cells}
use Rattle.view_judge.proofs.tables.put_share_cells.Goals as goal

pub returns : goal.returns
unfolding share_cells
returns g c = rw (
  ← c.asked_cell.ensures,
  ← c.owed_cell.ensures,
  ← c.least_cell.ensures,
  ← c.window_cell.ensures,
  ← c.kept_cell.ensures,
) c.put_cells.ensures
