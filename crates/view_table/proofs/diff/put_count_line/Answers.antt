use Rattle.view_table.specs.Diff.{count_line}
use Rattle.view_table.proofs.diff.put_count_line.Goals as goal

pub returns : goal.returns
unfolding count_line
returns g c = rw (← c.count_of.ensures, ← c.count_of-2.ensures)
    c.put_cells.ensures
