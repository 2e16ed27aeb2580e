use Rattle.view_table.specs.Diff.{load_line}
use Rattle.view_table.proofs.diff.put_load_line.Goals as goal

pub returns : goal.returns
unfolding load_line
returns g c = rw (← c.count_of.ensures, ← c.of_round-share.ensures.value, ← c.of_round.ensures.value)
    c.put_cells.ensures
