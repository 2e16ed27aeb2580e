use Rattle.table_form.specs.Tables.Rows.{cells_from}
use Rattle.table_form.proofs.SegmentLemmas.{cells_are, maximal_of_cells}
use Rattle.table_form.proofs.row.CoreTable.of_rising.Goals as goal

pub invariant_of-result : goal.invariant_of-result
invariant_of-result c = maximal_of_cells c.args.segments.items c.join_neighbours.new.segments.items c.requires
    c.join_neighbours.ensures

pub returns : goal.returns
returns c = cells_are c.join_neighbours.new.segments.items (cells_from 0 c.args.segments.items)
    c.join_neighbours.ensures
