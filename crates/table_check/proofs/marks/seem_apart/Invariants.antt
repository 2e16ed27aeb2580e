-- the rows before this one are apart
use Rattle.table_check.specs.Shapes.{rows_of}
use Rattle.table_check.proofs.Marking.{AreApartBelow}
use Rattle.table_check.proofs.marks.seem_apart.Given as goal

abbrev pub invariant-loop-row : goal.invariant-loop-row
invariant-loop-row l = AreApartBelow (rows_of l.raw) l.row-index l.marks.items
