use Rattle.slice_table.specs.Inside.Tables.{AreFirstTables}
use Rattle.slice_table.proofs.core_slices.CoreSlices.make_with.Given as goal

abbrev pub invariant-loop-number : goal.invariant-loop-number
invariant-loop-number l = AreFirstTables l.course.plans l.core l.number l.tables.items
