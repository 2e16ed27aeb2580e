use Rattle.slice_table.specs.Inside.Owners.{AreFirstSets}
use Rattle.slice_table.proofs.owners.RowOwners.of.Given as goal

abbrev pub invariant-loop-number : goal.invariant-loop-number
invariant-loop-number l = AreFirstSets l.plan.tables.rows l.number l.sets.items
