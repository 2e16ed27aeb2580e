use Rattle.std.proofs.Common.{◌≡◌, length}
use Rattle.table_check.specs.Shapes.{AreOwnedByTasks}
use Rattle.tests_library.proofs.checks.rows_of.Given as goal

abbrev pub invariant-loop-row : goal.invariant-loop-row
invariant-loop-row l = record {
  count : length l.raw.items ≡ l.row-index;
  owned : AreOwnedByTasks l.tasks l.raw.items;
}
