use Rattle.table_check.specs.Shapes.{AreOfTasks}
use Rattle.tests_library.proofs.checks.segments_of.Given as goal

abbrev pub invariant-loop-end : goal.invariant-loop-end
invariant-loop-end l = AreOfTasks l.tasks l.segments.items
