use Rattle.table_check.specs.Inside.Pairs.{IsFirstBefore}
use Rattle.table_check.specs.Shapes.{rows_of}
use Rattle.table_check.proofs.clash.take_core.Given as goal

abbrev pub invariant-loop-other : goal.invariant-loop-other
invariant-loop-other l = IsFirstBefore (rows_of l.raw) l.core l.other l.best
