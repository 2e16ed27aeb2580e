use Rattle.table_check.specs.Inside.Pairs.{IsFirstBefore}
use Rattle.table_check.specs.Shapes.{rows_of}
use Rattle.table_check.proofs.clash.find_clash.Given as goal

abbrev pub invariant-loop-core : goal.invariant-loop-core
invariant-loop-core l = IsFirstBefore (rows_of l.raw) l.core 0 l.best
