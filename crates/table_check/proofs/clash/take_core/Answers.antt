use Rattle.std.proofs.Common.{arith}
use Rattle.table_check.specs.Shapes.{rows_of}
use Rattle.table_check.proofs.Pairs.{first_others, next_core}
use Rattle.table_check.proofs.RawShapes.{length-rows_of}
use Rattle.table_check.proofs.clash.take_core.Goals as goal

pub loop-other-init : goal.loop-other-init
loop-other-init c = first_others (rows_of c.args.raw.now) c.args.core c.args.best c.requires.before

pub returns : goal.returns
returns c = next_core (rows_of c.args.raw.now) c.args.core c.loop-other.other c.loop-other.best
    (omega (arith, length-rows_of c.args.raw.now, c.loop-other-test.false)) c.loop-other.invariant
