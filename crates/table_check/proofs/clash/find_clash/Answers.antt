use Rattle.std.proofs.Common.{◌≤◌, Some, None, Option, IfSome, IfNone, List, ℕ, length, arith}
use Rattle.table_form.specs.Tables.Rows.{Row}
use Rattle.table_form.specs.Tables.Serves.{Apart}
use Rattle.table_check.specs.Clashes.{IsFirstClash}
use Rattle.table_check.specs.declared.clash.Clash.{Clash}
use Rattle.table_check.proofs.Pairs.{apart_if_none, first_of_all, no_pair_yet}
use Rattle.table_check.specs.Inside.Pairs.{IsFirstBefore}
use Rattle.table_check.specs.Shapes.{rows_of}
use Rattle.table_check.proofs.RawShapes.{length-rows_of}
use Rattle.table_check.proofs.clash.find_clash.Goals as goal

some : (rows : List Row) (count : ℕ) (best : Option Clash) → length rows ≤ count
    → IsFirstBefore rows count 0 best
    → IfSome best (λ clash. IsFirstClash rows clash.vcpu clash.tick clash.core clash.other)
some rows count None all before = tt
some rows count (Some first) all before = first_of_all rows count first all before

none : (rows : List Row) (count : ℕ) (best : Option Clash) → length rows ≤ count
    → IsFirstBefore rows count 0 best
    → IfNone best (Apart rows)
none rows count None all before = apart_if_none rows count all before
none rows count (Some first) all before = tt

pub loop-core-init : goal.loop-core-init
loop-core-init c = no_pair_yet (rows_of c.args.raw.now)

pub returns-clause-none : goal.returns-clause-none
returns-clause-none c = none (rows_of c.args.raw.now) c.loop-core.core c.loop-core.best
    (omega (arith, length-rows_of c.args.raw.now, c.loop-core-test.false))
    c.loop-core.invariant

pub returns-clause-some : goal.returns-clause-some
returns-clause-some c = some (rows_of c.args.raw.now) c.loop-core.core c.loop-core.best
    (omega (arith, length-rows_of c.args.raw.now, c.loop-core-test.false))
    c.loop-core.invariant
