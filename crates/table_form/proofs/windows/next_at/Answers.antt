use Rattle.std.proofs.Common.{◌+◌, ◌-◌, ◌/◌, arith}
use Rattle.std.proofs.Math.Nat.{mod-eq-sub-div-mul, div-mul-le_self}
use Rattle.table_form.proofs.windows.next_at.Goals as goal

-- the next multiple of the period, counted from the offset
pub returns-else-tick-offset-clause-one : goal.returns-else-tick-offset-clause-one
returns-else-tick-offset-clause-one c =
    let gone = c.args.tick - c.args.offset in (
      gone / c.args.period + 1,
      omega (
        arith,
        mod-eq-sub-div-mul gone c.args.period,
        div-mul-le_self gone c.args.period,
      ),
    )
