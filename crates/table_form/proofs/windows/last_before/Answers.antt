use Rattle.std.proofs.Common.{◌-◌, ◌/◌, inr, arith}
use Rattle.std.proofs.Math.Nat.{mod-eq-sub-div-mul, div-mul-le_self}
use Rattle.table_form.proofs.windows.last_before.Goals as goal

-- the last multiple of the period, counted from the offset
pub returns-else-tick-offset-clause-one : goal.returns-else-tick-offset-clause-one
returns-else-tick-offset-clause-one c =
    let gone = c.args.tick - 1 - c.args.offset in
    inr (
      gone / c.args.period,
      omega (
        arith,
        mod-eq-sub-div-mul gone c.args.period,
        div-mul-le_self gone c.args.period,
      ),
    )
