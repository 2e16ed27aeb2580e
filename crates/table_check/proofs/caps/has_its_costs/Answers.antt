use Rattle.std.proofs.Common.{◌≤◌, ◌/◌, arith}
use Rattle.tab_core.specs.declared.TheConstants.{ROUND}
use Rattle.table_check.specs.declared.counters.TheConstants.{MAX_PERIODS}
use Rattle.table_check.proofs.Periods.{few_periods}
use Rattle.table_check.proofs.caps.has_its_costs.Goals as goal

pub bounds-counters-vcpu : goal.bounds-counters-vcpu
bounds-counters-vcpu c =
    let few : ROUND / c.args.task.now.period ≤ MAX_PERIODS = few_periods c.args.task.now in
    omega (arith, c.requires, c.loop-period_no-test.true, few)
