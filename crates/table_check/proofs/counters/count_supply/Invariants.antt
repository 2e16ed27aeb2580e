-- the rows before this one are counted
use Rattle.std.proofs.Common.{◌≡◌, ◌*◌, length, take}
use Rattle.table_check.specs.Inside.Counters.{CountSupply}
use Rattle.table_check.specs.declared.counters.TheConstants.{MAX_PERIODS}
use Rattle.table_check.specs.Shapes.{rows_of}
use Rattle.table_check.proofs.counters.count_supply.Given as goal

abbrev pub invariant-loop-row : goal.invariant-loop-row
invariant-loop-row l = record {
  size : length l.counters.items ≡ length l.tasks * MAX_PERIODS;
  counted : CountSupply l.tasks (take l.row-index (rows_of l.raw)) l.counters.items;
}
