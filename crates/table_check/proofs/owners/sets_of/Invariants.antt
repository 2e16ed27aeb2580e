use Rattle.std.proofs.Common.{◌≡◌, length}
use Rattle.table_check.specs.Inside.Owners.{HaveOwners}
use Rattle.table_check.specs.Shapes.{rows_of}
use Rattle.table_check.proofs.owners.sets_of.Given as goal

-- the sets are those of the rows so far
abbrev pub invariant-loop-row : goal.invariant-loop-row
invariant-loop-row l = record {
  size : length l.sets.items ≡ l.row-index;
  have : HaveOwners (rows_of l.raw) l.sets.items;
}
