use Rattle.std.proofs.Common.{◌≡◌, ◌*◌, ◌≤◌, sum, take}
use Rattle.fleet_place.proofs.write.sum_of.Given as goal

-- the counts so far
abbrev pub invariant-loop-split : goal.invariant-loop-split
invariant-loop-split l = record {
  sum : l.sum ≡ sum (take l.split-index l.splits);
  small : l.sum ≤ l.split-index * 4294967295;
}
