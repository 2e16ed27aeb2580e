use Rattle.std.proofs.Common.{◌≡◌, ◌*◌, ◌≤◌, take}
use Rattle.size_fit.specs.FitText.{total_load}
use Rattle.size_fit.proofs.write.total_of.Given as goal

-- the loads so far
abbrev pub invariant-loop-load : goal.invariant-loop-load
invariant-loop-load l = record {
  total : l.total ≡ total_load (take l.load-index l.loads);
  small : l.total ≤ l.load-index * 4294967295;
}
