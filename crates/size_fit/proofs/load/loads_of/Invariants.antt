use Rattle.std.proofs.Common.{◌≡◌, take}
use Rattle.size_fit.specs.Loads.{loads_of}
use Rattle.size_fit.proofs.load.loads_of.Given as goal

-- the cores so far
abbrev pub invariant-loop-row : goal.invariant-loop-row
invariant-loop-row l = l.loads.items ≡ loads_of (take l.row-index l.rows)
