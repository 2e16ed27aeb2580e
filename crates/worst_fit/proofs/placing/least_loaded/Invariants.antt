use Rattle.std.proofs.Common.{ℕ, ◌<◌, ◌≤◌, length, slice_index}
use Rattle.worst_fit.proofs.placing.least_loaded.Given as goal

-- the best of the cores so far, and the lowest of those
abbrev pub invariant-loop-core : goal.invariant-loop-core
invariant-loop-core l = record {
  is_core : l.best < length l.loads;
  least : (core : ℕ) → core < l.core → slice_index l.loads l.best ≤ slice_index l.loads core;
  lowest : (core : ℕ) → core < l.best → slice_index l.loads l.best < slice_index l.loads core;
}
