use Rattle.std.proofs.Common.{◌≡◌, ℕ, ◌<◌, ◌≤◌, max}
use Rattle.std.specs.Prelude.{slice_index}
use Rattle.run_limit.proofs.bound.raise.Given as goal

-- the numbers of the cores so far are raised
abbrev pub invariant-loop-core : goal.invariant-loop-core
invariant-loop-core l = record {
  raised : (c : ℕ) → c < l.core → slice_index l.most c ≡ max (slice_index l.initial.most c) (slice_index l.spans c);
  rest : (c : ℕ) → l.core ≤ c → slice_index l.most c ≡ slice_index l.initial.most c;
}
