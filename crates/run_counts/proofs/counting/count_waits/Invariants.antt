use Rattle.std.proofs.Common.{◌≡◌, ℕ, ◌-◌, ◌<◌, ◌≤◌, length}
use Rattle.tab_core.specs.declared.TheConstants.{MAX_VCPUS}
use Rattle.run_counts.specs.Stretches.{stretch_at}
use Rattle.run_counts.proofs.RunLemmas.{IsToldRun}
use Rattle.run_counts.proofs.counting.count_waits.Given as goal

-- the rounds before r are counted
abbrev pub invariant-counting : goal.invariant-counting
invariant-counting l = record {
  round_size : length l.round ≡ MAX_VCPUS;
  run_size : length l.run ≡ MAX_VCPUS;
  within : l.r ≤ length l.used;
  told : (v : ℕ) → v < MAX_VCPUS → IsToldRun l.course l.used v 0 l.r (stretch_at l.run v);
}

abbrev pub decreases-counting : goal.decreases-counting
decreases-counting l = length l.used - l.r
