use Rattle.std.proofs.Common.{◌≡◌, ℕ, ◌<◌, ◌≤◌, length}
use Rattle.tab_core.specs.declared.TheConstants.{MAX_VCPUS, ROUND}
use Rattle.table_form.specs.Promises.Offered.{some_row_has}
use Rattle.run_counts.specs.Inside.Sweeps.{IsToldIfShort, IsToldTo}
use Rattle.run_counts.specs.Stretches.{stretch_at}
use Rattle.run_counts.proofs.walk.walk_late.Given as goal

-- the vCPUs so far have stretches that tell of the round
abbrev pub invariant-loop-v : goal.invariant-loop-v
invariant-loop-v l = record {
  size : length l.stretches ≡ MAX_VCPUS;
  done : (u : ℕ) → u < l.v → IsToldTo (some_row_has l.rows u) ROUND (stretch_at l.stretches u);
  rest : (u : ℕ) → l.v ≤ u → u < MAX_VCPUS → IsToldIfShort (some_row_has l.rows u) (stretch_at l.stretches u);
}
