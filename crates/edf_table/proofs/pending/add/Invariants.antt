use Rattle.std.proofs.Common.{◌≡◌, ℕ, ◌+◌, ◌<◌, ◌≤◌, length}
use Rattle.edf_table.specs.Inside.Progress.{job_at}
use Rattle.edf_table.proofs.pending.add.Given as goal

-- the jobs after the place are less urgent, and have moved up
abbrev pub invariant-loop-place : goal.invariant-loop-place
invariant-loop-place l = record {
  within : l.place ≤ l.count;
  a_place_each : length l.jobs ≡ length l.initial.jobs;
  before : (j : ℕ) → j < l.place → job_at l.jobs j ≡ job_at l.initial.jobs j;
  behind : (j : ℕ) → l.place ≤ j → j < l.count → job_at l.jobs (j + 1) ≡ job_at l.initial.jobs j;
  below : (j : ℕ) → l.place ≤ j → j < l.count → (job_at l.initial.jobs j).key < l.job.key;
}

abbrev pub decreases-loop-place : goal.decreases-loop-place
decreases-loop-place l = l.place
