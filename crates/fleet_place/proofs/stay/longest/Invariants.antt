use Rattle.std.proofs.Common.{ℕ, ◌<◌, ◌≤◌, length, take}
use Rattle.fleet_place.specs.Fits.{FitsNot}
use Rattle.fleet_place.proofs.stay.longest.Given as goal

-- no greater count fits
abbrev pub invariant-loop-count : goal.invariant-loop-count
invariant-loop-count l = record {
  few : l.count ≤ length l.vms;
  longest : (more : ℕ) → l.count < more → more ≤ length l.vms → FitsNot l.policy l.cores (take more l.vms);
}

abbrev pub decreases-loop-count : goal.decreases-loop-count
decreases-loop-count l = l.count
