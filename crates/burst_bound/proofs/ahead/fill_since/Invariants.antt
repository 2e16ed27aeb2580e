use Rattle.std.proofs.Common.{◌≡◌, ℕ, ◌<◌, length}
use Rattle.std.specs.Prelude.{slice_index, vec_capacity}
use Rattle.burst_bound.specs.Inside.Bounding.{IsSince}
use Rattle.burst_bound.proofs.ahead.fill_since.Given as goal

abbrev pub invariant-loop-round : goal.invariant-loop-round
invariant-loop-round l = record {
  size : length l.since.items ≡ l.round;
  each : (r : ℕ) → r < l.round → IsSince l.fn.course l.fn.used r (slice_index l.since.items r);
  room : vec_capacity l.since ≡ vec_capacity l.fn.since;
}
