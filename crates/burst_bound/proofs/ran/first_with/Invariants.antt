use Rattle.std.proofs.Common.{◌≡◌, ℕ, ◌-◌, ◌<◌, ◌≤◌, length, Some}
use Rattle.std.specs.Prelude.{slice_get}
use Rattle.burst_bound.specs.Inside.Runs.{after_piece, place_of}
use Rattle.burst_bound.specs.declared.ran.RanPiece.{RanPiece}
use Rattle.burst_bound.proofs.ran.first_with.Given as goal

-- the pieces before the lower place come before so many ticks, and those from the higher on don't
abbrev pub invariant-loop-low : goal.invariant-loop-low
invariant-loop-low l = record {
  order : l.low ≤ l.high;
  within : l.high ≤ length l.pieces;
  less : (k b : ℕ) (p : RanPiece) → k < l.low → slice_get l.pieces k ≡ Some p → slice_get l.before k ≡ Some b
      → place_of p.vcpu (after_piece b p) < place_of l.fn.vcpu l.fn.ticks;
  rest : (k b : ℕ) (p : RanPiece) → l.high ≤ k → slice_get l.pieces k ≡ Some p → slice_get l.before k ≡ Some b
      → place_of l.fn.vcpu l.fn.ticks ≤ place_of p.vcpu (after_piece b p);
}

abbrev pub decreases-loop-low : goal.decreases-loop-low
decreases-loop-low l = l.high - l.low
