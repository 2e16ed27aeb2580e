-- Sums over the vCPUs of an account.
use Rattle.std.proofs.Common.{◌≡◌, ℕ, ◌+◌, List, refl, ap, add-one}
use Rattle.std.specs.Prelude.{slice_index}
use Rattle.trace_report.specs.RunReports.{sum_below}

-- over none
pub sum_none : (ticks : List ℕ) → sum_below ticks 0 ≡ 0
unfolding sum_below
sum_none ticks = refl

-- over one more, as loops count
pub sum_more : (ticks : List ℕ) (n : ℕ) → sum_below ticks (n + 1) ≡ sum_below ticks n + slice_index ticks n
unfolding sum_below
sum_more ticks n = ap (sum_below ticks) (add-one n)
