-- How large the numbers of a picture are.
use Rattle.std.proofs.Common.{arith, ℕ, ◌+◌, ◌-◌, ◌*◌, ◌/◌, ◌<◌, ◌≤◌}
use Rattle.std.proofs.Math.Nat.{div-mul-le_self}
use Rattle.std.proofs.lemmas.Nat.{mul-le}

-- a mark before the last isn't after the end
pub mark_low : (first k us step : ℕ) → k < (us / step + 1) - first → (first + k) * step ≤ us
mark_low first k us step low =
    let few : first + k ≤ us / step = omega arith in
    let whole : us / step * step ≤ us = div-mul-le_self us step in
    let less : (first + k) * step ≤ us / step * step = mul-le (first + k) step (us / step) step few (omega arith) in
    omega (arith, whole, less)
