-- How many periods are one where the least budget is 1000.
use Rattle.std.proofs.Common.{◌≡◌, ℕ, ◌+◌, ◌*◌, ◌<◌, ◌≤◌, ◌==◌, false, if◌then◌else◌, refl, arith}
use Rattle.std.specs.Int.{div_ceil}
use Rattle.std.proofs.Math.Nat.{mul-le-mul_right}
use Rattle.std.proofs.lemmas.Bool.{cases_lt}
use Rattle.std.proofs.lemmas.Grind.{div_ceil_times}
use Rattle.std.proofs.Math.Logic.{⊎_elim}

-- a case for 0 is none where there is something
pub some_of : (a rest : ℕ) → 1 ≤ a → (if a == 0 then 1 else rest) ≡ rest
some_of a rest some =
    let no : (a == 0) ≡ false = grind arith in
    rw no refl

-- the budgets together are less than one more than the least
pub few_costs : (cost : ℕ) → 1 ≤ cost → div_ceil 1000 cost * cost < cost + 1000
few_costs cost some =
    let times = (div_ceil_times 1000 cost (omega arith)).1 in
    omega arith

-- as many as 1000 periods at most
pub few_periods : (cost : ℕ) → 1 ≤ cost → div_ceil 1000 cost ≤ 1000
few_periods cost some =
    let k : ℕ = div_ceil 1000 cost in
    let most : k * cost < cost + 1000 = few_costs cost some in
    ⊎_elim
    (λ (many : 1000 < k).
    let times : 1001 * cost ≤ k * cost = mul-le-mul_right {m = 1001} {n = k} cost (omega arith) in
    absurd (omega arith))
    (λ (few : k ≤ 1000). few)
    (cases_lt 1000 k)
