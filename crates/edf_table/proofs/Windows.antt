-- At which ticks a window ends.
use Rattle.std.proofs.Common.{◌≡◌, ℕ, ◌+◌, ◌-◌, ◌*◌, ◌/◌, ◌%◌, ◌<◌, arith, ap, ◌∙◌}
use Rattle.std.proofs.Math.Nat.{mul-div_left}

-- the number of the window that ends at the tick is the quotient that the code takes
pub window_at : (tick to t k : ℕ) → 0 < t → k * t + to ≡ tick → (tick - to) / t ≡ k
window_at tick to t k some e =
    let at : tick - to ≡ k * t = omega arith in
    ap (λ n. n / t) at ∙ mul-div_left k some

-- nothing is left of the division at the tick where a window ends
pub whole_at : (tick to t k : ℕ) → 0 < t → k * t + to ≡ tick → (tick - to) % t ≡ 0
whole_at tick to t k some e =
    let at : tick - to ≡ k * t = omega arith in
    let quotient = ap (λ n. t * n) (window_at tick to t k some e) in
    omega arith
