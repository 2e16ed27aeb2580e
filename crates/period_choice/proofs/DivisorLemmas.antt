-- The table of periods lists each divisor of the round that is at least 100.
use Rattle.std.proofs.Common.{◌≡◌, ℕ, zero, suc, ◌*◌, ◌/◌, ◌≤◌, ◌<◌, Bool, true, not, ◌&&◌, ◌||◌, eqb, inl, inr, refl, subst, arith}
use Rattle.std.proofs.Math.Nat.{mul-div_cancel}
use Rattle.std.proofs.lemmas.Bool.{cases_eq}
use Rattle.std.proofs.lemmas.Bool.Decides.{nat_tests}
use Rattle.std.proofs.lemmas.Grind.{common_steps}
use Rattle.tab_core.specs.Period.{IsPeriod, is_period}
use Rattle.tab_core.proofs.Periods.{period_facts}
use Rattle.period_choice.specs.Periods.{IsLongDivisor}

-- each number below n passes the test
below_pass : (ℕ → Bool) → ℕ → Bool
below_pass p zero = true
below_pass p (suc n) = p n && below_pass p n

passes_at : (p : ℕ → Bool) (n k : ℕ) → below_pass p n ≡ true → k < n → p k ≡ true
unfolding below_pass
passes_at p zero k all lt = absurd (omega arith)
passes_at p (suc n) k all lt = elim (cases_eq k n) [
  | inl e ↦ (let here : p n ≡ true = grind (arith, common_steps) in rw e here)
  | inr ne ↦ (let rest : below_pass p n ≡ true = grind (arith, common_steps) in passes_at p n k rest (omega (arith, ne)))
]

-- so many parts of a round are listed where they make it up
part_listed : ℕ → Bool
part_listed k = not (eqb (102600 / k * k) 102600) || is_period (102600 / k)

-- computed over all numbers of parts that leave each at least 100 ticks
parts_listed : below_pass part_listed 1027 ≡ true
unfolding below_pass part_listed is_period
parts_listed = refl

-- a divisor is such a part
few_parts : (ticks times : ℕ) → 100 ≤ ticks → ticks * times ≡ 102600 → times < 1027
few_parts ticks times long whole = grind (arith, long, whole)

some_part : (ticks times : ℕ) → ticks * times ≡ 102600 → 0 < times
some_part ticks zero whole = absurd (omega (arith, whole))
some_part ticks (suc n) whole = omega arith

is_part : (ticks times : ℕ) → ticks * times ≡ 102600 → 102600 / times ≡ ticks
is_part ticks times whole = subst (λ (n : ℕ). n / times ≡ ticks) whole (mul-div_cancel ticks (some_part ticks times whole))

-- what is listed is a divisor
pub listed_divides : (ticks : ℕ) → IsPeriod ticks → IsLongDivisor ticks
listed_divides ticks is =
    let facts = period_facts ticks is in
    record { long = facts.at_least; times = 102600 / ticks; whole = facts.whole }

-- each long divisor of a round is listed
pub divisor_listed : (ticks : ℕ) → IsLongDivisor ticks → IsPeriod ticks
unfolding part_listed
divisor_listed ticks is =
    let few = few_parts ticks is.times is.long is.whole in
    let part = is_part ticks is.times is.whole in
    let passed : part_listed is.times ≡ true = passes_at part_listed 1027 is.times parts_listed few in
    let whole = is.whole in
    grind (arith, nat_tests, common_steps, passed, part, whole)
