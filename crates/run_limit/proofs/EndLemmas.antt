-- How many of a list of ends are at most a place.
use Rattle.std.proofs.Common.{◌≡◌, ℕ, zero, suc, ◌+◌, ◌<◌, ◌≤◌, Bool, true, false, cond, List, [], ◌∷◌, length, Some, refl, arith}
use Rattle.std.specs.Prelude.{nat_le, slice_get}
use Rattle.std.proofs.lemmas.Bool.Decides.{nat_tests}

-- the test as a number
abbrev one_if : Bool → ℕ
one_if b = cond b 1 0

-- how many of the ends are reached at the place
abbrev pub reached : List ℕ → ℕ → ℕ
reached [] p = 0
reached (e ∷ es) p = one_if (nat_le e p) + reached es p

-- a test counts at most once
most_one : (b : Bool) → one_if b ≤ 1
most_one true = omega arith
most_one false = omega arith

-- a test that passes counts
one_of : (b : Bool) → b ≡ true → one_if b ≡ 1
one_of true h = refl
one_of false h = absurd cc

-- a test that fails doesn't count
none_of : (b : Bool) → b ≡ false → one_if b ≡ 0
none_of true h = absurd cc
none_of false h = refl

-- an end is not reached before it
pub below : (e p : ℕ) → p < e → one_if (nat_le e p) ≡ 0
below e p lt = none_of (nat_le e p) (grind (arith, nat_tests))

-- it is reached from there on
above : (e p : ℕ) → e ≤ p → one_if (nat_le e p) ≡ 1
above e p le = one_of (nat_le e p) (grind (arith, nat_tests))

-- what is reached stays so
more_one : (e p q : ℕ) → p ≤ q → one_if (nat_le e p) ≤ one_if (nat_le e q)
more_one e p q le = by_test (nat_le e p) refl
  where
    by_test : (b : Bool) → nat_le e p ≡ b → one_if (nat_le e p) ≤ one_if (nat_le e q)
    by_test true is = (let low : e
        ≤ p = grind (arith, nat_tests) in omega (arith, above e p low, above e q (omega arith)))
    by_test false is = omega (arith, none_of (nat_le e p) is)

-- no more are reached than there are
pub reached_most : (es : List ℕ) (p : ℕ) → reached es p ≤ length es
reached_most [] p = omega arith
reached_most (e ∷ es) p = omega (arith, most_one (nat_le e p), reached_most es p)

-- later no fewer are reached
pub reached_more : (es : List ℕ) (p q : ℕ) → p ≤ q → reached es p ≤ reached es q
reached_more [] p q le = omega arith
reached_more (e ∷ es) p q le = omega (arith, more_one e p q le, reached_more es p q le)

-- an end that is reached on the way counts
pub reached_one : (es : List ℕ) (k e p q : ℕ) → slice_get es k ≡ Some e → p < e → e ≤ q
    → reached es p + 1 ≤ reached es q
reached_one [] k e p q at low high = absurd cc
reached_one (x ∷ xs) zero e p q at low high =
    let is : x ≡ e = cc in
    omega (arith, below x p (omega arith), above x q (omega arith), reached_more xs p q (omega arith))
reached_one (x ∷ xs) (suc k) e p q at low high =
    omega (arith, more_one x p q (omega arith), reached_one xs k e p q at low high)
