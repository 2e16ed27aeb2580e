-- Sums of a function below a number.
use Rattle.std.proofs.Common.{◌≡◌, ℕ, zero, suc, ◌+◌, ◌*◌, ◌<◌, ◌≤◌, ap, refl, sym, arith, ⊎_elim, add-zero, add-suc}
use Rattle.std.proofs.lemmas.Bool.{cases_lt, cases_eq}
use Rattle.std.proofs.Math.Nat.{suc-mul, zero-mul}
use Rattle.tab_core.specs.Sums.{total}

-- sums of functions that agree
pub total-ext : (f g : ℕ → ℕ) (n : ℕ) → ((k : ℕ) → k < n → f k ≡ g k) → total f n ≡ total g n
total-ext f g zero e = refl
total-ext f g (suc n) e = omega (arith, total-ext f g n (λ k h. e k (omega arith)), e n (omega arith))

-- sums of functions of which one is at most the other
pub total-le : (f g : ℕ → ℕ) (n : ℕ) → ((k : ℕ) → k < n → f k ≤ g k) → total f n ≤ total g n
total-le f g zero e = omega arith
total-le f g (suc n) e = omega (arith, total-le f g n (λ k h. e k (omega arith)), e n (omega arith))

-- a sum of sums
pub total-add : (f g : ℕ → ℕ) (n : ℕ) → total (λ k. f k + g k) n ≡ total f n + total g n
total-add f g zero = omega arith
total-add f g (suc n) = omega (arith, total-add f g n)

-- a sum in two parts
pub total-split : (f : ℕ → ℕ) (a b : ℕ) → total f (a + b) ≡ total f a + total (λ k. f (a + k)) b
total-split f a zero = rw add-zero (omega arith)
total-split f a (suc b) = rw add-suc (omega (arith, total-split f a b))

-- a sum of nothing
pub total-zero : (n : ℕ) → total (λ k. 0) n ≡ 0
total-zero zero = refl
total-zero (suc n) = omega (arith, total-zero n)

-- a sum of one value
pub total-const : (c n : ℕ) → total (λ k. c) n ≡ n * c
total-const c zero = omega arith
total-const c (suc n) = grind (arith, total-const c n)

-- a factor goes out of a sum
pub total-scale : (c : ℕ) (f : ℕ → ℕ) (n : ℕ) → total (λ k. c * f k) n ≡ c * total f n
total-scale c f zero = omega arith
total-scale c f (suc n) = grind (arith, total-scale c f n)

-- a sum of sums, the other way round
pub total-swap : (f : ℕ → ℕ → ℕ) (m n : ℕ)
    → total (λ k. total (f k) m) n ≡ total (λ j. total (λ k. f k j) n) m
total-swap f m zero = sym (total-zero m)
total-swap f m (suc n) = omega (arith, total-swap f m n, total-add (λ j. total (λ k. f k j) n) (f n) m)

-- a sum of zeros
pub total-none : (f : ℕ → ℕ) (n : ℕ) → ((k : ℕ) → k < n → f k ≡ 0) → total f n ≡ 0
total-none f zero e = refl
total-none f (suc n) e = omega (arith, total-none f n (λ k h. e k (omega arith)), e n (omega arith))

-- a value is at most the sum
pub total-point : (f : ℕ → ℕ) (n k : ℕ) → k < n → f k ≤ total f n
total-point f zero k h = absurd (omega arith)
total-point f (suc n) k h =
    ⊎_elim (λ below. omega (arith, total-point f n k below)) (λ above. let e : k
    ≡ n = omega arith in rw e (omega arith)) (cases_lt k n)

-- sums of which one value is strictly less
pub total-lt : (f g : ℕ → ℕ) (n k : ℕ) → ((j : ℕ) → j < n → f j ≤ g j) → k < n → f k < g k
    → total f n < total g n
total-lt f g zero k e h l = absurd (omega arith)
total-lt f g (suc n) k e h l =
    ⊎_elim
    (λ below. omega (arith, total-lt f g n k (λ j i. e j (omega arith)) below l, e n (omega arith)))
    (λ above. let q : k ≡ n = omega arith in let l' =
    rw q at l in omega (arith, l', total-le f g n (λ j i. e j (omega arith))))
    (cases_lt k n)

-- all terms but one are 0
pub total-pick : (f : ℕ → ℕ) (n q : ℕ) → ((k : ℕ) → k < n → (k ≡ q → ⊥) → f k ≡ 0) → total f n ≤ f q
total-pick f zero q e = omega arith
total-pick f (suc n) q e =
    ⊎_elim
    (λ same. omega (arith, ap f same, total-none f n (λ k h. e k (omega arith) (λ p. omega arith))))
    (λ other. omega (arith, e n (omega arith) other, total-pick f n q (λ k h. e k (omega arith))))
    (cases_eq n q)

-- a sum in blocks of one length
pub total-blocks : (f : ℕ → ℕ) (l m : ℕ) → total f (m * l) ≡ total (λ c. total (λ t. f (c * l + t)) l) m
total-blocks f l zero = rw zero-mul refl
total-blocks f l (suc m) = rw suc-mul (omega (arith, total-split f (m * l) l, total-blocks f l m))

-- a sum of ones and zeros
pub at_most : (f : ℕ → ℕ) (n : ℕ) → ((k : ℕ) → f k ≤ 1) → total f n ≤ n
at_most f zero one = omega arith
at_most f (suc n) one = omega (arith, at_most f n one, one n)

-- f is at most 1, and 0 on the middle part of three
pub total-outside : (f : ℕ → ℕ) (a m b : ℕ) → ((k : ℕ) → f k ≤ 1) → ((k : ℕ) → k < m → f (a + k) ≡ 0)
    → total f (a + m + b) ≤ a + b
total-outside f a m b one zero_here =
    omega (
      arith,
      total-split f (a + m) b,
      total-split f a m,
      total-none (λ k. f (a
          + k)) m zero_here,
      at_most f a one,
      at_most (λ k. f (a + m + k)) b (λ k. one (a + m + k)),
    )

-- a sum and the next value
pub total-step : (f : ℕ → ℕ) (n : ℕ) → total f (n + 1) ≡ total f n + f n
total-step f n = let e : n + 1 ≡ suc n = omega arith in rw e refl

-- a sum begins with its first value
pub total-front : (f : ℕ → ℕ) (n : ℕ) → total f (suc n) ≡ f 0 + total (λ k. f (suc k)) n
total-front f zero = omega arith
total-front f (suc n) = omega (arith, total-front f n)
