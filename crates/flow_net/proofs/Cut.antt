-- No cut is below the sum of the costs, scaled by the round's length.
use Rattle.std.proofs.Common.{◌≡◌, ℕ, zero, suc, ◌+◌, ◌*◌, ◌<◌, ◌≤◌, Bool, true, false, cond, refl, arith}
use Rattle.std.proofs.Math.Nat.{mul-le-mul_right, zero-mul, add-mul}
use Rattle.tab_core.specs.Sums.{total}
use Rattle.tab_core.proofs.Totals.{total-le, total-add, total-ext, total-swap, total-none}

-- chosen v i: the job of v at interval i is in the cut; near i: interval i is on its side
pub record Cut (vcpus intervals room round : ℕ) (demand length : ℕ → ℕ) (chosen : ℕ → ℕ → Bool) (near : ℕ
    → Bool) : Type 0 where
  pub fits : total demand vcpus ≤ room
  pub single : (v : ℕ) → v < vcpus → demand v ≤ round

-- one pair of a job and an interval
term : (x y : Bool) (d l n : ℕ) → d ≤ n → cond x (d * l) 0 ≤ cond y (d * l) 0 + cond x (cond y 0 (n * l)) 0
term x y d l n h =
    elim x as (λ x. cond x (d * l) 0 ≤ cond y (d * l) 0 + cond x (cond y 0 (n * l)) 0) [
      | true ↦ elim y as (λ y. d * l ≤ cond y (d * l) 0 + cond y 0 (n * l))
          [ true ↦ omega arith | false ↦ omega (arith, mul-le-mul_right l h) ]
      | false ↦ omega arith
    ]

-- a factor goes out of a sum
pub scaled : (f : ℕ → ℕ) (l n : ℕ) → total (λ v. f v * l) n ≡ total f n * l
scaled f l zero = rw zero-mul refl
scaled f l (suc n) = rw (add-mul (total f n) (f n) l) (omega (arith, scaled f l n))

-- the pairs of one interval that is near the sink
column : (y : Bool) (demand : ℕ → ℕ) (l vcpus room : ℕ) → total demand vcpus ≤ room
    → total (λ v. cond y (demand v * l) 0) vcpus ≤ cond y (room * l) 0
column y demand l vcpus room h =
    elim y as (λ y. total (λ v. cond y (demand v * l) 0) vcpus ≤ cond y (room * l) 0) [
      | true ↦ rw (scaled demand l vcpus) (mul-le-mul_right l h)
      | false ↦ omega
          (arith, total-none (λ v. 0) vcpus (λ k i. refl))
    ]

-- no cut is below the sum of the demands, all times the round
pub no_cut_below : (vcpus intervals room round : ℕ) (demand length : ℕ → ℕ) (chosen : ℕ → ℕ
    → Bool) (near : ℕ → Bool) → Cut vcpus intervals room round demand length chosen near
    → total (λ v. total (λ i. cond (chosen v i) (demand v * length i) 0) intervals) vcpus
    ≤ total (λ i. cond (near i) (room * length i) 0) intervals
    + total (λ v. total (λ i. cond (chosen v i) (cond (near i) 0 (round * length i)) 0) intervals) vcpus
no_cut_below vcpus intervals room round demand length chosen near c =
    let rows = total-le _ _ vcpus (λ v h. total-le (λ i. cond (chosen v i) (demand v * length i) 0)
    (λ i. cond (near i) (demand v * length i) 0 + cond (chosen v i) (cond (near i) 0 (round * length i))
    0) intervals (λ i k. term (chosen v i) (near i) (demand v) (length i) round (c.single v h))) in
    let split = total-ext _ _ vcpus
    (λ v h. total-add (λ i. cond (near i) (demand v * length i) 0)
    (λ i. cond (chosen v i) (cond (near i) 0 (round * length i)) 0) intervals) in
    let sums = total-add (λ v. total (λ i. cond (near i) (demand v * length i) 0) intervals)
    (λ v. total (λ i. cond (chosen v i) (cond (near i) 0 (round * length i)) 0) intervals) vcpus in
    let swapped = total-swap (λ v i. cond (near i) (demand v * length i) 0) intervals vcpus in
    let columns = total-le (λ i. total (λ v. cond (near i) (demand v * length i) 0) vcpus)
    (λ i. cond (near i) (room * length i) 0) intervals
    (λ i k. column (near i) demand (length i) vcpus room c.fits) in
    omega (arith, rows, split, sums, swapped, columns)
