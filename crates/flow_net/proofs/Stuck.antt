-- A search that starts at a job that still needs ticks reaches an interval with room.
use Rattle.std.proofs.Common.{◌≡◌, ℕ, ◌+◌, ◌*◌, ◌<◌, Bool, true, false, cond, ap, refl, sym, ◌∙◌, arith}
use Rattle.std.proofs.Math.Nat.{mul_comm, zero-mul, add-mul}
use Rattle.tab_core.specs.Sums.{total}
use Rattle.tab_core.proofs.Totals.{total-ext, total-add, total-swap, total-none}
use Rattle.flow_net.proofs.Cut.{Cut, no_cut_below, scaled}

-- reached v i: the job of v at interval i was reached; near i: interval i was reached
pub record Closed (vcpus intervals cores : ℕ) (length : ℕ → ℕ) (flow : ℕ → ℕ → ℕ) (reached : ℕ → ℕ
    → Bool) (near : ℕ → Bool) : Type 0 where
  pub forth : (v i : ℕ) → v < vcpus → i < intervals → reached v i ≡ true → near i ≡ false
      → flow v i ≡ length i
  pub full : (i : ℕ) → i < intervals → near i ≡ true → total (λ v. flow v i) vcpus ≡ cores * length i
  pub back : (v i : ℕ) → v < vcpus → i < intervals → near i ≡ true → reached v i ≡ false → flow v i ≡ 0

-- one pair of a reached job: full, or near
part : (x y : Bool) (f l : ℕ) → (x ≡ true → y ≡ false → f ≡ l) → (y ≡ true → x ≡ false → f ≡ 0)
    → cond x f 0 ≡ cond y f 0 + cond x (cond y 0 l) 0
part true true f l p q = omega arith
part true false f l p q = omega (arith, p refl refl)
part false true f l p q = omega (arith, q refl refl)
part false false f l p q = omega arith

-- a near interval is used whole
interval_full : (y : Bool) (vcpus cores l : ℕ) (f : ℕ → ℕ) → (y ≡ true → total f vcpus ≡ cores * l)
    → total (λ v. cond y (f v) 0) vcpus ≡ cond y (cores * l) 0
interval_full true vcpus cores l f h = h refl
interval_full false vcpus cores l f h = total-none (λ v. 0) vcpus (λ k i. refl)

-- what the cores offer in a near interval, times the round
scaled_cond : (y : Bool) (cores l round : ℕ) → cond y (cores * l) 0 * round ≡ cond y ((cores * round) * l) 0
scaled_cond true cores l round = grind arith
scaled_cond false cores l round = zero-mul round

-- what a pair has in a near interval, times the round
scaled_pair : (x y : Bool) (l round : ℕ) → cond x (cond y 0 l) 0 * round ≡ cond x (cond y 0 (round * l)) 0
scaled_pair true true l round = zero-mul round
scaled_pair true false l round = mul_comm l round
scaled_pair false y l round = zero-mul round

-- reached jobs that are closed under all edges have as much as a cut allows
pub never_stuck : (vcpus intervals cores round : ℕ) (demand length : ℕ → ℕ) (flow : ℕ → ℕ
    → ℕ) (reached : ℕ → ℕ → Bool) (near : ℕ → Bool)
    → Cut vcpus intervals (cores * round) round demand length reached near
    → Closed vcpus intervals cores length flow reached near
    → total (λ v. total (λ i. cond (reached v i) (flow v i) 0) intervals) vcpus * round
    < total (λ v. total (λ i. cond (reached v i) (demand v * length i) 0) intervals) vcpus → ⊥
never_stuck vcpus intervals cores round demand length flow reached near cut closed lacks =
    let outside = λ (v : ℕ). total (λ i. cond (reached v i) (cond (near i) 0 (length i)) 0) intervals in
    let inner = λ (v : ℕ). total (λ i. cond (near i) (flow v i) 0) intervals in
    let split : total (λ v. total (λ i. cond (reached v i) (flow v i) 0) intervals) vcpus
    ≡ total (λ v. inner v + outside v) vcpus
    = total-ext _ _ vcpus (λ v h. total-ext _ _ intervals
    (λ i k. part (reached v i) (near i) (flow v i) (length i) (closed.forth v i h k)
    (closed.back v i h k))
    ∙ total-add (λ i. cond (near i) (flow v i) 0) (λ i. cond (reached v i) (cond (near i) 0 (length i)) 0)
    intervals) in
    let sums = total-add inner outside vcpus in
    let swapped = total-swap (λ v i. cond (near i) (flow v i) 0) intervals vcpus in
    let filled : total (λ i. total (λ v. cond (near i) (flow v i) 0) vcpus) intervals
    ≡ total (λ i. cond (near i) (cores * length i) 0) intervals
    = total-ext _ _ intervals (λ i k. interval_full (near i) vcpus cores (length i) (λ v. flow v i)
    (closed.full i k)) in
    let near_sum : total (λ i. cond (near i) ((cores * round) * length i) 0) intervals
    ≡ total (λ i. cond (near i) (cores * length i) 0) intervals * round
    = total-ext _ _ intervals (λ i k. sym (scaled_cond (near i) cores (length i) round))
    ∙ scaled (λ i. cond (near i) (cores * length i) 0) round intervals in
    let far_sum : total (λ v. total (λ i. cond (reached v i) (cond (near i) 0 (round * length i)) 0)
    intervals) vcpus ≡ total outside vcpus * round
    = total-ext _ _ vcpus (λ v h. total-ext _ _ intervals
    (λ i k. sym (scaled_pair (reached v i) (near i) (length i) round)) ∙ scaled
    (λ i. cond (reached v i) (cond (near i) 0 (length i)) 0) round intervals)
    ∙ scaled outside round vcpus in
    let bound = no_cut_below vcpus intervals (cores * round) round demand length reached near cut in
    let near_total = total (λ i. cond (near i) (cores * length i) 0) intervals in
    let flows = total (λ v. total (λ i. cond (reached v i) (flow v i) 0) intervals) vcpus in
    let same : flows ≡ near_total + total outside vcpus = omega (arith, split, sums, swapped, filled) in
    let scaled_same : flows * round ≡ (near_total + total outside vcpus) * round = ap (λ n. n * round) same in
    omega (
      arith,
      lacks,
      bound,
      near_sum,
      far_sum,
      scaled_same,
      add-mul near_total (total outside vcpus)
          round,
    )
