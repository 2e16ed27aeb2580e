-- No cut of jobs against intervals is below the sum of the jobs' costs.
use Rattle.std.proofs.Common.{◌≡◌, ℕ, ◌+◌, ◌*◌, ◌<◌, ◌≤◌, ◌==◌, Bool, true, false, cond, ap, refl, sym, ◌∙◌, arith, inl, inr}
use Rattle.std.proofs.lemmas.Bool.{cases_eq, cond-false, ne_eqb}
use Rattle.std.proofs.Math.Nat.{mul_comm, add-mul, zero-mul, mul-le-mul_right, le_of_mul-le-mul_right}
use Rattle.tab_core.specs.Sums.{total}
use Rattle.flow_net.specs.Load.{Load, IsLoad, span, job, jobs, round_demand, over_job}
use Rattle.flow_net.specs.Flows.{FitsCores}
use Rattle.tab_core.proofs.Totals.{total-ext, total-none}
use Rattle.flow_net.proofs.Cut.{no_cut_below, scaled}
use Rattle.flow_net.proofs.Spans.{by_jobs}
use Rattle.flow_net.proofs.Ends.{fluid_job}

-- the part of a job's fluid share that is chosen
chosen_job : (l : Load) → IsLoad l → (b : ℕ → Bool) (v k : ℕ) → v < l.width → k < jobs l v
    → over_job l v k (λ i. cond (b (job l v i)) (round_demand l v * span l i) 0) ≡ cond (b k) (l.cost v) 0 * l.round
chosen_job l ok b v k h lt =
    let f = λ (i : ℕ). round_demand l v * span l i in
    let same : over_job l v k (λ i. cond (b (job l v i)) (f i) 0) ≡ over_job l v k (λ i. cond (b k) (f i) 0)
    = total-ext _ _ l.count (λ i _. elim (cases_eq (job l v i) k) [
      | inl e ↦ ap (λ m. cond (job l v i == k) (cond (b m) (f i) 0) 0) e
      | inr ne ↦ cond-false (job l v i == k) (cond (b (job l v i)) (f i) 0) 0 (ne_eqb (job l v i) k ne)
          ∙ sym (cond-false (job l v i == k) (cond (b k) (f i) 0) 0 (ne_eqb (job l v i) k ne))
    ]) in
    same ∙ elim (b k) as (λ c. over_job l v k (λ i. cond c (f i) 0) ≡ cond c (l.cost v) 0 * l.round) [
      | true ↦ fluid_job l ok v k h lt
      | false ↦ total-none (λ i. cond (job l v i == k) 0 0) l.count
          (λ i _. elim (job l v i == k) as (λ c. ◌≡◌ {A =
          ℕ} (cond c 0 0) 0) [ true ↦ refl | false ↦ refl ]) ∙ sym (zero-mul l.round)
    ]

-- what the cores offer in a chosen interval, times the round
near_scaled : (y : Bool) (cores round s : ℕ) → cond y ((cores * round) * s) 0 ≡ cond y (cores * s) 0 * round
near_scaled true cores round s = grind arith
near_scaled false cores round s = sym (zero-mul round)

-- what a chosen job has in another interval, times the round
far_scaled : (x y : Bool) (round s : ℕ) → cond x (cond y 0 (round * s)) 0 ≡ cond x (cond y 0 s) 0 * round
far_scaled true true round s = sym (zero-mul round)
far_scaled true false round s = mul_comm round s
far_scaled false y round s = sym (zero-mul round)

-- no cut of a load is below the sum of its costs
pub cut_is_enough : (l : Load) → IsLoad l → FitsCores l → (chosen : ℕ → ℕ → Bool) (near : ℕ → Bool)
    → total (λ v. total (λ k. cond (chosen v k) (l.cost v) 0) (jobs l v)) l.width
    ≤ total (λ i. cond (near i) (l.cores * span l i) 0) l.count
    + total (λ v. total (λ i. cond (chosen v (job l v i)) (cond (near i) 0 (span l i)) 0) l.count) l.width
cut_is_enough l ok fits chosen near =
    let cut = no_cut_below l.width l.count (l.cores * l.round) l.round (round_demand l) (span l)
    (λ v i. chosen v (job l v i)) near (record {
      fits = fits;
      single = λ w h. (let m = mul-le-mul_right (jobs l w) (ok.within w h) in omega (arith, m, ok.whole w h));
    }) in
    let costs = λ (v : ℕ). total (λ k. cond (chosen v k) (l.cost v) 0) (jobs l v) in
    let left : total (λ v. total (λ i. cond (chosen v (job l v i)) (round_demand l v * span l i) 0) l.count) l.width
    ≡ total costs l.width * l.round
    = total-ext _ _ l.width (λ v h. sym
    (by_jobs l ok v h (λ i. cond (chosen v (job l v i)) (round_demand l v * span l i) 0))
    ∙ total-ext _ _ (jobs l v) (λ k lt. chosen_job l ok (chosen v) v k h lt)
    ∙ scaled (λ k. cond (chosen v k) (l.cost v) 0) l.round (jobs l v))
    ∙ scaled costs l.round l.width in
    let ins = λ (i : ℕ). cond (near i) (l.cores * span l i) 0 in
    let outs = λ (v : ℕ). total (λ i. cond (chosen v (job l v i)) (cond (near i) 0 (span l i)) 0) l.count in
    let right : total (λ i. cond (near i) ((l.cores * l.round) * span l i) 0) l.count
    ≡ total ins l.count * l.round
    = total-ext _ _ l.count (λ i _. near_scaled (near i) l.cores l.round (span l i))
    ∙ scaled ins l.round l.count in
    let far : total (λ v. total (λ i. cond (chosen v (job l v i)) (cond (near i) 0 (l.round * span l i)) 0)
    l.count) l.width ≡ total outs l.width * l.round
    = total-ext _ _ l.width (λ v _. total-ext _ _ l.count
    (λ i _. far_scaled (chosen v (job l v i)) (near i) l.round (span l i))
    ∙ scaled (λ i. cond (chosen v (job l v i)) (cond (near i) 0 (span l i)) 0) l.round l.count)
    ∙ scaled outs l.round l.width in
    le_of_mul-le-mul_right {k = l.round}
    (omega (arith, cut, left, right, far, add-mul (total ins l.count) (total outs l.width) l.round))
    ok.some_round
