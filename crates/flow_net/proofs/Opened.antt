-- What the opening flow gives, and how little is still needed.
use Rattle.std.proofs.Common.{◌≡◌, ℕ, ◌+◌, ◌-◌, ◌*◌, ◌<◌, ◌≤◌, ◌==◌, nat_lt, cond, List, ap, ◌∙◌, arith, ⊎_elim}
use Rattle.std.proofs.lemmas.Bool.{cases_lt, cond-true, cond-false, lt-ltb, le-ltb}
use Rattle.std.proofs.lemmas.Nat.{mul-le}
use Rattle.tab_core.specs.declared.TheConstants.{MAX_CORES, ROUND}
use Rattle.flow_net.specs.declared.demands.Demands.{Demands}
use Rattle.flow_net.specs.Inside.Demanded.{load}
use Rattle.tab_core.specs.Sums.{total}
use Rattle.flow_net.specs.Load.{Load, IsLoad, job, jobs, given, span, used, over_job}
use Rattle.flow_net.specs.Flows.{all_lacks, lack_of, flow_of, fluid, FitsCores}
use Rattle.flow_net.specs.Counts.{admitted, is_due, jobs_due, job_count}
use Rattle.tab_core.proofs.Totals.{total-ext, total-le, total-add, total-none, total-const}
use Rattle.flow_net.proofs.Cut.{scaled}
use Rattle.flow_net.proofs.Nets.{span_le}
use Rattle.flow_net.proofs.Spans.{by_jobs}
use Rattle.flow_net.proofs.Fluid.{fluid_given, fluid_used}

-- the flow is the opening one
abbrev IsOpen : Load → (ℕ → ℕ → ℕ) → Type 0
IsOpen l f = (v i : ℕ) → v < l.width → i < l.count → f v i ≡ fluid l v i

-- a job gets from the opening flow what the fluid schedule gives it in whole ticks
opened_given : (l : Load) (f : ℕ → ℕ → ℕ) → IsOpen l f → (v k : ℕ) → v < l.width
    → given l f v k ≡ given l (fluid l) v k
opened_given l f o v k h = total-ext _ _ l.count (λ i lt. ap (λ n. cond (job l v i == k) n 0) (o v i h lt))

-- which is at most its cost
pub opened_most : (l : Load) → IsLoad l → (f : ℕ → ℕ → ℕ) → IsOpen l f → (v k : ℕ) → v < l.width
    → k < jobs l v → given l f v k ≤ l.cost v
opened_most l ok f o v k h lt = omega (arith, opened_given l f o v k h, (fluid_given l ok v k h lt).0)

-- the intervals have room for the opening flow
pub opened_used : (l : Load) → IsLoad l → (f : ℕ → ℕ → ℕ) → FitsCores l → IsOpen l f → (i : ℕ) → i < l.count
    → used l f i ≤ l.cores * (l.mark (i + 1) - l.mark i)
opened_used l ok f fits o i h =
    let same : used l f i
    ≡ used l (fluid l) i = total-ext (λ v. f v i) (λ v. fluid l v i) l.width (λ v a. o v i a h) in
    omega (arith, same, fluid_used l ok fits i)

-- a vCPU still needs less than a tick in each interval
vcpu_lacks : (l : Load) → IsLoad l → (f lack : ℕ → ℕ → ℕ) → IsOpen l f
    → ((v k : ℕ) → v < l.width → k < jobs l v → lack v k + given l f v k ≡ l.cost v)
    → (v : ℕ) → v < l.width → total (lack v) (jobs l v) + jobs_due l v ≤ is_due l v * l.count
vcpu_lacks l ok f lack o due v h =
    ⊎_elim
    (λ (some : 0 < l.cost v).
    let each = total-le (λ k. lack v k + 1) (λ k. over_job l v k (λ i. 1)) (jobs l v)
    (λ k lt. omega (arith, due v k h lt, opened_given l f o v k h, (fluid_given l ok v k h lt).1)) in
    let sum = total-add (lack v) (λ k. 1) (jobs l v) in
    let ones = total-const 1 (jobs l v) in
    let all = by_jobs l ok v h (λ i. 1) in
    let count = total-const 1 l.count in
    let one : is_due l v ≡ 1 = cond-true {A = ℕ} (nat_lt 0 (l.cost v)) 1 0 (lt-ltb 0 (l.cost v) some) in
    let own : jobs_due l v
    ≡ jobs l v = cond-true (nat_lt 0 (l.cost v)) (jobs l v) 0 (lt-ltb 0 (l.cost v) some) in
    let product : is_due l v * l.count ≡ l.count = ap (λ n. n * l.count) one ∙ omega arith in
    omega (arith, each, sum, ones, all, count, own, product))
    (λ (none : l.cost v ≤ 0).
    let zero_lacks = total-none (lack v) (jobs l v) (λ k lt. omega (arith, due v k h lt, none)) in
    let own : jobs_due l v ≡ 0 = cond-false (nat_lt 0 (l.cost v)) (jobs l v) 0 (le-ltb 0 (l.cost v) none) in
    omega (arith, zero_lacks, own))
    (cases_lt 0 (l.cost v))

-- all jobs still need less than a tick for each pair, and each job one tick less than that
pub opened_lacks : (l : Load) → IsLoad l → (rows lacks : List (List ℕ)) → IsOpen l (flow_of rows)
    → ((v k : ℕ) → v < l.width → k < jobs l v → lack_of lacks v k + given l (flow_of rows) v k ≡ l.cost v)
    → all_lacks l lacks + job_count l ≤ admitted l * l.count
opened_lacks l ok rows lacks o due =
    let each = total-le (λ v. total (lack_of lacks v) (jobs l v)
    + jobs_due l v) (λ v. is_due l v * l.count) l.width
    (λ v h. vcpu_lacks l ok (flow_of rows) (lack_of lacks) o due v h) in
    omega (
      arith,
      each,
      total-add (λ v. total (lack_of lacks v) (jobs l v)) (jobs_due l) l.width,
      scaled
          (is_due l) l.count l.width,
    )

-- what the cores offer in an interval is small
pub offered : (d : Demands) (i n : ℕ) → i < (load d).count → n ≡ span (load d) i
    → d.cores * n ≤ MAX_CORES * ROUND
offered d i n h e = mul-le d.cores n MAX_CORES ROUND d.few_cores (omega (arith, e, span_le (load d) d.ok i h))
