-- A flow in which no job needs more is an allotment.
use Rattle.std.proofs.Common.{◌≡◌, ℕ, ◌+◌, ◌*◌, ◌<◌, ◌≤◌, nat_lt, Bool, true, false, cond, List, map, refl, ap, sym, ◌∙◌, arith, ⊎_elim}
use Rattle.std.proofs.lemmas.Bool.{cases_lt}
use Rattle.std.proofs.lemmas.List.{length-map}
use Rattle.std.proofs.Math.Nat.{mul-le-mul_left}
use Rattle.tab_core.specs.declared.periodic.Periodic.{Periodic}
use Rattle.std.specs.Prelude.{Option}
use Rattle.tab_core.specs.Sums.{total}
use Rattle.flow_net.specs.Load.{Load, IsLoad, jobs}
use Rattle.flow_net.specs.Counts.{admitted, is_due, jobs_due, job_count}
use Rattle.flow_net.specs.Rows.{ticks_at}
use Rattle.flow_net.specs.Flows.{IsNet, all_lacks, lack_of}
use Rattle.flow_net.specs.Allotments.{AreMarks, IsAllotment, load_of_tasks, period_of_task, cost_of_task}
use Rattle.tab_core.proofs.Totals.{total-point, total-le}

-- what one more search adds to the steps, where each is paid by a tick less that is needed
pub step_cost : (s s' s0 e lacks lacks' lacks0 j : ℕ) (b : Bool) → (b ≡ true → lacks' + 1 ≡ lacks)
    → (b ≡ false → lacks' ≡ 0)
    → s' ≤ s + 2 * e → (b ≡ false → s' ≤ s + j) → s + 2 * e * lacks ≤ s0 + 2 * e * lacks0
    → s' + 2 * e * lacks' ≤ s0 + 2 * e * lacks0 + cond b 0 j
step_cost s s' s0 e lacks lacks' lacks0 j true less none cost last old =
    let product : 2 * e * lacks ≡ 2 * e * lacks' + 2 * e = ap (λ n. 2 * e * n) (sym (less refl))
    ∙ omega arith in
    omega (arith, product, cost, old)
step_cost s s' s0 e lacks lacks' lacks0 j false less none cost last old =
    let product : 2 * e * lacks' ≡ 0 = ap (λ n. 2 * e * n) (none refl) ∙ omega arith in
    omega (arith, product, last refl, old)

-- searches for all that is needed cost no more than two steps for each edge and pair
pub all_cost : (s s0 e pairs j lacks : ℕ) → lacks + j ≤ pairs → j ≤ e → s ≤ s0 + 2 * e * lacks + j
    → s ≤ s0 + 2 * pairs * e
all_cost s s0 e pairs j lacks most few cost =
    let turned : 2 * e * pairs ≡ 2 * pairs * e = omega arith in
    ⊎_elim
    (λ (some : 0 < j). omega (
      arith,
      cost,
      few,
      turned,
      mul-le-mul_left {m = lacks + 1} {n =
          pairs} (2 * e) (omega (arith, most, some)),
    ))
    (λ (none : j ≤ 0). omega (
      arith,
      cost,
      none,
      turned,
      mul-le-mul_left {m = lacks} {n =
          pairs} (2 * e) (omega (arith, most)),
    ))
    (cases_lt 0 j)

-- where all jobs together need nothing more, none does
pub zero_lack : (l : Load) (lacks : List (List ℕ)) → all_lacks l lacks ≡ 0 → (v k : ℕ) → v < l.width
    → k < jobs l v → ticks_at lacks v k ≡ 0
zero_lack l lacks none v k h lt =
    omega (
      arith,
      total-point (lack_of lacks v) (jobs l v) k lt,
      total-point
          (λ w. total (lack_of lacks w) (jobs l w)) l.width v h,
      none,
    )

-- a flow in which no job needs more is an allotment
pub allotted : (tasks : List (Option Periodic)) (marks : List ℕ) (cores : ℕ) (rows lacks : List (List ℕ))
    (room : List ℕ)
    → AreMarks (map period_of_task tasks) marks
    → IsNet (load_of_tasks tasks marks cores) rows lacks room (load_of_tasks tasks marks cores).count
    → all_lacks (load_of_tasks tasks marks cores) lacks ≡ 0
    → IsAllotment tasks cores (record { marks = marks; ticks = rows })
allotted tasks marks cores rows lacks room are net none =
    let l = load_of_tasks tasks marks cores in
    let n = length-map tasks cost_of_task in
    record {
      marks = are;
      rows = net.rows_len;
      widths = λ i h. net.row_len i (omega (arith, h, net.rows_len)) ∙ n;
      short = λ v i h a. net.flow.short v i (omega (arith, h, n)) (omega (arith, a, net.rows_len));
      serves = λ v k h lt. omega (
        arith,
        net.flow.due v k (omega (arith, h, n)) lt,
        zero_lack l lacks none v k
            (omega (arith, h, n)) lt,
      );
      fits = λ i a. omega (arith, net.flow.fits i (omega (arith, a, net.rows_len)));
    }

-- each admitted vCPU has a job
pub few_admitted : (l : Load) → IsLoad l → admitted l ≤ job_count l
few_admitted l ok = total-le (is_due l) (jobs_due l) l.width (λ v h.
    let some : 0 < jobs l v = ⊎_elim (λ (x : 0 < jobs l v). x)
    (λ (x : jobs l v ≤ 0). let e : jobs l v
    ≡ 0 = omega arith in absurd (omega (arith, ok.whole v h, ap (λ n. l.period v * n) e, ok.some_round)))
    (cases_lt 0 (jobs l v)) in
    elim (nat_lt 0 (l.cost v)) as (λ b. cond b 1 0
    ≤ cond b (jobs l v) 0) [ true ↦ omega (arith, some) | false ↦ omega arith ])

-- the first search, the handing out and the other searches together
pub saturate_cost : (s0 s1 s2 s3 k i j lacks0 lacks1 lacks2 : ℕ) → lacks1 + 1 ≡ lacks0 → lacks2 ≤ lacks1
    → lacks0 + j ≤ k * i → k ≤ j
    → s1 ≤ s0 + 2 * (j + k * i + i) → s2 ≤ s1 + i * (2 * k + 1) → s3 ≤ s2 + 2 * (j + k * i + i) * lacks2 + j
    → s3 ≤ s0 + 2 * (k * i) * (j + k * i + i)
saturate_cost s0 s1 s2 s3 k i j lacks0 lacks1 lacks2 less less' most few cost cost' cost'' =
    let pairs = k * i in
    let e = j + pairs + i in
    let filled : i * (2 * k + 1) ≡ 2 * pairs + i = omega arith in
    let some : 1 ≤ j = ⊎_elim (λ (x : 0 < j). omega (arith, x))
    (λ (x : j ≤ 0). let z : k ≡ 0 = omega (arith, few, x) in absurd
    (omega (arith, ap (λ n. n * i) z, most, less))) (cases_lt 0 j) in
    let up = mul-le-mul_left {m = lacks2 + 1 + 1} {n =
    pairs} (2 * e) (omega (arith, less, less', most, some)) in
    let turned : 2 * e * pairs ≡ 2 * pairs * e = omega arith in
    let spread : 2 * e * (lacks2 + 1 + 1) ≡ 2 * e * lacks2 + 2 * e + 2 * e = omega arith in
    omega (arith, cost, cost', cost'', filled, up, turned, spread)
