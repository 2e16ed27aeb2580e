-- A search from a job that still needs ticks reaches an interval with room.
use Rattle.std.proofs.Common.{◌≡◌, ℕ, ◌+◌, ◌*◌, ◌<◌, ◌≤◌, ◌==◌, Bool, true, false, cond, ap, refl, sym, ◌∙◌, arith, inl, inr}
use Rattle.std.proofs.lemmas.Bool.{cases_eq, ne_eqb, cond-false}
use Rattle.std.proofs.Math.Nat.{mul-le-mul_right}
use Rattle.tab_core.specs.Sums.{total}
use Rattle.flow_net.specs.Load.{Load, IsLoad, IsFlow, span, job, jobs, round_demand, given, over_job}
use Rattle.tab_core.proofs.Totals.{total-ext, total-le, total-lt, total-scale, total-none}
use Rattle.flow_net.proofs.Spans.{by_jobs, window_of, window_job, spans_fill, job_in}
use Rattle.flow_net.proofs.Cut.{scaled}
use Rattle.flow_net.proofs.Stuck.{never_stuck}

-- the part of a function that is inside a set of jobs
abbrev pub inside : (ℕ → ℕ → Bool) → (ℕ → ℕ → ℕ) → ℕ → ℕ → ℕ
inside seen f v i = cond (seen v i) (f v i) 0

-- what a search that found no room has reached
pub record IsStuck (l : Load) (f lack : ℕ → ℕ → ℕ) (room : ℕ → ℕ) (seen : ℕ → ℕ → Bool) (near : ℕ
    → Bool) (v i : ℕ) : Type 0 where
  pub forth : (w j : ℕ) → w < l.width → j < l.count → seen w j ≡ true → near j ≡ false → f w j ≡ span l j
  pub full : (j : ℕ) → j < l.count → near j ≡ true → room j ≡ 0
  pub back : (w j : ℕ) → w < l.width → j < l.count → near j ≡ true → seen w j ≡ false → f w j ≡ 0
  pub jobwise : (w j n : ℕ) → w < l.width → j < l.count → n < l.count → job l w j ≡ job l w n
      → seen w j ≡ seen w n
  pub vcpu : v < l.width
  pub interval : i < l.count
  pub root : seen v i ≡ true
  pub lacks : 0 < lack v (job l v i)

-- a job that is inside as a whole
whole_inside : (l : Load) (seen : ℕ → ℕ → Bool) (f : ℕ → ℕ → ℕ) (v k : ℕ) (b : Bool)
    → ((i : ℕ) → i < l.count → job l v i ≡ k → seen v i ≡ b)
    → over_job l v k (inside seen f v) ≡ cond b (over_job l v k (f v)) 0
whole_inside l seen f v k b all =
    let same : over_job l v k (inside seen f v) ≡ over_job l v k (λ i. cond b (f v i) 0)
    = total-ext (λ i. cond (job l v i == k) (inside seen f v i) 0)
    (λ i. cond (job l v i == k) (cond b (f v i) 0) 0) l.count
    (λ i h. elim (cases_eq (job l v i) k) [
      | inl e ↦ ap (λ c. cond (job l v i == k) (cond c (f v i) 0) 0) (all i h e)
      | inr ne ↦ cond-false (job l v i == k) (inside seen f v i) 0 (ne_eqb (job l v i) k ne)
          ∙ sym (cond-false (job l v i == k) (cond b (f v i) 0) 0 (ne_eqb (job l v i) k ne))
    ]) in
    same ∙ elim b as (λ b. over_job l v k (λ i. cond b (f v i) 0) ≡ cond b (over_job l v k (f v)) 0) [
      | true ↦ refl
      | false ↦ total-none (λ i. cond (job l v i == k) 0 0) l.count
          (λ i h. elim (job l v i == k) as (λ c. ◌≡◌ {A = ℕ} (cond c 0 0) 0) [ true ↦ refl | false ↦ refl ])
    ]

-- all that the fluid schedule gives a job
pub fluid_job : (l : Load) → IsLoad l → (v k : ℕ) → v < l.width → k < jobs l v
    → over_job l v k (λ i. round_demand l v * span l i) ≡ l.cost v * l.round
fluid_job l ok v k h lt =
    let d = round_demand l v in
    let inner : over_job l v k (λ i. d * span l i)
    ≡ total (λ i. d * cond (job l v i == k) (span l i) 0) l.count
    = total-ext (λ i. cond (job l v i == k) (d * span l i) 0) (λ i. d * cond (job l v i == k) (span l i) 0)
    l.count
    (λ i _. elim (job l v i == k) as (λ c. cond c (d * span l i) 0
    ≡ d * cond c (span l i) 0) [ true ↦ refl | false ↦ omega arith ]) in
    let all = total-scale d (λ i. cond (job l v i == k) (span l i) 0) l.count in
    let filled = ap (λ n. d * n) (spans_fill l ok v k h lt) in
    let turned : d * l.period v ≡ l.cost v * (l.period v * jobs l v) = omega arith in
    inner ∙ all ∙ filled ∙ turned ∙ ap (λ n. l.cost v * n) (ok.whole v h)

-- per job, what is inside gets at most its fluid share
job_inside : (l : Load) (f lack : ℕ → ℕ → ℕ) (room : ℕ → ℕ) (seen : ℕ → ℕ → Bool) (near : ℕ
    → Bool) (v i : ℕ) → IsLoad l
    → IsFlow l f lack room l.count → IsStuck l f lack room seen near v i → (w k : ℕ) → w < l.width
    → k < jobs l w
    → over_job l w k (inside seen f w) * l.round
    ≤ over_job l w k (inside seen (λ u j. round_demand l u * span l j) w)
job_inside l f lack room seen near v i ok flow s w k h lt =
    let o = window_of l ok w k h lt in
    let in_round : o.0 < l.count = omega (arith, o.2.some, o.2.in_round) in
    let b = seen w o.0 in
    let all : (j : ℕ) → j < l.count → job l w j ≡ k → seen w j ≡ b
    = λ j a e. s.jobwise w j o.0 h a in_round (e
    ∙ sym (window_job l ok w k o.0 o.1 o.0 o.2 (omega arith) o.2.some)) in
    let left = whole_inside l seen f w k b all in
    let right = whole_inside l seen (λ u j. round_demand l u * span l j) w k b all in
    let most : given l f w k * l.round
    ≤ l.cost w * l.round = mul-le-mul_right l.round (omega (arith, flow.due w k h lt)) in
    let middle : cond b (over_job l w k (f w)) 0 * l.round
    ≤ cond b (over_job l w k (λ j. round_demand l w * span l j)) 0
    = elim b as (λ b. cond b (over_job l w k (f w)) 0 * l.round
    ≤ cond b (over_job l w k (λ j. round_demand l w * span l j)) 0) [
      | true ↦ omega (arith, most, fluid_job l ok w k h lt)
      | false ↦ omega arith
    ] in
    rw left (rw right middle)

-- a reached job that still needs ticks has less than its share in the near intervals
job_lacks : (l : Load) (f lack : ℕ → ℕ → ℕ) (room : ℕ → ℕ) (seen : ℕ → ℕ → Bool) (near : ℕ
    → Bool) (v i : ℕ) → IsLoad l
    → IsFlow l f lack room l.count → IsStuck l f lack room seen near v i
    → over_job l v (job l v i) (inside seen f v) * l.round
    < over_job l v (job l v i) (inside seen (λ u j. round_demand l u * span l j) v)
job_lacks l f lack room seen near v i ok flow s =
    let k = job l v i in
    let lt = job_in l ok v i s.vcpu s.interval in
    let all : (j : ℕ) → j < l.count → job l v j ≡ k → seen v j ≡ true
    = λ j a e. s.jobwise v j i s.vcpu a s.interval e ∙ s.root in
    let left : over_job l v k (inside seen f v) ≡ given l f v k = whole_inside l seen f v k true all in
    let right : over_job l v k (inside seen (λ u j. round_demand l u * span l j) v) ≡ l.cost v * l.round
    = whole_inside l seen (λ u j. round_demand l u * span l j) v k true all ∙ fluid_job l ok v k s.vcpu lt in
    let due = flow.due v k s.vcpu lt in
    let more : (given l f v k + 1) * l.round
    ≤ l.cost v * l.round = mul-le-mul_right l.round (omega (arith, due, s.lacks)) in
    let strict : given l f v k * l.round < l.cost v * l.round = omega (arith, more, ok.some_round) in
    rw left (rw right strict)

-- a search that has read all edges of what it reached has found room
pub never_stuck_here : (l : Load) (f lack : ℕ → ℕ → ℕ) (room : ℕ → ℕ) (seen : ℕ → ℕ → Bool) (near : ℕ
    → Bool) (v i : ℕ) → IsLoad l
    → total (round_demand l) l.width ≤ l.cores * l.round → IsFlow l f lack room l.count
    → IsStuck l f lack room seen near v i → ⊥
never_stuck_here l f lack room seen near v i ok fits flow s =
    let fluid_all = λ (u j : ℕ). round_demand l u * span l j in
    let per_vcpu : (w : ℕ) → w < l.width
    → total (inside seen f w) l.count * l.round ≤ total (inside seen fluid_all w) l.count
    = λ w h.
    let each = total-le (λ k. over_job l w k (inside seen f w) * l.round)
    (λ k. over_job l w k (inside seen fluid_all w)) (jobs l w)
    (λ k lt. job_inside l f lack room seen near v i ok flow s w k h lt) in
    omega (
      arith,
      each,
      scaled (λ k. over_job l w k (inside seen f w)) l.round (jobs l w),
      ap (λ n. n * l.round) (by_jobs l ok w h (inside seen f w)),
      by_jobs l ok w h (inside seen fluid_all w),
    ) in
    let at_root : total (inside seen f v) l.count * l.round < total (inside seen fluid_all v) l.count
    = let each = total-lt (λ k. over_job l v k (inside seen f v) * l.round)
    (λ k. over_job l v k (inside seen fluid_all v)) (jobs l v)
    (job l v i) (λ k lt. job_inside l f lack room seen near v i ok flow s v k s.vcpu lt)
    (job_in l ok v i s.vcpu s.interval)
    (job_lacks l f lack room seen near v i ok flow s) in
    omega (
      arith,
      each,
      scaled (λ k. over_job l v k (inside seen f v)) l.round (jobs l v),
      ap (λ n. n * l.round) (by_jobs l ok v s.vcpu (inside seen f v)),
      by_jobs l ok v s.vcpu (inside seen fluid_all v),
    ) in
    let all = total-lt (λ w. total (inside seen f w) l.count * l.round)
    (λ w. total (inside seen fluid_all w) l.count) l.width v per_vcpu s.vcpu at_root in
    never_stuck l.width l.count l.cores l.round (round_demand l) (span l) f seen near
    (record {
      fits = fits;
      single = λ w h. (let m = mul-le-mul_right (jobs l w) (ok.within w h) in omega (arith, m, ok.whole w h));
    })
    (record {
      forth = s.forth;
      full = λ j h n. (let r = s.full j h n in omega (
        arith,
        flow.fits j h,
        r,
        cond-false {A =
            ℕ} (l.count == j) 1 0 (ne_eqb l.count j (λ e. omega arith)),
      ));
      back = s.back;
    })
    (omega (arith, all, scaled (λ w. total (inside seen f w) l.count) l.round l.width))
