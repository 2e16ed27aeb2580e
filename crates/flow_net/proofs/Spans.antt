-- The intervals of a job fill its period.
use Rattle.std.proofs.Common.{◌≡◌, ℕ, zero, suc, ◌+◌, ◌-◌, ◌*◌, ◌<◌, ◌≤◌, ◌==◌, cond, ap, refl, sym, subst, ◌∙◌, arith, ⊎_elim}
use Rattle.std.proofs.lemmas.Bool.{cases_lt, eq-eqb, ne_eqb, cond-true, cond-false}
use Rattle.std.proofs.Math.Nat.{le-div_iff_mul-le, div-mul-le_self, mul-le-mul_left, mul-le-mul_right, mul_comm}
use Rattle.tab_core.specs.Sums.{total}
use Rattle.flow_net.specs.Load.{Load, IsLoad, span, job, jobs, over_job, Window}
use Rattle.tab_core.proofs.Totals.{total-ext, total-split, total-none, total-swap, total-pick, total-point}

-- marks rise
pub marks_rise : (l : Load) → IsLoad l → (i n : ℕ) → i + n ≤ l.count → l.mark i ≤ l.mark (i + n)
marks_rise l ok i zero h = let e : i + 0 ≡ i = omega arith in rw e (omega arith)
marks_rise l ok i (suc n) h =
    let e : i + suc n ≡ i + n + 1 = omega arith in
    rw e (omega (arith, marks_rise l ok i n (omega arith), ok.rise (i + n) (omega arith)))

-- an earlier mark is no later
pub marks_le : (l : Load) → IsLoad l → (i j : ℕ) → i ≤ j → j ≤ l.count → l.mark i ≤ l.mark j
marks_le l ok i j le h =
    let e : i + (j - i) ≡ j = omega arith in
    subst (λ n. l.mark i ≤ l.mark n) e (marks_rise l ok i (j - i) (omega arith))

-- an earlier mark is less than that of another place
pub marks_lt : (l : Load) → IsLoad l → (i j : ℕ) → i < j → j ≤ l.count → l.mark i < l.mark j
marks_lt l ok i j lt h = omega (arith, ok.rise i (omega arith), marks_le l ok (i + 1) j (omega arith) h)

-- the order of marks is that of their places
pub place_lt : (l : Load) → IsLoad l → (i j : ℕ) → i ≤ l.count → l.mark i < l.mark j → i < j
place_lt l ok i j h lt = ⊎_elim (λ (x : i < j). x) (λ (x : j
    ≤ i). absurd (omega (arith, marks_le l ok j i x h))) (cases_lt i j)

-- the order of places is that of their marks
pub place_le : (l : Load) → IsLoad l → (i j : ℕ) → i ≤ l.count → l.mark i ≤ l.mark j → i ≤ j
place_le l ok i j h le =
    ⊎_elim (λ (x : j < i). absurd (omega (arith, marks_lt l ok j i x h))) (λ (x : i ≤ j). x) (cases_lt j i)

-- each interval has a tick
pub span_pos : (l : Load) → IsLoad l → (i : ℕ) → i < l.count → 0 < span l i
span_pos l ok i h = omega (arith, ok.rise i h)

-- neighbouring intervals add up
pub spans_sum : (l : Load) → IsLoad l → (a n : ℕ) → a + n ≤ l.count
    → total (λ j. span l (a + j)) n + l.mark a ≡ l.mark (a + n)
spans_sum l ok a zero h = let e : a + 0 ≡ a = omega arith in rw e (omega arith)
spans_sum l ok a (suc n) h =
    let e : a + suc n ≡ a + n + 1 = omega arith in
    rw e (omega (arith, spans_sum l ok a n (omega arith), ok.rise (a + n) (omega arith)))

-- the place in its period
pub job_is : (l : Load) → IsLoad l → (v i k : ℕ) → v < l.width → k * l.period v ≤ l.mark i
    → l.mark i < (k + 1) * l.period v → job l v i ≡ k
job_is l ok v i k h from until =
    let some = ok.some_period v h in
    let up = (le-div_iff_mul-le {k = l.period v} {x = k} {y = l.mark i} some).1 from in
    let down = div-mul-le_self (l.mark i) (l.period v) in
    ⊎_elim (λ (x : job l v i < k + 1). omega arith)
    (λ (x : k + 1 ≤ job l v i). absurd (omega (arith, down, until, mul-le-mul_right (l.period v) x)))
    (cases_lt (job l v i) (k + 1))

-- an interval begins within the period of its job
pub job_from : (l : Load) → IsLoad l → (v i : ℕ) → v < l.width → job l v i * l.period v ≤ l.mark i
job_from l ok v i h = div-mul-le_self (l.mark i) (l.period v)

-- before that period ends
pub job_until : (l : Load) → IsLoad l → (v i : ℕ) → v < l.width → l.mark i < (job l v i + 1) * l.period v
job_until l ok v i h =
    ⊎_elim (λ (x : l.mark i < (job l v i + 1) * l.period v). x)
    (λ (x : (job l v i + 1) * l.period v ≤ l.mark i).
    absurd (omega (
      arith,
      (le-div_iff_mul-le {k = l.period v} {x = job l v i + 1} {y =
          l.mark i} (ok.some_period v h)).1 x,
    )))
    (cases_lt (l.mark i) ((job l v i + 1) * l.period v))

-- it is one of the round's jobs
pub job_in : (l : Load) → IsLoad l → (v i : ℕ) → v < l.width → i < l.count → job l v i < jobs l v
job_in l ok v i h lt =
    ⊎_elim (λ (x : job l v i < jobs l v). x)
    (λ (x : jobs l v ≤ job l v i).
    absurd (omega (
      arith,
      job_from l ok v i h,
      mul-le-mul_right (l.period v) x,
      ok.whole v h,
      ok.last,
      marks_lt l ok i l.count lt (omega arith),
    )))
    (cases_lt (job l v i) (jobs l v))

-- the interval that holds a tick
pub holds : (l : Load) → IsLoad l → (x n : ℕ) → x < l.mark n
    → (i : ℕ) × (i < n) × (l.mark i ≤ x) × (x < l.mark (i + 1))
holds l ok x zero h = absurd (omega (arith, ok.first))
holds l ok x (suc n) h =
    ⊎_elim
    (λ (lt : x < l.mark n). let s = holds l ok x n lt in (s.0, omega (arith, s.1), s.2, s.3))
    (λ (ge : l.mark n ≤ x). let e : suc n
    ≡ n + 1 = omega arith in let h' : x < l.mark (n + 1) = rw e at h in (n, omega arith, ge, h'))
    (cases_lt x (l.mark n))

-- the ends of periods are marks
pub listed : (l : Load) → IsLoad l → (v k : ℕ) → v < l.width → k ≤ jobs l v
    → (i : ℕ) × (i ≤ l.count) × (l.mark i ≡ k * l.period v)
listed l ok v k h le =
    ⊎_elim
    (λ (lt : k < jobs l v).
    let before : k * l.period v < l.round
    = omega (
      arith,
      mul-le-mul_right (l.period v) (let q : k + 1
          ≤ jobs l v = omega arith in q),
      ok.whole v h,
      ok.some_period v h,
    ) in
    let s = holds l ok (k * l.period v) l.count (omega (arith, before, ok.last)) in
    let i = s.0 in
    let low = job_from l ok v i h in
    let up = ok.inside v i h s.1 in
    let same : job l v i ≡ k
    = ⊎_elim
    (λ (a : job l v i < k). absurd (omega
    (arith, s.3, up, mul-le-mul_right (l.period v) (let q : job l v i + 1 ≤ k = omega arith in q))))
    (λ (a : k ≤ job l v i). ⊎_elim
    (λ (b : k < job l v i). absurd (omega (
      arith,
      s.2,
      low,
      ok.some_period v h,
      mul-le-mul_right (l.period v)
          (let q : k + 1 ≤ job l v i = omega arith in q),
    )))
    (λ (b : job l v i ≤ k). omega arith)
    (cases_lt k (job l v i)))
    (cases_lt (job l v i) k) in
    let low' : k * l.period v ≤ l.mark i = rw same at low in
    (i, omega (arith, s.1), omega (arith, s.2, low')))
    (λ (ge : jobs l v ≤ k).
    let e : k ≡ jobs l v = omega arith in (
      l.count,
      omega arith,
      ok.last ∙ sym (ok.whole v h) ∙ mul_comm (l.period v) (jobs l v)
          ∙ ap (λ n. n * l.period v) (sym e),
    ))
    (cases_lt k (jobs l v))

-- each job has its intervals
pub window_of : (l : Load) → IsLoad l → (v k : ℕ) → v < l.width → k < jobs l v
    → (i : ℕ) × (j : ℕ) × Window l v k i j
window_of l ok v k h lt =
    let a = listed l ok v k h (omega arith) in
    let b = listed l ok v (k + 1) h (omega arith) in
    let some = ok.some_period v h in (
      a.0,
      b.0,
      record {
        vcpu = h;
        from = a.2;
        until = b.2;
        in_round = b.1;
        some = place_lt l ok a.0 b.0 a.1 (omega (arith, a.2, b.2, some));
      },
    )

-- those are of this job
pub window_job : (l : Load) → IsLoad l → (v k i j n : ℕ) → Window l v k i j → i ≤ n → n < j → job l v n ≡ k
window_job l ok v k i j n w from until =
    job_is l ok v n k w.vcpu
    (omega (arith, w.from, w.in_round, marks_le l ok i n from (omega (arith, w.in_round))))
    (omega (arith, w.until, marks_lt l ok n j until w.in_round))

-- an earlier one is not
pub before_window : (l : Load) → IsLoad l → (v k i j n : ℕ) → Window l v k i j → n < i → job l v n ≡ k → ⊥
before_window l ok v k i j n w lt e =
    let low = job_from l ok v n w.vcpu in
    let low' : k * l.period v ≤ l.mark n = rw e at low in
    omega (arith, low', w.from, marks_lt l ok n i lt (omega (arith, w.some, w.in_round)))

-- a later interval is not in the window
pub after_window : (l : Load) → IsLoad l → (v k i j n : ℕ) → Window l v k i j → j ≤ n → n ≤ l.count
    → job l v n ≡ k → ⊥
after_window l ok v k i j n w le in_round e =
    let high = job_until l ok v n w.vcpu in
    let high' : l.mark n < (k + 1) * l.period v = rw e at high in
    omega (arith, high', w.until, marks_le l ok j n le in_round)

-- a sum over a job's intervals is one over its window
pub over_window : (l : Load) → IsLoad l → (v k i j : ℕ) → Window l v k i j → (f : ℕ → ℕ)
    → over_job l v k f ≡ total (λ n. f (i + n)) (j - i)
over_window l ok v k i j w f =
    let g = λ (n : ℕ). cond (job l v n == k) (f n) 0 in
    let rest = l.count - j in
    let all : i + (j - i) + rest ≡ l.count = omega (arith, w.some, w.in_round) in
    let mid : i + (j - i) ≡ j = omega (arith, w.some) in
    let before : total g i ≡ 0
    = total-none g i (λ n h. cond-false (job l v n == k) (f n) 0
    (ne_eqb (job l v n) k (before_window l ok v k i j n w h))) in
    let middle : total (λ n. g (i + n)) (j - i) ≡ total (λ n. f (i + n)) (j - i)
    = total-ext (λ n. g (i + n)) (λ n. f (i + n)) (j - i) (λ n h. cond-true (job l v (i + n) == k) (f (i
    + n)) 0
    (eq-eqb (job l v (i + n)) k (window_job l ok v k i j (i + n) w (omega arith) (omega arith)))) in
    let after : total (λ n. g (i + (j - i) + n)) rest ≡ 0
    = total-none (λ n. g (i + (j - i) + n)) rest (λ n h. cond-false (job l v (i + (j - i)
    + n) == k) (f (i + (j - i) + n)) 0
    (ne_eqb (job l v (i + (j - i) + n)) k (after_window l ok v k i j (i + (j - i)
    + n) w (omega arith) (omega arith)))) in
    let whole : total g (i + (j - i) + rest) ≡ total (λ n. f (i + n)) (j - i)
    = omega (arith, before, middle, after, total-split g (i + (j - i)) rest, total-split g i (j - i)) in
    rw all at whole

-- the intervals of a period fill it
pub spans_fill : (l : Load) → IsLoad l → (v k : ℕ) → v < l.width → k < jobs l v
    → over_job l v k (span l) ≡ l.period v
spans_fill l ok v k h lt =
    let s = window_of l ok v k h lt in
    let w = s.2 in
    let mid : s.0 + (s.1 - s.0) ≡ s.1 = omega (arith, w.some) in
    let sum = spans_sum l ok s.0 (s.1 - s.0) (omega (arith, w.in_round, w.some)) in
    let sum' = rw mid at sum in
    over_window l ok v k s.0 s.1 w (span l) ∙ omega (arith, sum', w.from, w.until)

-- one term of all
pub total-hot : (x n q : ℕ) → q < n → total (λ k. cond (q == k) x 0) n ≡ x
total-hot x n q h =
    let here : cond (q == q) x 0 ≡ x = cond-true (q == q) x 0 (eq-eqb q q refl) in
    let most = total-pick (λ k. cond (q == k) x 0) n q
    (λ k i ne. cond-false (q == k) x 0 (ne_eqb q k (λ e. ne (sym e)))) in
    let least = total-point (λ k. cond (q == k) x 0) n q h in
    omega (arith, here, most, least)

-- each interval is of one job
pub by_jobs : (l : Load) → IsLoad l → (v : ℕ) → v < l.width → (f : ℕ → ℕ)
    → total (λ k. over_job l v k f) (jobs l v) ≡ total f l.count
by_jobs l ok v h f =
    total-swap (λ k i. cond (job l v i == k) (f i) 0) l.count (jobs l v)
    ∙ total-ext _ f l.count (λ i lt. total-hot (f i) (jobs l v) (job l v i) (job_in l ok v i h lt))

-- an interval has a tick at least
place_mark : (l : Load) → IsLoad l → (i : ℕ) → i ≤ l.count → i ≤ l.mark i
place_mark l ok zero h = omega arith
place_mark l ok (suc i) h =
    let e : suc i ≡ i + 1 = omega arith in
    let rise : l.mark i < l.mark (suc i) = rw e (ok.rise i (omega arith)) in
    omega (arith, place_mark l ok i (omega arith), rise)

-- there are no more intervals than ticks
pub count_le : (l : Load) → IsLoad l → l.count ≤ l.round
count_le l ok = omega (arith, place_mark l ok l.count (omega arith), ok.last)

-- a period is within the round
pub period_le : (l : Load) → IsLoad l → (v : ℕ) → v < l.width → l.period v ≤ l.round
period_le l ok v h =
    ⊎_elim (λ (lt : 0 < jobs l v). omega (
      arith,
      ok.whole v h,
      mul-le-mul_left (l.period v) (let q : 1
          ≤ jobs l v = omega arith in q),
    ))
    (λ (none : jobs l v ≤ 0). let e : jobs l v
    ≡ 0 = omega arith in absurd (omega (arith, ok.whole v h, ap (λ n. l.period v * n) e, ok.some_round)))
    (cases_lt 0 (jobs l v))
