-- Whole periods, numbered over the run, and the ticks that are offered and run in them.
use Rattle.std.proofs.Common.{◌≡◌, ℕ, zero, suc, ◌+◌, ◌*◌, ◌/◌, ◌%◌, ◌<◌, ◌≤◌, Bool, true, false, cond, refl, ap, ◌∙◌, arith}
use Rattle.std.proofs.Math.Nat.{add-mul, mul_assoc, mul_comm, mod-lt}
use Rattle.std.proofs.lemmas.Nat.{div-add-mod'}
use Rattle.tab_core.specs.declared.TheConstants.{ROUND}
use Rattle.table_form.specs.Running.Courses.{CourseView}
use Rattle.table_form.specs.Promises.Offered.{is_offered, offers}
use Rattle.table_form.specs.Running.State.{State}
use Rattle.table_form.specs.Promises.Capped.{runs_at, ticks_run}

-- the begin of a period by its number in the run: in round k / m, the period k % m of the round
pub begin_of : (t m k : ℕ) → 1 ≤ m → t * m ≡ ROUND → k * t ≡ k / m * ROUND + k % m * t
begin_of t m k some whole =
    let parts = div-add-mod' k m in
    let split : (k / m * m + k % m) * t ≡ k / m * m * t + k % m * t = add-mul (k / m * m) (k % m) t in
    let joined : k / m * m * t ≡ k / m * ROUND =
    mul_assoc (k / m) m t ∙ ap (λ (n : ℕ). k / m * n) (mul_comm m t ∙ whole) in
    let same : (k / m * m + k % m) * t ≡ k * t = ap (λ (n : ℕ). n * t) parts in
    omega (arith, split, joined, same)

pub small_rest : (m k : ℕ) → 1 ≤ m → k % m < m
small_rest m k some = mod-lt k (omega arith)

more_if : (a b : Bool) → (a ≡ true → b ≡ true) → cond a 1 0 ≤ cond b 1 0
more_if true true h = omega arith
more_if true false h = absurd (let e = h refl in cc)
more_if false b h = omega arith

-- where each offered tick is run, at least as many are run as offered
pub offers_run : (course : CourseView) (s : State) (v from n : ℕ)
    → ((x : ℕ) → from ≤ x → x < from + n → is_offered course s.decided v x ≡ true → runs_at s v x ≡ true)
    → offers course s.decided v from n ≤ ticks_run s v from n
unfolding offers ticks_run
offers_run course s v from zero each = omega arith
offers_run course s v from (suc n) each =
    omega (
      arith,
      more_if (is_offered course s.decided v (from + n)) (runs_at s v (from + n))
          (λ is. each (from + n) (omega arith) (omega arith) is),
      offers_run course s v from n (λ x low high is. each x low (omega arith) is),
    )

abbrev one_at : State → ℕ → ℕ → ℕ
one_at s v x = cond (runs_at s v x) 1 0

pub run_split : (s : State) (v from m n : ℕ)
    → ticks_run s v from (m + n) ≡ ticks_run s v from m + ticks_run s v (from + m) n
unfolding ticks_run
run_split s v from m zero = (let e : m + 0 ≡ m = omega arith in rw e (omega arith))
run_split s v from m (suc n) =
    let e : m + suc n ≡ suc (m + n) = omega arith in
    let at : from + (m + n) ≡ from + m + n = omega arith in
    let last = ap (one_at s v) at in
    rw e (omega (arith, run_split s v from m n, last))
