-- What is owed of a window, and runs that keep a plan.
use Rattle.std.proofs.Common.{arith, ◌≡◌, ℕ, zero, suc, ◌+◌, ◌*◌, ◌-◌, ◌/◌, ◌<◌, ◌≤◌, IsTrue, if◌then◌else◌, List, [], ◌∷◌, ◌++◌, length, Option, Some, None, get_or, ap, inl, inr, refl, subst, sym, ⊎_elim}
use Rattle.std.proofs.Math.Nat.{div-mul-le_self, lt-div-mul-add}
use Rattle.std.proofs.lemmas.Bool.{cases_lt}
use Rattle.std.proofs.lemmas.Nat.{mul-le}
use Rattle.tab_core.specs.declared.TheConstants.{PERIODS}
use Rattle.tab_core.specs.declared.reservation.Reservation.{Reservation}
use Rattle.std.specs.Prelude.{slice_get}
use Rattle.tab_core.specs.declared.vcpu.Vcpu.{Vcpu}
use Rattle.tab_core.specs.Period.{is_period}
use Rattle.tab_core.proofs.Lists.{push_split}
use Rattle.tab_core.proofs.Periods.{period_at, periods_rise, place_of_period}
use Rattle.period_choice.specs.Choice.{MeetsLatency}
use Rattle.reservation.specs.Cost.{cost}
use Rattle.host_judge.specs.Courses.{IsSteady, StateCourse}
use Rattle.host_judge.specs.Inside.Windowed.{ran_by}
use Rattle.host_judge.specs.Owed.{AreOwedByShares, IsHidden, IsNeverBlocked, IsOwedByShare, KeepsPlan, KeepsPlanInTime, due, whole_periods}
use Rattle.host_judge.specs.Windows.{IsWindow, is_runnable, run_in, runnable_before}
use Rattle.host_judge.specs.declared.owed.Owed.{Owed}
use Rattle.host_judge.specs.declared.owed.Owed.TheVariants.{Plan}
use Rattle.host_judge.specs.declared.owed.PlanOwed.{PlanOwed}
use Rattle.host_judge.proofs.CourseLemmas.{total_ones}
use Rattle.host_judge.proofs.PlaceLemmas.{count_between, count_not, count_order, count_within}
use Rattle.host_judge.proofs.WindowLemmas.{ran_within}

-- ---- how much is owed

-- no more than the window
pub plan_fits : (cost window period : ℕ) → cost ≤ period → cost * whole_periods window period ≤ window
plan_fits cost window period low =
    let whole = div-mul-le_self (window - (period - 1)) period in
    let less : cost * whole_periods window period ≤ period * whole_periods window period =
    mul-le cost (whole_periods window period) period (whole_periods window period) low (omega arith) in
    let same : period * whole_periods window period ≡ whole_periods window period * period = grind arith in
    omega (arith, whole, less, same)

pub share_fits : (share ns : ℕ) → share ≤ 1000000 → (share * ns + 999999) / 1000000 ≤ ns
share_fits share ns low =
    let less : share * ns ≤ 1000000 * ns = mul-le share ns 1000000 ns low (omega arith) in
    omega (arith, less)

-- ---- what each vCPU of a host is owed

pub none_owed : (vcpus : List Vcpu) (tick : ℕ) → AreOwedByShares vcpus tick []
none_owed vcpus tick v vcpu one at_vcpu at_one = absurd cc

-- the next of them
pub owed_more : (vcpus : List Vcpu) (tick : ℕ) (owed : List (Option Owed)) (vcpu : Vcpu) (one : Option Owed)
    → AreOwedByShares vcpus tick owed → slice_get vcpus (length owed) ≡ Some vcpu
    → IsOwedByShare vcpu.reservation tick one → AreOwedByShares vcpus tick (owed ++ one ∷ [])
owed_more vcpus tick owed vcpu one are at is v other found at_other at_found =
    elim (push_split owed v one found at_found) [
      | inl old ↦ are v other found at_other old
      | inr (last, same) ↦ (let here : vcpu ≡ other = cc in
          subst (λ (u : Vcpu). IsOwedByShare u.reservation tick found) here
          (subst (λ t. IsOwedByShare vcpu.reservation tick t) same is))
    ]

-- ---- what the ends of a window hide

-- none of the periods from a place in the table on is admissible
abbrev pub NoneFrom : Reservation → ℕ → ℕ → Type 0
NoneFrom r tick n = (k : ℕ) → n ≤ k → k < 65 → MeetsLatency r tick (get_or PERIODS k 0) → ⊥

pub none_more : (r : Reservation) (tick n : ℕ) → (MeetsLatency r tick (get_or PERIODS n 0) → ⊥)
    → NoneFrom r tick (n + 1) → NoneFrom r tick n
none_more r tick n late none = λ k low high. ⊎_elim
    (λ after. none k (omega arith) high)
    (λ same. (let is : n ≡ k = omega arith in
    subst (λ (i : ℕ). MeetsLatency r tick (get_or PERIODS i 0) → ⊥) is late))
    (cases_lt n k)

-- the first from the end that is admissible is the largest
pub hidden_at : (r : Reservation) (tick n period ns : ℕ) → n < 65 → NoneFrom r tick (n + 1)
    → period ≡ get_or PERIODS n 0 → ns ≡ 2 * (period - cost r.share_ppm period) * tick → ns ≤ r.latency_ns
    → IsHidden r tick ns
hidden_at r tick n period ns low none is twice within = inl (
  period,
  record {
    admissible = record {
      listed = subst (λ t. IsTrue (is_period t)) (sym is) (period_at n low);
      in_time = omega (arith, twice, within);
    };
    largest = λ other a.
        (let at = place_of_period other a.listed in
        ⊎_elim
        (λ later. absurd (none at.0 (omega arith) at.1
        (subst (MeetsLatency r tick) (sym at.2) a.in_time)))
        (λ before. (let rise = periods_rise at.0 n before low in omega (arith, rise, at.2, is)))
        (cases_lt n at.0));
    twice = twice;
  },
)

-- none is
pub hidden_none : (r : Reservation) (tick ns : ℕ) → NoneFrom r tick 0 → ns ≡ 0 → IsHidden r tick ns
hidden_none r tick ns none is = inr (
  λ has.
      (let at = place_of_period has.0 has.1.listed in
      none at.0 (omega arith) at.1 (subst (MeetsLatency r tick) (sym at.2) has.1.in_time)),
  is,
)

-- ---- a run that keeps a plan

-- the first period that begins in a window
pub first_period : (begin period place : ℕ) → begin < period
    → (k : ℕ) × (place ≤ begin + k * period) × (begin + k * period ≤ place + (period - 1))
first_period begin period place early = ⊎_elim
    (λ later.
    let k : ℕ = (place - begin + (period - 1)) / period in
    let low = div-mul-le_self (place - begin + (period - 1)) period in
    let high = lt-div-mul-add {a = place - begin + (period - 1)} {b = period} (omega arith) in
    (k, omega (arith, high), omega (arith, low)))
    (λ before. (0, omega (arith, before), omega (arith, early)))
    (cases_lt begin place)

-- up to the boundary of a count of periods it has run for the cost of each
pub ran_for : (course : StateCourse) (time cost period begin start end k : ℕ) → KeepsPlan course time cost period begin
    → start ≤ end → end ≤ time → runnable_before course start ≤ begin + k * period → (j : ℕ)
    → begin + (k + j) * period ≤ runnable_before course end
    → (t : ℕ) × (t ≤ end) × (runnable_before course t ≡ begin + (k + j) * period)
    × (ran_by course start + cost * j ≤ ran_by course t)
ran_for course time cost period begin start end k keeps order within low zero high =
    let same : begin + (k + 0) * period ≡ begin + k * period = ap (λ n. begin + n * period) (omega arith) in
    let whole : start + (end - start) ≡ end = omega arith in
    let last : runnable_before course (start + (end - start)) ≡ runnable_before course end =
    ap (runnable_before course) whole in
    let found = count_between course start (end - start) (begin + (k + 0) * period) (omega (arith, same, low))
    (omega (arith, last, high)) in
    let grows = ran_within course start found.0 found.1 in
    let none : cost * 0 ≡ 0 = grind arith in
    (found.0, omega (arith, found.2), found.3, omega (arith, grows.0, none))
ran_for course time cost period begin start end k keeps order within low (suc j) high =
    let more : (k + suc j) * period ≡ (k + j) * period + period = grind arith in
    let before = ran_for course time cost period begin start end k keeps order within low j (omega (arith, more, high)) in
    let t : ℕ = before.0 in
    let whole : t + (end - t) ≡ end = omega (arith, before.1) in
    let last : runnable_before course (t + (end - t)) ≡ runnable_before course end =
    ap (runnable_before course) whole in
    let found = count_between course t (end - t) (begin + (k + suc j) * period) (omega (arith, more, before.2))
    (omega (arith, last, high)) in
    let next : (k + suc j) * period ≡ (k + j + 1) * period = grind arith in
    let ran = keeps.each (k + j) t found.0 (omega (arith, found.2, before.1, within)) before.2
    (omega (arith, found.3, next)) in
    let grows = ran_within course t found.0 found.1 in
    let times : cost * suc j ≡ cost * j + cost = grind arith in
    (found.0, omega (arith, found.2, before.1), found.3, omega (arith, before.3, ran, grows.0, times))

-- where a window holds whole periods
whole_by : (course : StateCourse) (window time begin start end n : ℕ) (by : PlanOwed)
    → KeepsPlan course time by.cost_ns by.period_ns begin → IsWindow course window time start end
    → n * by.period_ns ≤ window - (by.period_ns - 1) → 0 < by.period_ns
    → by.cost_ns * n ≤ run_in course start end
whole_by course window time begin start end zero by keeps is fits some =
    let none : by.cost_ns * 0 ≡ 0 = grind arith in
    omega (arith, none)
whole_by course window time begin start end (suc m) by keeps is fits some =
    let period : ℕ = by.period_ns in
    let more : suc m * period ≡ m * period + period = grind arith in
    let long : period - 1 < window = omega (arith, fits, more, some) in
    let order = count_order course start end (omega (arith, is.holds, long)) in
    let first = first_period begin period (runnable_before course start) keeps.early in
    let sum : (first.0 + suc m) * period ≡ first.0 * period + suc m * period = grind arith in
    let found = ran_for course time by.cost_ns period begin start end first.0 keeps (omega arith) is.within first.1 (suc m)
    (omega (arith, sum, fits, first.2, is.holds, long)) in
    let last = ran_within course found.0 end found.1 in
    omega (arith, found.3, last.0)

pub kept_plan : (course : StateCourse) (window time begin start end : ℕ) (by : PlanOwed) → 0 < by.period_ns
    → KeepsPlan course time by.cost_ns by.period_ns begin → IsWindow course window time start end
    → due (Plan by) window ≤ run_in course start end
kept_plan course window time begin start end by some keeps is =
    whole_by course window time begin start end (whole_periods window by.period_ns) by keeps is
    (div-mul-le_self (window - (by.period_ns - 1)) by.period_ns) some

-- ---- a run that is never blocked

-- nothing before it is known
count_first : (course : StateCourse) (first time : ℕ) → IsNeverBlocked course first time
    → runnable_before course first ≡ 0
count_first course first time never =
    let before : IsSteady course None 0 first = record { held = λ t low high. never.unknown t high } in
    count_not course None 0 first (omega arith) refl before

-- how much of it has run and waited since then
count_after : (course : StateCourse) (first time ns : ℕ) → IsNeverBlocked course first time → first + ns ≤ time
    → runnable_before course (first + ns) ≡ ns
count_after course first time ns never within =
    let none = count_first course first time never in
    let f : ℕ → ℕ = λ t. if is_runnable (course t) then 1 else 0 in
    let ones : (t : ℕ) → first ≤ t → t < first + ns → f t ≡ 1 = λ t low high.
    ap (λ b. if b then 1 else 0) (never.runnable t low (omega arith)) in
    let more = total_ones f first ns ones in
    omega (arith, none, more)

pub kept_in_time : (course : StateCourse) (first time cost period begin : ℕ) → IsNeverBlocked course first time
    → KeepsPlanInTime course first time cost period begin → KeepsPlan course time cost period begin
kept_in_time course first time by period begin never keeps = record {
  early = keeps.early;
  each = λ k s e within low high.
      (let more : (k + 1) * period ≡ k * period + period = grind arith in
      let early = keeps.early in
      let zero : runnable_before course (first + 0) ≡ runnable_before course first =
      ap (runnable_before course) (omega arith) in
      let later : first < e = ⊎_elim
      (λ before. before)
      (λ after.
      (let some = count_within course e first after in
      let least = count_first course first time never in
      absurd (omega (arith, some.0, least, high, more, early))))
      (cases_lt first e) in
      let span : first + (e - first) ≡ e = omega (arith, later) in
      let counted = count_after course first time (e - first) never (omega (arith, span, within)) in
      let end : e ≡ first + begin + (k + 1) * period =
      omega (arith, counted, ap (runnable_before course) span, high, later) in
      let ran = keeps.each k (omega (arith, end, within)) in
      let same_end = ap (ran_by course) end in
      ⊎_elim
      (λ outside.
      (let none = count_within course s first (omega (arith, outside)) in
      let least = count_first course first time never in
      let start : first + begin + k * period ≡ first = omega (arith, none.0, least, low) in
      let same = ap (ran_by course) start in
      let grows = ran_within course s first (omega (arith, outside)) in
      omega (arith, ran, same, same_end, grows.0)))
      (λ inside.
      (let order = count_order course s e (omega (arith, low, high, more, early)) in
      let from : first + (s - first) ≡ s = omega (arith, inside) in
      let here = count_after course first time (s - first) never (omega (arith, from, order, within)) in
      let start : s ≡ first + begin + k * period =
      omega (arith, here, ap (runnable_before course) from, low, inside) in
      let same = ap (ran_by course) start in
      omega (arith, ran, same, same_end)))
      (cases_lt s first));
}
