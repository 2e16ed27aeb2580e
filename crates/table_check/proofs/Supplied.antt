-- Counters of the first rows, and what they say of the tasks.
use Rattle.std.proofs.Common.{◌≡◌, ℕ, zero, suc, ◌+◌, ◌-◌, ◌*◌, ◌/◌, ◌<◌, ◌≤◌, ◌^◌, List, length, get_or, take, replicate, slice_get, Option, Some, None, refl, ap, subst, sym, ◌∙◌, inl, inr, arith}
use Rattle.std.proofs.Math.Nat.{mul-le-mul}
use Rattle.std.proofs.lemmas.List.{length-take, take_all}
use Rattle.std.proofs.lemmas.Bool.{cases_lt}
use Rattle.std.proofs.lemmas.Option.{same_Some, slice_get_within}
use Rattle.std.proofs.lemmas.List.Sums.{sum_by_more}
use Rattle.tab_core.specs.declared.TheConstants.{MAX_CORES, ROUND}
use Rattle.tab_core.specs.declared.periodic.Periodic.{Periodic}
use Rattle.tab_core.proofs.Periods.{period_facts}
use Rattle.table_form.specs.Tables.Rows.{Row}
use Rattle.table_form.specs.Tables.Serves.{Serves, cells_within, supply}
use Rattle.table_check.specs.Inside.Counters.{AreAtMost, CountSupply, GrowBy, IsFirstLow, count_at}
use Rattle.table_check.specs.Shortages.{IsFirstShort}
use Rattle.table_check.specs.declared.counters.TheConstants.{MAX_PERIODS}
use Rattle.table_check.proofs.Supplying.{supply-le}

-- counters begin with 0
zero_at : (n i : ℕ) → ◌≡◌ {A = ℕ} (get_or (replicate n 0) i 0) 0
zero_at zero i = refl
zero_at (suc n) zero = refl
zero_at (suc n) (suc i) = zero_at n i

-- counters of 0 have what no rows give
pub supplied_none : (tasks : List (Option Periodic)) (rows : List Row) (n : ℕ)
    → CountSupply tasks (take 0 rows) (replicate n 0)
unfolding supply
supplied_none tasks rows n v k period of = zero_at n (v * MAX_PERIODS + k)

-- with a row's cells added they have what one row more gives
pub supplied_more : (tasks : List (Option Periodic)) (rows : List Row) (i : ℕ) (row : Row) (old new : List ℕ)
    → i < length rows → row ≡ get_or rows i row
    → CountSupply tasks (take i rows) old → GrowBy tasks (λ v. cells_within v row) old new
    → CountSupply tasks (take (i + 1) rows) new
unfolding supply
supplied_more tasks rows i row old new lt at so_far grown v k period of =
    let cells : Row → ℕ = λ r. cells_within v r (k * period) ((k + 1) * period) in
    let more = sum_by_more cells rows i row lt in
    let same = ap cells at in
    omega (arith, so_far v k period of, grown v k period of, more, same)

-- what few rows give leaves room for one more
pub room_for_row : (tasks : List (Option Periodic)) (rows : List Row) (i : ℕ) (counters : List ℕ)
    → length rows ≤ MAX_CORES
    → CountSupply tasks (take i rows) counters → AreAtMost tasks (2 ^ 32 - 1 - 2 * ROUND) counters
room_for_row tasks rows i counters few so_far v k period of =
    let at_most : of.task.period ≤ ROUND = (period_facts of.task.period of.task.listed).at_most in
    let most = supply-le v (take i rows) (k * period) ((k + 1) * period) in
    let size = length-take i rows in
    let product = mul-le-mul {n₁ = length (take i rows)} {m₁ = (k + 1) * period - k * period} {n₂ = MAX_CORES}
    {m₂ = ROUND} (omega arith) (omega (arith, of.period_is)) in
    omega (arith, so_far v k period of, most, product)

-- after the last row the counters have what all rows give
pub supplied_all : (tasks : List (Option Periodic)) (rows : List Row) (i : ℕ) (counters : List ℕ)
    → length rows ≤ i
    → CountSupply tasks (take i rows) counters → CountSupply tasks rows counters
supplied_all tasks rows i counters past so_far =
    subst (λ (first : List Row). CountSupply tasks first counters)
    (take_all i rows past) so_far

-- each period of the vCPU's task has its cost by the counters
pub IsServedBy : List (Option Periodic) → List ℕ → ℕ → Type 0
IsServedBy tasks counters v = (task : Periodic) → slice_get tasks v ≡ Some (Some task) → (k : ℕ)
    → k < ROUND / task.period → task.cost ≤ count_at counters v k

-- a vCPU without a low counter is served
pub served_if_none_low : (tasks : List (Option Periodic)) (counters : List ℕ) (v : ℕ) (task : Periodic)
    → slice_get tasks v ≡ Some (Some task)
    → IsFirstLow counters v task None → IsServedBy tasks counters v
unfolding IsServedBy
served_if_none_low tasks counters v task at none other other_at k lt =
    let same : task ≡ other = same_Some {A = Periodic} task other
    (same_Some {A = Option Periodic} (Some task) (Some other) (sym at ∙ other_at)) in
    subst (λ (t : Periodic). t.cost ≤ count_at counters v k) same
    (none k (subst (λ (t : Periodic). k < ROUND / t.period) (sym same) lt))

-- a vCPU without a task is served
pub served_if_no_task : (tasks : List (Option Periodic)) (counters : List ℕ) (v : ℕ)
    → slice_get tasks v ≡ Some None
    → IsServedBy tasks counters v
unfolding IsServedBy
served_if_no_task tasks counters v at task task_at k lt =
    absurd (let both : Some None ≡ Some (Some task) = sym at ∙ task_at in cc)

-- rows whose counters serve each vCPU serve the tasks
pub serves_if_all : (tasks : List (Option Periodic)) (rows : List Row) (counters : List ℕ) (count : ℕ)
    → length tasks ≤ count → CountSupply tasks rows counters
    → ((w : ℕ) → w < count → IsServedBy tasks counters w) → Serves tasks rows
unfolding IsServedBy
serves_if_all tasks rows counters count all counted served v task at k lt =
    let within = slice_get_within tasks v (Some task) at in
    let is = counted v k task.period (record { task = task; at = at; period_is = refl; in_round = lt }) in
    let enough = served v (omega arith) task at k lt in
    omega arith

-- a vCPU below which all are served, and its first low period, are the first shortage
pub first_short_if_low : (tasks : List (Option Periodic)) (rows : List Row) (counters : List ℕ) (v k got : ℕ)
    (task : Periodic) → slice_get tasks v ≡ Some (Some task)
    → CountSupply tasks rows counters → ((w : ℕ) → w < v → IsServedBy tasks counters w)
    → IsFirstLow counters v task (Some k) → got ≡ count_at counters v k
    → IsFirstShort tasks rows v k got task.cost
unfolding IsServedBy
first_short_if_low tasks rows counters v k got task at counted served low got_is = record {
  short = record {
    task = task;
    at = at;
    in_round = low.0;
    got_is = got_is ∙ counted v k task.period
        (record { task = task; at = at; period_is = refl; in_round = low.0 });
    cost_is = refl;
    less = omega (arith, low.1, got_is);
  };
  least_vcpu = λ w j g c short. elim (cases_lt w v) [
    | inr le ↦ le
    | inl lt ↦ absurd (
        let is = counted w j short.task.period
        (record { task = short.task; at = short.at; period_is = refl; in_round = short.in_round }) in
        let enough = served w lt short.task short.at j short.in_round in
        omega (arith, short.got_is, short.cost_is, short.less))
  ];
  least_period = λ j g c short. elim (cases_lt j k) [
    | inr le ↦ le
    | inl lt ↦ absurd (
        let same : task ≡ short.task = same_Some {A = Periodic} task short.task
        (same_Some {A = Option Periodic} (Some task) (Some short.task) (sym at ∙ short.at)) in
        let cost : task.cost ≡ short.task.cost = ap (λ (t : Periodic). t.cost) same in
        let is = counted v j short.task.period
        (record { task = short.task; at = short.at; period_is = refl; in_round = short.in_round }) in
        let enough = low.2 j lt in
        omega (arith, short.got_is, short.cost_is, short.less))
  ];
}
