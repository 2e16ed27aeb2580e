-- Counters grow by the ticks of a run, and by those of a segment.
use Rattle.std.proofs.Common.{◌≡◌, ◌≢◌, ℕ, ◌+◌, ◌-◌, ◌*◌, ◌/◌, ◌<◌, ◌≤◌, ◌^◌, cond, List, length, get_or, set, slice_get, Option, Some, None, refl, ap, subst, sym, ◌∙◌, inl, inr, arith}
use Rattle.std.proofs.lemmas.Bool.{cases_eq, eq-eqb, ne_eqb}
use Rattle.std.proofs.lemmas.Grind.{get_or-set_at, get_or_default_zero}
use Rattle.std.proofs.lemmas.List.{get_or-set_other}
use Rattle.std.proofs.lemmas.Option.{same_Some, slice_get_within}
use Rattle.tab_core.specs.declared.TheConstants.{ROUND}
use Rattle.tab_core.specs.declared.periodic.Periodic.{Periodic}
use Rattle.table_check.specs.Inside.Counters.{AreAtMost, GrowBy, IsPeriodOf, count_at, ticks_given, ticks_shared}
use Rattle.table_check.specs.declared.counters.TheConstants.{MAX_PERIODS}
use Rattle.table_check.proofs.Periods.{HoldsTick, few_periods, holds_tick, shared_elsewhere, shared_here, shared_none, shared_within}

-- a run gives its owner what it shares, and others nothing
pub given_own : (vcpu from to v begin over : ℕ) → v ≡ vcpu
    → ticks_given (Some vcpu) from to v begin over ≡ ticks_shared from to begin over
given_own vcpu from to v begin over own =
    ap (λ b. cond b (ticks_shared from to begin over) 0) (eq-eqb v vcpu own)

-- a run of one owner gives other vCPUs nothing, so their counters stay
pub given_other : (vcpu from to v begin over : ℕ) → v ≢ vcpu
    → ticks_given (Some vcpu) from to v begin over ≡ 0
given_other vcpu from to v begin over other =
    ap (λ b. cond b (ticks_shared from to begin over) 0) (ne_eqb v vcpu other)

-- a period of a vCPU's task has the task's length
pub one_task : (tasks : List (Option Periodic)) (v k period vcpu : ℕ) (task : Periodic)
    (of : IsPeriodOf tasks v k period) → v ≡ vcpu
    → slice_get tasks vcpu ≡ Some (Some task) → of.task ≡ task
one_task tasks v k period vcpu task of own at =
    same_Some {A = Periodic} of.task task
    (same_Some {A = Option Periodic} (Some of.task) (Some task) (sym of.at ∙ ap (slice_get tasks) own ∙ at))

-- a vCPU has one task, so its counters are of one period
pub one_period : (tasks : List (Option Periodic)) (v k period vcpu : ℕ) (task : Periodic)
    (of : IsPeriodOf tasks v k period) → v ≡ vcpu
    → slice_get tasks vcpu ≡ Some (Some task) → period ≡ task.period
one_period tasks v k period vcpu task of own at = of.period_is
    ∙ ap (λ (t : Periodic). t.period) (one_task tasks v k period vcpu task of own at)

-- a counter lies in its vCPU's block, apart from the other vCPUs'
pub block_of : (tasks : List (Option Periodic)) (v k period : ℕ) → IsPeriodOf tasks v k period
    → (k < MAX_PERIODS) × (v < length tasks)
block_of tasks v k period of =
    let few : ROUND / of.task.period ≤ MAX_PERIODS = few_periods of.task in
    let here : k < ROUND / of.task.period = subst (λ t. k < ROUND / t) of.period_is of.in_round in
    (omega arith, slice_get_within tasks v (Some of.task) of.at)

-- the place of a counter is in the list
pub place_in_list : (tasks : List (Option Periodic)) (counters : List ℕ) (vcpu k : ℕ) (task : Periodic)
    → slice_get tasks vcpu ≡ Some (Some task)
    → length counters ≡ length tasks * MAX_PERIODS → k < MAX_PERIODS
    → vcpu * MAX_PERIODS + k < length counters
place_in_list tasks counters vcpu k task at size few =
    (let within = slice_get_within tasks vcpu (Some task) at in omega arith)

-- what is read at the place of a counter
pub read_count : (tasks : List (Option Periodic)) (counters : List ℕ) (vcpu k number value d : ℕ)
    (task : Periodic)
    → slice_get tasks vcpu ≡ Some (Some task)
    → length counters ≡ length tasks * MAX_PERIODS → k < MAX_PERIODS → number ≡ vcpu
    → value ≡ get_or counters (number * MAX_PERIODS + k) d → value ≡ count_at counters vcpu k
read_count tasks counters vcpu k number value d task at size few is read =
    read ∙ ap (λ n. get_or counters (n * MAX_PERIODS + k) d) is
    ∙ get_or_default_zero counters (vcpu * MAX_PERIODS + k) d
    (place_in_list tasks counters vcpu k task at size few)

-- the counters with the next cut of a run
pub one_more_cut : (tasks : List (Option Periodic)) (old counters : List ℕ) (vcpu from tick end value : ℕ)
    (task : Periodic)
    → slice_get tasks vcpu ≡ Some (Some task) → length counters ≡ length tasks * MAX_PERIODS → from ≤ tick
    → tick ≤ end → tick < ROUND
    → end ≤ (tick / task.period + 1) * task.period
    → GrowBy tasks (ticks_given (Some vcpu) from tick) old counters
    → value ≡ count_at counters vcpu (tick / task.period) + (end - tick)
    → GrowBy tasks (ticks_given (Some vcpu) from end) old
    (set counters (vcpu * MAX_PERIODS + tick / task.period) value)
one_more_cut tasks old counters vcpu from tick end value task at size low rises lt within grown is v
    k period of =
    let p = tick / task.period in
    let holds : HoldsTick task.period p tick = holds_tick task tick lt in
    let place = vcpu * MAX_PERIODS + p in
    let place_lt : place < length counters = place_in_list tasks counters vcpu p task at size holds.few in
    let begin = k * period in
    let over = (k + 1) * period in
    let was = grown v k period of in
    let block : k < MAX_PERIODS = (block_of tasks v k period of).0 in
    let few = holds.few in
    elim (cases_eq v vcpu) [
      | inr other ↦
          let same = get_or-set_other counters place (v * MAX_PERIODS + k) value 0
          (λ e. (let v_is : v ≡ vcpu = omega arith in other v_is)) in
          omega (
            arith,
            was,
            same,
            given_other vcpu from tick v begin over other,
            given_other vcpu from end v
                begin over other,
          )
      | inl own ↦
          let period_is = one_period tasks v k period vcpu task of own at in
          let now = given_own vcpu from end v begin over own in
          let before = given_own vcpu from tick v begin over own in
          elim (cases_eq k p) [
            | inr other ↦
                let same = get_or-set_other counters place (v * MAX_PERIODS + k) value 0
                (λ e. (let k_is : k ≡ p = omega arith in other k_is)) in
                let as_before = shared_elsewhere from tick end period p k rises
                (subst (λ t. HoldsTick t p tick) (sym period_is) holds)
                (subst (λ t. end ≤ (p + 1) * t) (sym period_is) within) other in
                omega (arith, was, same, now, before, as_before)
            | inl here ↦
                let new = get_or-set_at counters place (v * MAX_PERIODS + k) value 0 (omega arith) place_lt in
                let old_count : count_at counters v k ≡ count_at counters vcpu p =
                ap (λ n. get_or counters n 0)
                (omega arith) in
                let begin_is : begin ≡ p * task.period =
                ap (λ n. n * period) here ∙ ap (λ t. p * t) period_is in
                let over_is : over ≡ (p + 1) * task.period = ap (λ n. (n + 1) * period) here
                ∙ ap (λ t. (p + 1) * t) period_is in
                let more = shared_here from tick end begin over low rises (omega (arith, holds.low))
                (omega arith) in
                omega (arith, was, new, old_count, now, before, more, is)
          ]
    ]

-- nothing is given by no ticks
pub no_cut_yet : (tasks : List (Option Periodic)) (counters : List ℕ) (owner : Option ℕ) (from : ℕ)
    → GrowBy tasks (ticks_given owner from from) counters counters
no_cut_yet tasks counters None from v k period of = omega arith
no_cut_yet tasks counters (Some vcpu) from v k period of = elim (cases_eq v vcpu) [
  | inl own ↦ omega (
    arith,
    given_own vcpu from from v (k * period) ((k + 1) * period) own,
    shared_none from
        (k * period) ((k + 1) * period),
  )
  | inr other ↦ omega (arith, given_other vcpu from from v (k * period) ((k + 1) * period) other)
]

-- what a run has added so far leaves room for the rest
pub room_for_cut : (tasks : List (Option Periodic)) (old counters : List ℕ) (vcpu from tick end : ℕ)
    (task : Periodic)
    → slice_get tasks vcpu ≡ Some (Some task) → tick < ROUND → from ≤ tick → tick ≤ end → end ≤ ROUND
    → AreAtMost tasks (2 ^ 32 - 1 - ROUND) old
    → GrowBy tasks (ticks_given (Some vcpu) from tick) old counters
    → count_at counters vcpu (tick / task.period) + (end - tick) < 2 ^ 32
room_for_cut tasks old counters vcpu from tick end task at lt low rises within room grown =
    let p = tick / task.period in
    let of : IsPeriodOf tasks vcpu p task.period = record
    { task = task; at = at; period_is = refl; in_round = (holds_tick task tick lt).in_round } in
    let was = grown vcpu p task.period of in
    let most = room vcpu p task.period of in
    let begin = p * task.period in
    let over = (p + 1) * task.period in
    omega (
      arith,
      was,
      most,
      given_own vcpu from tick vcpu begin over refl,
      shared_within from tick begin over,
    )
