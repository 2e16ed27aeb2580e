-- When work is done: at the least tick up to which the vCPU has run as much.
use Rattle.std.proofs.Common.{◌≡◌, ℕ, ◌+◌, ◌-◌, ◌*◌, ◌<◌, ◌≤◌, inl, inr, ap, arith}
use Rattle.std.proofs.lemmas.Bool.{cases_lt}
use Rattle.tab_core.specs.declared.TheConstants.{ROUND}
use Rattle.table_form.specs.Promises.Capped.{ticks_run}
use Rattle.table_form.specs.Running.State.{State}
use Rattle.burst_bound.specs.Bursts.{IsDoneAt}
use Rattle.burst_bound.proofs.PeriodLemmas.{run_split}

-- the vCPU runs no less in more ticks
pub ticks_rise : (s : State) (v from m n : ℕ) → m ≤ n → ticks_run s v from m ≤ ticks_run s v from n
ticks_rise s v from m n le =
    let split = run_split s v from m (n - m) in
    let whole = ap (ticks_run s v from) (let e : m + (n - m) ≡ n = omega arith in e) in
    omega (arith, split, whole)

-- as much is run up to the later of the ticks, and up to none before the earlier
pub record IsDoneWithin (s : State) (vcpu work seen low high : ℕ) : Type 0 where
  pub enough : work ≤ ticks_run s vcpu seen (high - seen)
  pub least : (e : ℕ) → seen ≤ e → work ≤ ticks_run s vcpu seen (e - seen) → low ≤ e

-- it isn't up to the tick
pub done_later : (s : State) (vcpu work seen low high middle : ℕ) → IsDoneWithin s vcpu work seen low high
    → seen ≤ middle → ticks_run s vcpu seen (middle - seen) < work
    → IsDoneWithin s vcpu work seen (middle + 1) high
done_later s vcpu work seen low high middle within after less = record {
  enough = within.enough;
  least = λ e low_e more. (elim (cases_lt middle e) [
    | inl later ↦ omega arith
    | inr before ↦
        absurd (omega (arith, more, less, ticks_rise s vcpu seen (e - seen) (middle - seen) (omega arith)))
  ]);
}

-- it is
pub done_before : (s : State) (vcpu work seen low high middle : ℕ) → IsDoneWithin s vcpu work seen low high
    → work ≤ ticks_run s vcpu seen (middle - seen) → IsDoneWithin s vcpu work seen low middle
done_before s vcpu work seen low high middle within more = record { enough = more; least = within.least }

-- both ticks are one
pub done_there : (rounds : ℕ) (s : State) (vcpu work seen low high : ℕ) → IsDoneWithin s vcpu work seen low high
    → seen ≤ high → high ≤ low → high ≤ rounds * ROUND → IsDoneAt rounds s vcpu work seen high
done_there rounds s vcpu work seen low high within after same in_run = record {
  in_run = in_run;
  after = after;
  enough = within.enough;
  least = λ e low_e more. omega (arith, within.least e low_e more);
}

-- as much isn't run up to the run's end
pub not_done : (rounds : ℕ) (s : State) (vcpu work seen e : ℕ) → seen ≤ rounds * ROUND
    → ticks_run s vcpu seen (rounds * ROUND - seen) < work → IsDoneAt rounds s vcpu work seen e → ⊥
not_done rounds s vcpu work seen e le less at =
    omega (
      arith,
      less,
      at.in_run,
      at.enough,
      ticks_rise s vcpu seen (e - seen) (rounds * ROUND - seen) (let low = at.in_run in omega arith),
    )
