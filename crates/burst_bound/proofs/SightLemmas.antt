-- The ticks of all events are raised core by core.
use Rattle.std.proofs.Common.{◌≡◌, ℕ, suc, ◌+◌, ◌-◌, ◌<◌, ◌≤◌, inl, inr, max, List, length, get_or, Some, subst, ◌∙◌, arith}
use Rattle.std.specs.Prelude.{slice_get}
use Rattle.std.proofs.lemmas.Bool.{cases_lt}
use Rattle.std.proofs.lemmas.List.{get_or-set_other, get_or-set_same}
use Rattle.std.proofs.Math.ListN.{set}
use Rattle.tab_core.specs.declared.stint.Stint.{Stint}
use Rattle.burst_bound.specs.Inside.Seeing.{AreInOrder, IsRaised, IsUnseenCount}
use Rattle.burst_bound.proofs.UnseenLemmas.{all_seen, not_before, seen_behind}

-- where all stints have seen the event, nothing is raised
pub raised_none : (event n old : ℕ) (stints : List Stint) → IsUnseenCount event stints n → n ≤ 0
    → IsRaised event stints old old
raised_none event n old stints count none = record {
  here = 0;
  sees = all_seen event stints (subst (IsUnseenCount event stints) (let e : n ≡ 0 = omega arith in e) count);
  least = λ x sees. omega arith;
  is = omega arith;
}

-- what is raised is raised to the end of the last stint that hasn't seen the event
pub raised_last : (event n old new : ℕ) (stints : List Stint) (last : Stint) → AreInOrder stints
    → IsUnseenCount event stints n → 0 < n → slice_get stints (n - 1) ≡ Some last → new ≡ max old last.end
    → IsRaised event stints old new
raised_last event n old new stints last order count some at is =
    let next : n ≡ suc (n - 1) = omega arith in
    let same = subst (IsUnseenCount event stints) next count in
    record {
      here = last.end;
      sees = seen_behind event (n - 1) stints last order same at;
      least = λ x sees. not_before event (n - 1) x stints last same at sees;
      is = is;
    }

-- the events before this one stay raised as it is, and it is raised
pub raised_more : (stints : List Stint) (first before : List ℕ) (event new : ℕ) → event < length before
    → ((e : ℕ) → e < event → IsRaised e stints (get_or first e 0) (get_or before e 0))
    → IsRaised event stints (get_or first event 0) new
    → (e : ℕ) → e < event + 1 → IsRaised e stints (get_or first e 0) (get_or (set before event new) e 0)
raised_more stints first before event new lt raised here e low = elim (cases_lt e event) [
  | inl earlier ↦
      (let same = get_or-set_other before event e new 0 (λ is. absurd (omega arith)) in
      rw same (raised e earlier))
  | inr last ↦
      (let place : e ≡ event = omega arith in
      let same = get_or-set_same before event new 0 lt in
      rw (place, same) here)
]

-- those after it are as they were
pub rest_more : (first before : List ℕ) (event new : ℕ)
    → ((e : ℕ) → event ≤ e → get_or before e 0 ≡ get_or first e 0)
    → (e : ℕ) → event + 1 ≤ e → get_or (set before event new) e 0 ≡ get_or first e 0
rest_more first before event new rest e low =
    get_or-set_other before event e new 0 (λ is. absurd (omega arith)) ∙ rest e (omega arith)
