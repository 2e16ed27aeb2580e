-- What each known host and plan keep of the first host, and how many outcomes there are.
use Rattle.std.proofs.Common.{◌≡◌, inl, inr, ℕ, zero, suc, ◌+◌, ◌<◌, ◌≤◌, Bool, true, false, cond, List, length, get_or, slice_get, take, drop, Some, length-append, refl, ap, sym, subst, ◌∙◌, arith}
use Rattle.std.proofs.Math.Seq.{take-length}
use Rattle.std.proofs.lemmas.List.{take-append-drop}
use Rattle.std.proofs.lemmas.List.Sums.{sum_by-append, count_by_more_no, count_by_more_yes}
use Rattle.std.proofs.lemmas.Option.{get_or_from_slice_get, slice_get_within}
use Rattle.tab_core.specs.declared.host.Host.{Host}
use Rattle.script_doc.specs.Events.{is_change}
use Rattle.script_doc.specs.Script.{changes_in}
use Rattle.script_doc.specs.declared.event.Act.{Act}
use Rattle.script_doc.specs.declared.event.Act.TheVariants.{Wake, Block, Change, Burst}
use Rattle.script_doc.specs.declared.event.Event.{Event}
use Rattle.plan_book.specs.After.{Applies, IsKnownAfter}
use Rattle.plan_book.specs.States.{BookState}
use Rattle.plan_book.proofs.EditedLemmas.{same_count}

-- the tick, the cores and the count of vCPUs are the same
pub record SameShape (a b : Host) : Type 0 where
  pub tick_ns : a.tick_ns ≡ b.tick_ns
  pub cores : a.cores ≡ b.cores
  pub vcpus : length a.vcpus ≡ length b.vcpus

-- an event keeps the tick, the cores and the count of vCPUs
shape_applied : (known : BookState) (act : Act) (next : BookState) → Applies known act next
    → SameShape next.host known.host
shape_applied known (Wake vcpu) next applies =
    record {
      tick_ns = ap (λ (k : BookState). k.host.tick_ns) applies;
      cores = ap (λ (k : BookState). k.host.cores) applies;
      vcpus = ap (λ (k : BookState). length k.host.vcpus) applies;
    }
shape_applied known (Block vcpu) next applies =
    record {
      tick_ns = ap (λ (k : BookState). k.host.tick_ns) applies;
      cores = ap (λ (k : BookState). k.host.cores) applies;
      vcpus = ap (λ (k : BookState). length k.host.vcpus) applies;
    }
shape_applied known (Change edits) next (inl taken) =
    record {
      tick_ns = taken.edited.tick_ns;
      cores = taken.edited.cores;
      vcpus = same_count known.host edits next.host taken.edited;
    }
shape_applied known (Change edits) next (inr refused) =
    record {
      tick_ns = ap (λ (k : BookState). k.host.tick_ns) refused.becomes;
      cores = ap (λ (k : BookState). k.host.cores) refused.becomes;
      vcpus = ap (λ (k : BookState). length k.host.vcpus) refused.becomes;
    }
shape_applied known (Burst vcpu work) next applies =
    record {
      tick_ns = ap (λ (k : BookState). k.host.tick_ns) applies;
      cores = ap (λ (k : BookState). k.host.cores) applies;
      vcpus = ap (λ (k : BookState). length k.host.vcpus) applies;
    }

-- each known host has the tick, the cores and the count of vCPUs of the first
pub same_shape : (host : Host) (events : List Event) (n : ℕ) (known : BookState)
    → IsKnownAfter host events n known → SameShape known.host host
same_shape host events zero known is =
    record {
      tick_ns = ap (λ (h : Host). h.tick_ns) is.host_is;
      cores = ap (λ (h : Host). h.cores) is.host_is;
      vcpus = ap (λ (h : Host). length h.vcpus) is.host_is;
    }
same_shape host events (suc n) known is =
    let before = same_shape host events n is.0 is.2 in
    let here = shape_applied is.0 is.1.act known is.4 in
    record {
      tick_ns = here.tick_ns ∙ before.tick_ns;
      cores = here.cores ∙ before.cores;
      vcpus = here.vcpus ∙ before.vcpus;
    }

-- its tick is the run's: the law of one tick
pub one_tick : (host : Host) (events : List Event) (n : ℕ) (known : BookState)
    → IsKnownAfter host events n known → known.host.tick_ns ≡ host.tick_ns
one_tick host events n known is = (same_shape host events n known is).tick_ns

-- no more is known than after all events
pub known_within : (host : Host) (events : List Event) (n : ℕ) (known : BookState)
    → IsKnownAfter host events n known → n ≤ length events
known_within host events zero known is = omega arith
known_within host events (suc n) known is = (let lt = slice_get_within events n is.1 is.3 in omega arith)

-- an outcome for each change, and at most as many planned ones
pub record HasOutcomes (count : ℕ) (known : BookState) : Type 0 where
  pub outcomes : length known.outcomes ≡ count
  pub number : known.number ≤ count

-- an event adds an outcome exactly where it is a change
outcomes_applied : (known : BookState) (act : Act) (next : BookState) (count : ℕ) → HasOutcomes count known
    → Applies known act next → HasOutcomes (count + cond (is_change act) 1 0) next
outcomes_applied known (Wake vcpu) next count has applies = record {
  outcomes = ap (λ (k : BookState). length k.outcomes) applies ∙ omega (arith, has.outcomes);
  number = (let is = ap (λ (k : BookState). k.number) applies in omega (arith, has.number));
}
outcomes_applied known (Block vcpu) next count has applies = record {
  outcomes = ap (λ (k : BookState). length k.outcomes) applies ∙ omega (arith, has.outcomes);
  number = (let is = ap (λ (k : BookState). k.number) applies in omega (arith, has.number));
}
outcomes_applied known (Change edits) next count has (inl taken) = record {
  outcomes = ap length taken.outcomes ∙ length-append known.outcomes _ ∙ omega (arith, has.outcomes);
  number = omega (arith, has.number, taken.number);
}
outcomes_applied known (Change edits) next count has (inr refused) = record {
  outcomes = ap (λ (k : BookState). length k.outcomes) refused.becomes ∙ length-append known.outcomes _
      ∙ omega (arith, has.outcomes);
  number = (let is = ap (λ (k : BookState). k.number) refused.becomes in omega (arith, has.number));
}
outcomes_applied known (Burst vcpu work) next count has applies = record {
  outcomes = ap (λ (k : BookState). length k.outcomes) applies ∙ omega (arith, has.outcomes);
  number = (let is = ap (λ (k : BookState). k.number) applies in omega (arith, has.number));
}

-- one event more is one change more, if it is one
pub changes_more : (events : List Event) (n : ℕ) (event : Event) → slice_get events n ≡ Some event
    → changes_in (take n events) + cond (is_change event.act) 1 0 ≡ changes_in (take (n + 1) events)
changes_more events n event at =
    let lt = slice_get_within events n event at in
    let here = get_or_from_slice_get events n event event at in
    by_case (is_change event.act) refl lt here
  where
    by_case : (change : Bool) → is_change event.act ≡ change → n < length events
        → get_or events n event ≡ event →
        changes_in (take n events) + cond (is_change event.act) 1 0 ≡ changes_in (take (n + 1) events)
    by_case true is lt here =
        let more = count_by_more_yes (λ (e : Event). is_change e.act) events n event lt
        (ap (λ (e : Event). is_change e.act) here ∙ is) in
        rw is (sym more)
    by_case false is lt here =
        let more = count_by_more_no (λ (e : Event). is_change e.act) events n event lt
        (ap (λ (e : Event). is_change e.act) here ∙ is) in
        rw is (omega (arith, more))

-- after n events there are as many outcomes as changes among them
pub has_outcomes_in : (host : Host) (events : List Event) (n : ℕ) (known : BookState)
    → IsKnownAfter host events n known → HasOutcomes (changes_in (take n events)) known
has_outcomes_in host events zero known is =
    record { outcomes = ap length is.no_outcome; number = omega (arith, is.number_is) }
has_outcomes_in host events (suc n) known is =
    let next : n + 1 ≡ suc n = omega arith in
    subst (λ count. HasOutcomes count known)
    (changes_more events n is.1 is.3 ∙ ap (λ k. changes_in (take k events)) next)
    (outcomes_applied is.0 is.1.act known (changes_in (take n events))
    (has_outcomes_in host events n is.0 is.2) is.4)

-- there are at most as many outcomes as changes
pub few_outcomes : (host : Host) (events : List Event) (n : ℕ) (known : BookState)
    → IsKnownAfter host events n known
    → (length known.outcomes ≤ changes_in events) × (known.number ≤ changes_in events)
few_outcomes host events n known is =
    let has = has_outcomes_in host events n known is in
    let parts = sum_by-append (λ (e : Event). cond (is_change e.act) 1 0) (take n events) (drop n events) in
    let whole = ap changes_in (take-append-drop n events) in
    (omega (arith, has.outcomes), omega (arith, has.number))

-- after all events there are as many outcomes as changes
pub all_outcomes : (host : Host) (events : List Event) (known : BookState)
    → IsKnownAfter host events (length events) known → length known.outcomes ≡ changes_in events
all_outcomes host events known is = (has_outcomes_in host events (length events) known is).outcomes
    ∙ ap changes_in (take-length events)
