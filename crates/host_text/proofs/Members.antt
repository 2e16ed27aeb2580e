-- The document's members stand for the host.
use Rattle.std.proofs.Common.{◌≡◌, ℕ, zero, suc, ◌+◌, ◌≤◌, pos, true, false, List, [], ◌∷◌, ◌++◌, length, map, slice_get, Some, None, Ok, refl, sym, ap, subst, ◌∙◌, arith, bytes_eq, unwrap_or, Option, IfSome}
use Rattle.std.proofs.lemmas.Bool.Decides.{nat_tests}
use Rattle.std.proofs.lemmas.List.{length-map}
use Rattle.std.proofs.lemmas.List.Folds.{list_any-append}
use Rattle.std.proofs.lemmas.Slice.Eq.{bytes_eq-Decides}
use Rattle.std.specs.List.{AllByRecursion, list_any}
use Rattle.tab_core.specs.Name.{IsName}
use Rattle.tab_core.specs.Vcpus.{HaveDistinctNames}
use Rattle.tab_core.specs.declared.TheConstants.{MAX_CORES, MAX_LATENCY_NS, MAX_SLIVER, MAX_TICK_NS, MAX_VCPUS, MIN_TICK_NS, ROUND, TICK_NS, WHOLE_PPM}
use Rattle.tab_core.specs.declared.host.Host.{Host}
use Rattle.tab_core.specs.declared.reservation.Reservation.{Reservation}
use Rattle.tab_core.specs.declared.vcpu.Vcpu.{Vcpu}
use Rattle.toml.specs.Data.{Items, Members, get_item, table}
use Rattle.host_doc.specs.Array.{count_of, limited}
use Rattle.host_doc.specs.Document.{IsHostOf, first_fault}
use Rattle.host_doc.specs.KeyTable.{admitted_of, capped_of, cores_of, document_keys, lag_of, latency_of, name_of, quantum_of, runnable_of, share_of, sliver_of, vcpu_keys, vcpus_of, format_of as format_key, tick_of}
use Rattle.host_doc.specs.OtherKeys.{unknown_key}
use Rattle.host_doc.specs.Path.{of_document, of_vcpu}
use Rattle.host_doc.specs.Value.{in_range}
use Rattle.host_doc.specs.VcpuFaults.{settings_fault, vcpus_fault}
use Rattle.host_doc.specs.Vcpus.{AreVcpusOf, IsVcpuOf}
use Rattle.host_doc.specs.declared.fault.Key.TheVariants.{Cores, Lag, Latency, Quantum, Share, Sliver, TickNs, Unknown, Vcpu as VcpuKey}
use Rattle.host_doc.specs.declared.fault.Path.{Path}
use Rattle.host_doc.proofs.VcpusLemmas.{fault_named, names_named}
use Rattle.host_text.proofs.Statements.{AreNamed, Statement, either_way, host_members, vcpu_items, vcpu_members, vcpu_of, format_of, members_with}
use Rattle.host_gen.specs.HostText.{named_tick}
use Rattle.host_gen.proofs.HostTextLemmas.{if_named, named_is}

-- ---- values

-- a number within the bounds is taken
taken : (path : Path) (least most n : ℕ) → least ≤ n → n ≤ most
    → in_range path least most (Some (pos n)) ≡ Ok n
taken path least most n low high = grind (arith, nat_tests)

-- ---- one vCPU

-- its name is taken
named : (number : ℕ) (s : Statement) → IsName s.name → name_of number (vcpu_members s) ≡ Ok s.name
named number = either_way (λ s. IsName s.name → name_of number (vcpu_members s) ≡ Ok s.name)
    (λ s good. rw good refl) (λ s good. rw good refl)

-- the vCPU's share is taken
shared : (number : ℕ) (s : Statement) → share_of number (vcpu_members s) ≡ Ok s.reservation.share_ppm
shared number = either_way (λ s. share_of number (vcpu_members s) ≡ Ok s.reservation.share_ppm)
    (λ s. share s.reservation) (λ s. share s.reservation)
  where
    share : (r : Reservation) → in_range (of_vcpu number Share) 1 WHOLE_PPM (Some (pos r.share_ppm))
        ≡ Ok r.share_ppm
    share r = taken (of_vcpu number Share) 1 WHOLE_PPM r.share_ppm r.shares r.whole

-- the vCPU's latency is taken
waits : (number : ℕ) (s : Statement) → latency_of number (vcpu_members s) ≡ Ok s.reservation.latency_ns
waits number = either_way (λ s. latency_of number (vcpu_members s) ≡ Ok s.reservation.latency_ns)
    (λ s. latency s.reservation) (λ s. latency s.reservation)
  where
    latency : (r : Reservation)
        → in_range (of_vcpu number Latency) 0 MAX_LATENCY_NS (Some (pos r.latency_ns)) ≡ Ok r.latency_ns
    latency r = taken (of_vcpu number Latency) 0 MAX_LATENCY_NS r.latency_ns (omega arith) r.bounded

-- its other settings are truth values
admits : (number : ℕ) (s : Statement) → admitted_of number (vcpu_members s) ≡ Ok true
admits number = either_way (λ s. admitted_of number (vcpu_members s) ≡ Ok true) (λ s. refl) (λ s. refl)

runs : (number : ℕ) (s : Statement) → runnable_of number (vcpu_members s) ≡ Ok s.runnable
runs number = either_way (λ s. runnable_of number (vcpu_members s) ≡ Ok s.runnable) (λ s. refl) (λ s. refl)

caps : (number : ℕ) (s : Statement) → capped_of number (vcpu_members s) ≡ Ok s.capped
caps number = either_way (λ s. capped_of number (vcpu_members s) ≡ Ok s.capped) (λ s. refl) (λ s. refl)

-- its members stand for it
stands : (number : ℕ) (s : Statement) → IsName s.name → IsVcpuOf number (vcpu_members s) (vcpu_of s)
stands number s good = record {
  name = named number s good;
  reservation = (admits number s, shared number s, waits number s);
  runnable = runs number s;
  capped = caps number s;
}

-- none is of another key
only_keys : (number : ℕ) (s : Statement)
    → unknown_key (of_vcpu number Unknown) vcpu_keys (vcpu_members s) ≡ None
only_keys number = either_way (λ s. unknown_key (of_vcpu number Unknown) vcpu_keys (vcpu_members s) ≡ None)
    (λ s. refl) (λ s. refl)

-- the members of a vCPU have no fault after the name
settled : (number : ℕ) (s : Statement) → settings_fault number (vcpu_members s) ≡ None
settled number s = rw (
  admits number s,
  runs number s,
  shared number s,
  waits number s,
  caps number s,
  only_keys number s,
) refl

-- ---- all vCPUs

-- each has the name of none after it
abbrev Apart : List Statement → Type 0
Apart [] = Unit {0}
Apart (s ∷ ss) = AllByRecursion (λ u. u.name ≡ s.name → ⊥) ss × Apart ss

-- each of these names is new, and none of those before
abbrev AreNew : List (List ℕ) → List Statement → Type 0
AreNew earlier ss = AllByRecursion (λ s. list_any (bytes_eq s.name) earlier ≡ false) ss

-- no name is an earlier one where there is none
all_new : (ss : List Statement) → AreNew [] ss
all_new [] = tt
all_new (s ∷ ss) = (refl, all_new ss)

-- new names stay new after a further name that is none of them
new_beside : (earlier : List (List ℕ)) (u : Statement) (ss : List Statement) → AreNew earlier ss
    → AllByRecursion (λ s. s.name ≡ u.name → ⊥) ss → AreNew (earlier ++ u.name ∷ []) ss
new_beside earlier u [] new apart = tt
new_beside earlier u (s ∷ ss) new apart =
    let other : bytes_eq s.name u.name ≡ false = grind (arith, nat_tests, bytes_eq-Decides s.name u.name) in
    let more = new_beside earlier u ss new.1 apart.1 in
    (list_any-append (bytes_eq s.name) earlier (u.name ∷ []) ∙ rw (new.0, other), more)

-- no member has a fault
faultless : (earlier : List (List ℕ)) (number : ℕ) (ss : List Statement)
    → AreNamed ss → AreNew earlier ss → Apart ss
    → vcpus_fault earlier number (vcpu_items ss) ≡ None
unfolding vcpus_fault
faultless earlier number [] good new apart = refl
faultless earlier number (s ∷ ss) good new apart =
    let first = fault_named earlier number (Some (vcpu_members s)) (vcpu_members s) s.name refl
    (named number s good.0) new.0 ∙ settled number s in
    let names = names_named number (Some (vcpu_members s)) (vcpu_members s) s.name refl
    (named number s good.0) in
    rw (first, names)
    (faultless (earlier ++ s.name ∷ []) (number + 1) ss good.1
    (new_beside earlier s ss new.1 apart.0) apart.1)

-- the array has as many values
count : (ss : List Statement) → count_of (vcpu_items ss) ≡ length ss
count [] = refl
count (s ∷ ss) = ap suc (count ss)

-- the value of each number stands for the vCPU of that number
each : (ss : List Statement) (k number : ℕ) (keys : Members) (vcpu : Vcpu)
    → AreNamed ss → get_item k (vcpu_items ss) ≡ Some (table keys)
    → slice_get (map vcpu_of ss) k ≡ Some vcpu → IsVcpuOf number keys vcpu
each [] k number keys vcpu good at_item at_vcpu = absurd cc
each (s ∷ ss) zero number keys vcpu good at_item at_vcpu =
    let found : vcpu_members s ≡ keys = cc in
    let same : vcpu_of s ≡ vcpu = cc in
    subst (λ m. IsVcpuOf number m vcpu) found
    (subst (λ v. IsVcpuOf number (vcpu_members s) v) same (stands number s good.0))
each (s ∷ ss) (suc k) number keys vcpu good at_item at_vcpu =
    each ss k number keys vcpu good.1 at_item at_vcpu

-- the members stand for the vCPUs
all_stand : (ss : List Statement) → AreNamed ss
    → AreVcpusOf (vcpu_items ss) (map vcpu_of ss)
all_stand ss good = record {
  count = length-map ss vcpu_of ∙ sym (count ss);
  each = λ number keys vcpu. each ss number number keys vcpu good;
}

-- ---- the host

-- an array of few values is taken
few_taken : (path : Path) (items : Items) → count_of items ≤ MAX_VCPUS → limited path (Some items) ≡ Ok items
few_taken path items few = grind (arith, nat_tests)

-- the array of the document is taken
array_taken : (named : Option ℕ) (host : Host) (ss : List Statement) → length ss ≤ MAX_VCPUS
    → vcpus_of (members_with named host ss) ≡ Ok (vcpu_items ss)
array_taken None host [] few = refl
array_taken (Some tick) host [] few = refl
array_taken None host (s ∷ ss) few =
    few_taken (of_document VcpuKey) (vcpu_items (s ∷ ss)) (omega (arith, count (s ∷ ss)))
array_taken (Some tick) host (s ∷ ss) few =
    few_taken (of_document VcpuKey) (vcpu_items (s ∷ ss)) (omega (arith, count (s ∷ ss)))

-- the format is one of the two
format_taken : (named : Option ℕ) (host : Host) (ss : List Statement)
    → format_key (members_with named host ss) ≡ Ok (format_of named)
format_taken None host ss = refl
format_taken (Some tick) host ss = refl

-- the tick is the named one or the default
tick_taken : (named : Option ℕ) (host : Host) (ss : List Statement)
    → IfSome named (λ tick. (MIN_TICK_NS ≤ tick) × (tick ≤ MAX_TICK_NS))
    → tick_of (members_with named host ss) ≡ Ok (unwrap_or named TICK_NS)
tick_taken None host ss low = refl
tick_taken (Some tick) host ss low = taken (of_document TickNs) MIN_TICK_NS MAX_TICK_NS tick low.0 low.1

-- the document has no other keys than its format's
known : (named : Option ℕ) (host : Host) (ss : List Statement)
    → unknown_key (of_document Unknown) (document_keys (members_with named host ss)) (members_with named host ss)
    ≡ None
known None host [] = refl
known None host (s ∷ ss) = refl
known (Some tick) host [] = refl
known (Some tick) host (s ∷ ss) = refl

-- what the statements keep
pub record AreGood (ss : List Statement) : Type 0 where
  pub few : length ss ≤ MAX_VCPUS
  pub named : AreNamed ss
  pub apart : Apart ss

-- the members stand for the host of these vCPUs, with the tick that is named, if one is
stand_with : (named : Option ℕ) (host : Host) (ss : List Statement)
    → IfSome named (λ tick. (MIN_TICK_NS ≤ tick) × (tick ≤ MAX_TICK_NS))
    → unwrap_or named TICK_NS ≡ host.tick_ns → AreGood ss → map vcpu_of ss ≡ host.vcpus
    → IsHostOf (members_with named host ss) host
unfolding first_fault
stand_with named host ss low is good are =
    let members = members_with named host ss in
    let tick : tick_of members ≡ Ok host.tick_ns = tick_taken named host ss low ∙ ap Ok is in
    let cores : cores_of members ≡ Ok host.cores =
    taken (of_document Cores) 1 MAX_CORES host.cores host.some_core host.few_cores in
    let lag : lag_of members ≡ Ok host.lag =
    taken (of_document Lag) 1 ROUND host.lag host.some_lag host.lag_in_round in
    let sliver : sliver_of members ≡ Ok host.sliver =
    taken (of_document Sliver) 0 MAX_SLIVER host.sliver (omega arith) host.small_sliver in
    let quantum : quantum_of members ≡ Ok host.quantum =
    taken (of_document Quantum) 1 ROUND host.quantum host.some_quantum host.quantum_in_round in
    let array = array_taken named host ss good.few in
    record {
      faultless = rw (
        tick,
        known named host ss,
        format_taken named host ss,
        cores,
        lag,
        sliver,
        quantum,
        array,
      )
          (rw (faultless [] 0 ss good.named (all_new ss) good.apart));
      tick_ns = tick;
      cores = cores;
      lag = lag;
      sliver = sliver;
      quantum = quantum;
      vcpus = rw (array, ← are) (all_stand ss good.named);
    }

-- the members with the host's own numbers stand for the host
pub members_stand : (host : Host) (ss : List Statement) → AreGood ss → map vcpu_of ss ≡ host.vcpus
    → IsHostOf (host_members host ss) host
members_stand host ss = stand_with (named_tick host.tick_ns) host ss
    (if_named (λ tick. (MIN_TICK_NS ≤ tick) × (tick ≤ MAX_TICK_NS)) host.tick_ns
    (host.tick_at_least, host.tick_at_most))
    (named_is host.tick_ns)

-- ---- what the statements of a host keep

-- no vCPU has a name that none has at its number
others : (name : List ℕ) (ss : List Statement)
    → ((k : ℕ) (v : Vcpu) → slice_get (map vcpu_of ss) k ≡ Some v → v.name ≡ name → ⊥)
    → AllByRecursion (λ u. u.name ≡ name → ⊥) ss
others name [] h = tt
others name (u ∷ us) h = (h 0 (vcpu_of u) refl, others name us (λ k v at. h (suc k) v at))

-- distinct names are apart
pub are_apart : (ss : List Statement) → HaveDistinctNames (map vcpu_of ss) → Apart ss
are_apart [] distinct = tt
are_apart (s ∷ ss) distinct = (
  others s.name ss (λ k v at same.
      let e = distinct (suc k) 0 v (vcpu_of s) at refl same in omega (arith, e)),
  are_apart ss (λ j k a b at_j at_k same.
      let e = distinct (suc j) (suc k) a b at_j at_k same in omega (arith, e)),
)
