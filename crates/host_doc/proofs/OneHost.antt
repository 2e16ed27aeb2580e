-- A document states one host at most: each of the host's numbers is in it, and each vCPU is the
-- member of its number.
use Rattle.std.proofs.Common.{◌≡◌, ℕ, zero, suc, ◌+◌, ◌<◌, Bool, true, false, List, [], ◌++◌, get_or, Option, Some, None, Result, Ok, Err, IfOk, refl, sym, ap, subst, ◌∙◌, arith}
use Rattle.std.proofs.lemmas.List.{same_lists}
use Rattle.std.proofs.lemmas.Option.{slice_get-get_or}
use Rattle.std.specs.Option.{option_or}
use Rattle.std.specs.Result.{result_err}
use Rattle.tab_core.proofs.Alike.{same_host, same_reservation, same_vcpu}
use Rattle.tab_core.specs.declared.host.Host.{Host}
use Rattle.tab_core.specs.declared.reservation.Reservation.{Reservation}
use Rattle.tab_core.specs.declared.vcpu.Vcpu.{Vcpu}
use Rattle.toml.specs.Data.{Data, Items, Members, array, as_table, boolean, datetime, float, get_item, integer, item, no_items, string, table}
use Rattle.host_doc.specs.Document.{HasFirstFault, IsDocument, IsHostOf, IsHostText, first_fault, members_fault}
use Rattle.host_doc.specs.Array.{count_of}
use Rattle.host_doc.specs.KeyTable.{cores_of, document_keys, format_of, lag_of, quantum_of, sliver_of, tick_of, vcpus_of}
use Rattle.host_doc.specs.OtherKeys.{unknown_key}
use Rattle.host_doc.specs.VcpuFaults.{member_names, vcpu_fault, vcpus_fault}
use Rattle.host_doc.specs.Vcpus.{AreVcpusOf, IsReservationOf, IsVcpuOf}
use Rattle.host_doc.specs.Path.{of_document}
use Rattle.host_doc.specs.declared.fault.HostFault.{HostFault}
use Rattle.host_doc.specs.declared.fault.Key.TheVariants.{Unknown}

-- two faults of which the first is none
pub both_none : (a b : Option HostFault) → option_or a b ≡ None → (a ≡ None) × (b ≡ None)
both_none None b h = (refl, h)
both_none (Some fault) b h = absurd cc

-- where no member has a fault, each is a table
is_table : (earlier : List (List ℕ)) (number : ℕ) (found : Data)
    → vcpu_fault earlier number (as_table found) ≡ None
    → (keys : Members) × (found ≡ table keys)
is_table earlier number (string s) h = absurd cc
is_table earlier number (integer z) h = absurd cc
is_table earlier number (float x) h = absurd cc
is_table earlier number (boolean b) h = absurd cc
is_table earlier number (datetime d) h = absurd cc
is_table earlier number (array items) h = absurd cc
is_table earlier number (table keys) h = (keys, refl)

-- each member below the count is a table
pub all_tables : (earlier : List (List ℕ)) (number : ℕ) (items : Items)
    → vcpus_fault earlier number items ≡ None → (k : ℕ) → k < count_of items
    → (keys : Members) × (get_item k items ≡ Some (table keys))
unfolding vcpus_fault
all_tables earlier number no_items h k lt = absurd (omega (arith, lt))
all_tables earlier number (item found items) h zero lt =
    let first = both_none (vcpu_fault earlier number (as_table found)) _ h in
    let is = is_table earlier number found first.0 in
    (is.0, ap Some is.1)
all_tables earlier number (item found items) h (suc k) lt =
    let first = both_none (vcpu_fault earlier number (as_table found)) _ h in
    all_tables (earlier ++ member_names number (as_table found)) (number + 1) items first.1 k
    (omega (arith, lt))

-- a member states one reservation at most
one_reservation : (number : ℕ) (keys : Members) (a b : Option Reservation)
    → IsReservationOf number keys a → IsReservationOf number keys b → a ≡ b
one_reservation number keys None None of_a of_b = refl
one_reservation number keys None (Some b) of_a of_b =
    let e : ◌≡◌ {A = Result Bool HostFault} (Ok false) (Ok true) = sym of_a ∙ of_b.0 in absurd cc
one_reservation number keys (Some a) None of_a of_b =
    let e : ◌≡◌ {A = Result Bool HostFault} (Ok false) (Ok true) = sym of_b ∙ of_a.0 in absurd cc
one_reservation number keys (Some a) (Some b) of_a of_b =
    let shares : ◌≡◌ {A = Result ℕ HostFault} (Ok a.share_ppm) (Ok b.share_ppm) = sym of_a.1 ∙ of_b.1 in
    let latencies : ◌≡◌ {A = Result ℕ HostFault} (Ok a.latency_ns) (Ok b.latency_ns) =
    sym of_a.2 ∙ of_b.2 in
    let share : a.share_ppm ≡ b.share_ppm = cc in
    let latency : a.latency_ns ≡ b.latency_ns = cc in
    ap Some (same_reservation a b share latency)

-- a member states one vCPU at most
one_vcpu : (number : ℕ) (keys : Members) (a b : Vcpu) → IsVcpuOf number keys a
    → IsVcpuOf number keys b → a ≡ b
one_vcpu number keys a b of_a of_b =
    let names : ◌≡◌ {A = Result (List ℕ) HostFault} (Ok a.name) (Ok b.name) = sym of_a.name ∙ of_b.name in
    let runs : ◌≡◌ {A = Result Bool HostFault} (Ok a.runnable) (Ok b.runnable) =
    sym of_a.runnable ∙ of_b.runnable in
    let caps : ◌≡◌ {A = Result Bool HostFault} (Ok a.capped) (Ok b.capped) =
    sym of_a.capped ∙ of_b.capped in
    let name : a.name ≡ b.name = cc in
    let runnable : a.runnable ≡ b.runnable = cc in
    let capped : a.capped ≡ b.capped = cc in
    same_vcpu a b name
    (one_reservation number keys a.reservation b.reservation of_a.reservation of_b.reservation)
    runnable capped

-- members without a fault state one list of vCPUs
one_list : (items : Items) (us ws : List Vcpu) → vcpus_fault [] 0 items ≡ None → AreVcpusOf items us
    → AreVcpusOf items ws → us ≡ ws
one_list items us ws faultless of_us of_ws = same_lists us ws (of_us.count ∙ sym of_ws.count) (λ k d lt.
    let here = all_tables [] 0 items faultless k (omega (arith, lt, of_us.count)) in
    one_vcpu k here.0 (get_or us k d) (get_or ws k d)
    (of_us.each k here.0 (get_or us k d) here.1 (slice_get-get_or us k d lt))
    (of_ws.each k here.0 (get_or ws k d) here.1
    (slice_get-get_or ws k d (omega (arith, lt, of_us.count, of_ws.count)))))

-- the members of an array that is found at its key state one list of vCPUs
one_vcpus : (found : Result Items HostFault) (us ws : List Vcpu) → result_err found ≡ None
    → members_fault found ≡ None → IfOk found (λ items. AreVcpusOf items us)
    → IfOk found (λ items. AreVcpusOf items ws) → us ≡ ws
one_vcpus (Ok items) us ws is_ok faultless of_us of_ws = one_list items us ws faultless of_us of_ws
one_vcpus (Err fault) us ws is_ok faultless of_us of_ws = absurd cc

-- where a document has no fault, its array and the keys have none
pub array_faultless : (keys : Members) → first_fault keys ≡ None
    → (result_err (vcpus_of keys) ≡ None) × (members_fault (vcpus_of keys) ≡ None)
unfolding first_fault
array_faultless keys h =
    let format = both_none (result_err (format_of keys)) _ h in
    let tick = both_none (result_err (tick_of keys)) _ format.1 in
    let cores = both_none (result_err (cores_of keys)) _ tick.1 in
    let lag = both_none (result_err (lag_of keys)) _ cores.1 in
    let sliver = both_none (result_err (sliver_of keys)) _ lag.1 in
    let quantum = both_none (result_err (quantum_of keys)) _ sliver.1 in
    let vcpus = both_none (result_err (vcpus_of keys)) _ quantum.1 in
    let unknown = both_none (unknown_key (of_document Unknown) (document_keys keys) keys) _ vcpus.1 in
    let each = both_none (members_fault (vcpus_of keys)) None unknown.1 in
    (vcpus.0, each.0)

-- a document states one host at most
hosts_alike : (keys : Members) (a b : Host) → IsHostOf keys a → IsHostOf keys b → a ≡ b
hosts_alike keys a b of_a of_b =
    let faultless = array_faultless keys of_a.faultless in
    let tick' : ◌≡◌ {A = Result ℕ HostFault} (Ok a.tick_ns) (Ok b.tick_ns) =
    sym of_a.tick_ns ∙ of_b.tick_ns in
    let cores' : ◌≡◌ {A = Result ℕ HostFault} (Ok a.cores) (Ok b.cores) = sym of_a.cores ∙ of_b.cores in
    let lag' : ◌≡◌ {A = Result ℕ HostFault} (Ok a.lag) (Ok b.lag) = sym of_a.lag ∙ of_b.lag in
    let sliver' : ◌≡◌ {A = Result ℕ HostFault} (Ok a.sliver) (Ok b.sliver) = sym of_a.sliver ∙ of_b.sliver in
    let quantum' : ◌≡◌ {A = Result ℕ HostFault} (Ok a.quantum) (Ok b.quantum) =
    sym of_a.quantum ∙ of_b.quantum in
    let tick : a.tick_ns ≡ b.tick_ns = cc in
    let cores : a.cores ≡ b.cores = cc in
    let lag : a.lag ≡ b.lag = cc in
    let sliver : a.sliver ≡ b.sliver = cc in
    let quantum : a.quantum ≡ b.quantum = cc in
    same_host a b tick cores lag sliver quantum
    (one_vcpus (vcpus_of keys) a.vcpus b.vcpus faultless.0 faultless.1 of_a.vcpus of_b.vcpus)

-- bytes state one host at most
pub one_host : (bytes : List ℕ) (a b : Host) → IsHostText bytes a → IsHostText bytes b → a ≡ b
one_host bytes a b of_a of_b =
    let both : Some of_a.0 ≡ Some of_b.0 = sym of_a.1.1 ∙ of_b.1.1 in
    let same : of_a.0 ≡ of_b.0 = cc in
    hosts_alike of_a.0 a b of_a.2 (subst (λ keys. IsHostOf keys b) (sym same) of_b.2)

-- ---- one fault

-- a document has one list of members, so its faults are of one list
same_members : (bytes : List ℕ) (a b : Members) → IsDocument bytes a → IsDocument bytes b → a ≡ b
same_members bytes a b p q = let e = sym p.1 ∙ q.1 in cc

-- a document that stands for a host has no first fault
pub has_no_fault : (bytes : List ℕ) (fault : HostFault) (h : Host) → HasFirstFault bytes fault
    → IsHostText bytes h → ⊥
has_no_fault bytes fault h p q =
    let same = same_members bytes p.0 q.0 p.1 q.1 in
    let e : Some fault ≡ None = sym p.2 ∙ ap first_fault same ∙ q.2.faultless in cc

-- a document has one first fault
pub one_first_fault : (bytes : List ℕ) (f g : HostFault) → HasFirstFault bytes f → HasFirstFault bytes g → f ≡ g
one_first_fault bytes f g p q =
    let same = same_members bytes p.0 q.0 p.1 q.1 in
    let e : Some f ≡ Some g = sym p.2 ∙ ap first_fault same ∙ q.2 in cc
