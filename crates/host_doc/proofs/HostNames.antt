-- The vCPUs that a document states are few, and have names of which no two are one.
use Rattle.std.proofs.Common.{◌≡◌, leb, ℕ, zero, suc, ◌+◌, ◌<◌, ◌≤◌, Bool, true, false, List, [], ◌++◌, length, slice_get, Option, Some, None, Result, Ok, Err, IfOk, refl, sym, ap, subst, ◌∙◌, arith, inl, inr, bytes_eq}
use Rattle.std.proofs.lemmas.Bool.{cases_lt, false≢true, leb-true, or_parts}
use Rattle.std.proofs.lemmas.List.Folds.{list_any-append}
use Rattle.std.proofs.lemmas.Option.{slice_get_within}
use Rattle.std.specs.List.{list_any}
use Rattle.std.specs.Result.{result_err}
use Rattle.tab_core.specs.Name.{IsName, is_name}
use Rattle.tab_core.specs.Vcpus.{HaveDistinctNames}
use Rattle.tab_core.specs.declared.TheConstants.{MAX_VCPUS}
use Rattle.tab_core.specs.declared.host.Host.{Host}
use Rattle.tab_core.specs.declared.vcpu.Vcpu.{Vcpu}
use Rattle.toml.specs.Data.{Data, Items, Members, as_array, as_table, get_item, item, no_items, table}
use Rattle.host_doc.specs.Document.{IsHostText, members_fault}
use Rattle.host_doc.specs.Array.{count_of, items_or, limited}
use Rattle.host_doc.specs.KeyTable.{name_of, vcpus_of}
use Rattle.host_doc.specs.Text.{text_at, well_formed}
use Rattle.host_doc.specs.Value.{found_at}
use Rattle.host_doc.specs.VcpuFaults.{member_names, same_name, vcpu_fault, vcpus_fault}
use Rattle.host_doc.specs.Vcpus.{AreVcpusOf}
use Rattle.host_doc.specs.Path.{of_document, of_vcpu}
use Rattle.host_doc.specs.declared.fault.HostFault.{HostFault}
use Rattle.host_doc.specs.declared.fault.HostFault.TheVariants.{OutOfRange, SameName, TooMany}
use Rattle.host_doc.specs.declared.fault.Key.TheVariants.{Name, Vcpu as VcpuKey}
use Rattle.host_doc.specs.declared.fault.Path.{Path}
use Rattle.host_doc.proofs.OneHost.{all_tables, array_faultless, both_none}
use Rattle.host_doc.proofs.VcpusLemmas.{bytes_eq-same, names_named}

-- a member's name is none of the names before it
new_name : (earlier : List (List ℕ)) (number : ℕ) (name : List ℕ)
    → same_name earlier number (Ok name) ≡ None → list_any (bytes_eq name) earlier ≡ false
new_name earlier number name h = by_test (list_any (bytes_eq name) earlier) refl
  where
    by_test : (b : Bool) → list_any (bytes_eq name) earlier ≡ b → list_any (bytes_eq name) earlier ≡ false
    by_test true held =
        let e : ◌≡◌ {A = Option HostFault} (Some (SameName number)) None = rw held at h in absurd cc
    by_test false new = new

-- a member without a fault has no name of those before the first
unlike_earlier : (earlier : List (List ℕ)) (number : ℕ) (items : Items)
    → vcpus_fault earlier number items ≡ None → (k : ℕ) (keys : Members) (name : List ℕ)
    → get_item k items ≡ Some (table keys) → name_of (number + k) keys ≡ Ok name
    → list_any (bytes_eq name) earlier ≡ false
unfolding vcpus_fault
unlike_earlier earlier number no_items h k keys name at is = absurd cc
unlike_earlier earlier number (item found items) h zero keys name at is =
    let first = both_none (vcpu_fault earlier number (as_table found)) _ h in
    let same : found ≡ table keys = cc in
    let here : vcpu_fault earlier number (Some keys) ≡ None =
    subst (λ (d : Data). vcpu_fault earlier number (as_table d) ≡ None) same first.0 in
    let named = both_none (result_err (name_of number keys)) _ here in
    let new = both_none (same_name earlier number (name_of number keys)) _ named.1 in
    let number_is : number + zero ≡ number = omega arith in
    let is' = subst (λ n. name_of n keys ≡ Ok name) number_is is in
    new_name earlier number name (subst (λ found. same_name earlier number found ≡ None) is' new.0)
unlike_earlier earlier number (item found items) h (suc k) keys name at is =
    let first = both_none (vcpu_fault earlier number (as_table found)) _ h in
    let number_is : number + suc k ≡ number + 1 + k = omega arith in
    let behind = unlike_earlier (earlier ++ member_names number (as_table found)) (number + 1) items first.1
    k keys name at (subst (λ n. name_of n keys ≡ Ok name) number_is is) in
    (or_parts (list_any (bytes_eq name) earlier)
    (list_any (bytes_eq name) (member_names number (as_table found)))
    (sym (list_any-append (bytes_eq name) earlier (member_names number (as_table found))) ∙ behind)).0

-- of two members the later has another name
unlike : (earlier : List (List ℕ)) (number : ℕ) (items : Items) → vcpus_fault earlier number items ≡ None
    → (j k : ℕ) (a b : Members) (name : List ℕ) → j < k → get_item j items ≡ Some (table a)
    → get_item k items ≡ Some (table b) → name_of (number + j) a ≡ Ok name
    → name_of (number + k) b ≡ Ok name → ⊥
unfolding vcpus_fault
unlike earlier number no_items h j k a b name lt at_j at_k is_j is_k = absurd cc
unlike earlier number (item found items) h zero zero a b name lt at_j at_k is_j is_k =
    absurd (omega (arith, lt))
unlike earlier number (item found items) h (suc j) zero a b name lt at_j at_k is_j is_k =
    absurd (omega (arith, lt))
unlike earlier number (item found items) h zero (suc k) a b name lt at_j at_k is_j is_k =
    let first = both_none (vcpu_fault earlier number (as_table found)) _ h in
    let same : found ≡ table a = cc in
    let first_is : number + zero ≡ number = omega arith in
    let next_is : number + suc k ≡ number + 1 + k = omega arith in
    let names = names_named number (as_table found) a name (ap as_table same)
    (subst (λ n. name_of n a ≡ Ok name) first_is is_j) in
    let behind = unlike_earlier (earlier ++ member_names number (as_table found)) (number + 1) items first.1
    k b name at_k (subst (λ n. name_of n b ≡ Ok name) next_is is_k) in
    let apart = (or_parts (list_any (bytes_eq name) earlier)
    (list_any (bytes_eq name) (member_names number (as_table found)))
    (sym (list_any-append (bytes_eq name) earlier (member_names number (as_table found))) ∙ behind)).1 in
    let other = (or_parts (bytes_eq name name) false
    (subst (λ ns. list_any (bytes_eq name) ns ≡ false) names apart)).0 in
    false≢true (sym other ∙ bytes_eq-same name)
unlike earlier number (item found items) h (suc j) (suc k) a b name lt at_j at_k is_j is_k =
    let first = both_none (vcpu_fault earlier number (as_table found)) _ h in
    let lower_is : number + suc j ≡ number + 1 + j = omega arith in
    let next_is : number + suc k ≡ number + 1 + k = omega arith in
    unlike (earlier ++ member_names number (as_table found)) (number + 1) items first.1 j k a b name
    (omega (arith, lt)) at_j at_k (subst (λ n. name_of n a ≡ Ok name) lower_is is_j)
    (subst (λ n. name_of n b ≡ Ok name) next_is is_k)

-- a text that is taken for a name has its form
formed : (path : Path) (found : Result (List ℕ) HostFault) (name : List ℕ)
    → well_formed path found ≡ Ok name → IsName name
formed path (Ok text) name h = by_test (is_name text) refl
  where
    by_test : (b : Bool) → is_name text ≡ b → IsName name
    by_test true good =
        let named : ◌≡◌ {A = Result (List ℕ) HostFault} (Ok text) (Ok name) = rw good at h in
        let same : text ≡ name = cc in subst IsName same good
    by_test false bad =
        let e : ◌≡◌ {A = Result (List ℕ) HostFault} (Err (OutOfRange path)) (Ok name) = rw bad at h in absurd cc
formed path (Err fault) name h = absurd cc

-- what a faultless array says of the names
pub record AreStatedNames (vcpus : List Vcpu) : Type 0 where
  pub good : (v : ℕ) (vcpu : Vcpu) → slice_get vcpus v ≡ Some vcpu → IsName vcpu.name
  pub distinct : HaveDistinctNames vcpus

-- the member of a number is a table with the name of this vCPU
pub record IsMember (items : Items) (v : ℕ) (vcpu : Vcpu) : Type 0 where
  pub keys : Members
  pub at : get_item v items ≡ Some (table keys)
  pub named : name_of (0 + v) keys ≡ Ok vcpu.name

-- each stated vCPU has such a member
member_of : (items : Items) (vcpus : List Vcpu) → vcpus_fault [] 0 items ≡ None → AreVcpusOf items vcpus
    → (v : ℕ) (vcpu : Vcpu) → slice_get vcpus v ≡ Some vcpu → IsMember items v vcpu
member_of items vcpus faultless are v vcpu at =
    let here = all_tables [] 0 items faultless v
    (omega (arith, slice_get_within vcpus v vcpu at, are.count)) in
    let number_is : v ≡ 0 + v = omega arith in
    record {
      keys = here.0;
      at = here.1;
      named = subst (λ n. name_of n here.0 ≡ Ok vcpu.name) number_is (are.each v here.0 vcpu here.1 at).name;
    }

-- faultless members have good names of which no two are one
names_of_items : (items : Items) (vcpus : List Vcpu) → vcpus_fault [] 0 items ≡ None
    → AreVcpusOf items vcpus → AreStatedNames vcpus
names_of_items items vcpus faultless are = record {
  good = λ v vcpu at.
      let m = member_of items vcpus faultless are v vcpu at in
      formed (of_vcpu (0 + v) Name) (text_at (of_vcpu (0 + v) Name) m.keys) vcpu.name m.named;
  distinct = λ j k a b at_j at_k same.
      let m = member_of items vcpus faultless are j a at_j in
      let n = member_of items vcpus faultless are k b at_k in
      elim (cases_lt j k) [
        | inl lt ↦ absurd (unlike [] 0 items faultless j k m.keys n.keys b.name lt m.at n.at
            (m.named ∙ ap Ok same) n.named)
        | inr le ↦ elim (cases_lt k j) [
          | inl gt ↦ absurd (unlike [] 0 items faultless k j n.keys m.keys a.name gt n.at m.at
              (n.named ∙ ap Ok (sym same)) m.named)
          | inr ge ↦ omega (arith, le, ge)
        ]
      ];
}

-- the members of an array that is found at its key have good names of which no two are one
names_of_array : (found : Result Items HostFault) (vcpus : List Vcpu) → result_err found ≡ None
    → members_fault found ≡ None → IfOk found (λ items. AreVcpusOf items vcpus) → AreStatedNames vcpus
names_of_array (Ok items) vcpus is_ok faultless are = names_of_items items vcpus faultless are
names_of_array (Err fault) vcpus is_ok faultless are = absurd cc

-- the vCPUs of a stated host have good names of which no two are one
pub stated_names : (bytes : List ℕ) (host : Host) → IsHostText bytes host → AreStatedNames host.vcpus
stated_names bytes host is =
    let faultless = array_faultless is.0 is.2.faultless in
    names_of_array (vcpus_of is.0) host.vcpus faultless.0 faultless.1 is.2.vcpus

-- ---- how many they are

-- an array that is taken is within the limit
few_limited : (path : Path) (found : Option Items) (items : Items) → limited path found ≡ Ok items
    → count_of items ≤ MAX_VCPUS
few_limited path None items h = absurd cc
few_limited path (Some found) items h = by_test (leb (count_of found) MAX_VCPUS) refl
  where
    by_test : (b : Bool) → leb (count_of found) MAX_VCPUS ≡ b → count_of items ≤ MAX_VCPUS
    by_test true le =
        let kept : ◌≡◌ {A = Result Items HostFault} (Ok found) (Ok items) = rw le at h in
        let same : found ≡ items = cc in
        subst (λ i. count_of i ≤ MAX_VCPUS) same (leb-true (count_of found) MAX_VCPUS le)
    by_test false gt =
        let e : ◌≡◌ {A = Result Items HostFault} (Err (TooMany (count_of found))) (Ok items) =
        rw gt at h in absurd cc

-- an array at a key, or none, is within the limit
few_items : (path : Path) (found : Option Data) (items : Items) → items_or path no_items found ≡ Ok items
    → count_of items ≤ MAX_VCPUS
few_items path None items h =
    let same : no_items ≡ items = cc in subst (λ i. count_of i ≤ MAX_VCPUS) same (omega arith)
few_items path (Some found) items h = few_limited path (as_array found) items h

-- the vCPUs of an array are within the limit
few_of_array : (found : Result Items HostFault) (vcpus : List Vcpu)
    → ((items : Items) → found ≡ Ok items → count_of items ≤ MAX_VCPUS)
    → result_err found ≡ None → IfOk found (λ items. AreVcpusOf items vcpus) → length vcpus ≤ MAX_VCPUS
few_of_array (Ok items) vcpus few is_ok are = let le = few items refl in omega (arith, le, are.count)
few_of_array (Err fault) vcpus few is_ok are = absurd cc

-- a stated host has at most as many vCPUs as a host may have
pub stated_few : (bytes : List ℕ) (host : Host) → IsHostText bytes host → length host.vcpus ≤ MAX_VCPUS
stated_few bytes host is =
    let faultless = array_faultless is.0 is.2.faultless in
    few_of_array (vcpus_of is.0) host.vcpus
    (few_items (of_document VcpuKey) (found_at (of_document VcpuKey) is.0)) faultless.0 is.2.vcpus
