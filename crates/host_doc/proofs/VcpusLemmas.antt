-- The members of `vcpu` that have been read so far, one after the other.
use Rattle.std.proofs.Common.{◌≡◌, ◌⊎◌, inl, inr, ℕ, zero, suc, ◌+◌, ◌<◌, ◌≤◌, Bool, Bor, BTreeSet, true, false, ◌||◌, List, [], ◌∷◌, ◌++◌, length, map, get_or, drop, Option, Some, None, Ok, refl, sym, ap, ◌∙◌, bytes_eq, arith}
use Rattle.std.proofs.lemmas.Bool.Decides.{nat_tests}
use Rattle.std.proofs.lemmas.Grind.{common_steps}
use Rattle.std.proofs.lemmas.List.{drop_all, map-append}
use Rattle.std.proofs.lemmas.List.Folds.{list_any-append}
use Rattle.std.specs.List.{list_any, slice_get}
use Rattle.std.specs.Option.{option_or}
use Rattle.tab_core.specs.Vcpus.{HaveDistinctNames}
use Rattle.tab_core.specs.declared.vcpu.Vcpu.{Vcpu}
use Rattle.toml.proofs.Views.{items_view-drop, get_item_within}
use Rattle.toml.specs.Data.{Members, as_table, get_item, table}
use Rattle.toml.specs.View.{items_view, view}
use Rattle.toml.specs.declared.value.Value.{Value}
use Rattle.host_doc.specs.Array.{count_of}
use Rattle.host_doc.specs.KeyTable.{name_of}
use Rattle.host_doc.specs.VcpuFaults.{member_names, settings_fault, vcpu_fault, vcpus_fault}
use Rattle.host_doc.specs.Vcpus.{AreVcpusOf, EachIsVcpuOf, IsVcpuOf}
use Rattle.host_doc.specs.Inside.TextSets.{has_text}
use Rattle.host_doc.specs.declared.fault.HostFault.{HostFault}

-- a name equals itself by the test too
pub bytes_eq-same : (xs : List ℕ) → bytes_eq xs xs ≡ true
bytes_eq-same [] = refl
bytes_eq-same (x ∷ xs) = grind (arith, nat_tests, bytes_eq-same xs)

-- a test that is met stays met when another one comes before it
or-true : (b : Bool) → (b || true) ≡ true
or-true true = refl
or-true false = refl

-- the definition's count of an array is the length that the code reads
pub count_of_values : (values : List Value) → count_of (items_view values) ≡ length values
count_of_values [] = refl
count_of_values (value ∷ values) = ap suc (count_of_values values)

-- the names of vCPUs
abbrev pub names : List Vcpu → List (List ℕ)
names vcpus = map (λ vcpu. vcpu.name) vcpus

-- the first fault of the members, where those before this value have none
pub fault_from : (values : List Value) (earlier : List (List ℕ)) (number : ℕ) (value : Value)
    → number < length values → value ≡ get_or values number value
    → vcpus_fault [] 0 (items_view values) ≡ vcpus_fault earlier number (items_view (drop number values))
    → vcpus_fault [] 0 (items_view values)
    ≡ option_or (vcpu_fault earlier number (as_table (view value)))
    (vcpus_fault (earlier ++ member_names number (as_table (view value))) (number + 1)
    (items_view (drop (number + 1) values)))
unfolding vcpus_fault
fault_from values earlier number value within is rest =
    rest
    ∙ ap (vcpus_fault earlier number) (items_view-drop values number value within)
    ∙ ap (λ (v : Value). option_or (vcpu_fault earlier number (as_table (view v)))
    (vcpus_fault (earlier ++ member_names number (as_table (view v))) (number + 1)
    (items_view (drop (number + 1) values)))) (sym is)

or-none : (fault : Option HostFault) → option_or fault None ≡ fault
or-none None = refl
or-none (Some fault) = refl

-- a member whose name is new has the fault of what is after its name
pub fault_named : (earlier : List (List ℕ)) (number : ℕ) (found : Option Members) (keys : Members)
    (name : List ℕ) → found ≡ Some keys
    → name_of number keys ≡ Ok name → list_any (bytes_eq name) earlier ≡ false
    → vcpu_fault earlier number found ≡ settings_fault number keys
fault_named earlier number found keys name is named new =
    rw (is, named, new) (or-none (settings_fault number keys))

-- the names of a member that has one are this name
pub names_named : (number : ℕ) (found : Option Members) (keys : Members) (name : List ℕ) → found ≡ Some keys
    → name_of number keys ≡ Ok name → member_names number found ≡ name ∷ []
names_named number found keys name is named = rw (is, named)

-- one more vCPU makes the list longer by one
length-last : {A : Type 0} (xs : List A) (x : A) → length (xs ++ x ∷ []) ≡ length xs + 1
length-last xs x = grind (arith, common_steps)

-- an element of a list with one more is that one or was there before
slice_get-last : {A : Type 0} (xs : List A) (x y : A) (k : ℕ) → slice_get (xs ++ x ∷ []) k ≡ Some y
    → (slice_get xs k ≡ Some y) ⊎ ((k ≡ length xs) × (x ≡ y))
slice_get-last [] x y zero h = inr (refl, cc)
slice_get-last [] x y (suc k) h = absurd (cc)
slice_get-last (z ∷ xs) x y zero h = inl h
slice_get-last (z ∷ xs) x y (suc k) h =
    elim (slice_get-last xs x y k h)
    [ inl before ↦ inl before | inr last ↦ inr (ap suc last.0, last.1) ]

-- a vCPU's name is among the names of all
name_held : (vcpus : List Vcpu) (a : Vcpu) (j : ℕ) → slice_get vcpus j ≡ Some a
    → list_any (bytes_eq a.name) (names vcpus) ≡ true
name_held [] a j h = absurd (cc)
name_held (v ∷ vcpus) a zero h = let same : v ≡ a = cc in rw (same, bytes_eq-same a.name)
name_held (v ∷ vcpus) a (suc j) h = rw (name_held vcpus a j h) (or-true (bytes_eq a.name v.name))

-- a vCPU of a new name keeps the names distinct
pub distinct_with : (vcpus : List Vcpu) (vcpu : Vcpu) → HaveDistinctNames vcpus
    → list_any (bytes_eq vcpu.name) (names vcpus) ≡ false → HaveDistinctNames (vcpus ++ vcpu ∷ [])
distinct_with vcpus vcpu distinct new = λ j k a b at_j at_k same.
    elim (slice_get-last vcpus vcpu a j at_j) [
      | inl j_before ↦ elim (slice_get-last vcpus vcpu b k at_k) [
        | inl k_before ↦ distinct j k a b j_before k_before same
        | inr k_last ↦
            let held = name_held vcpus a j j_before in
            let name : a.name ≡ vcpu.name = same ∙ ap (λ (v : Vcpu). v.name) (sym k_last.1) in
            absurd cc
      ]
      | inr j_last ↦ elim (slice_get-last vcpus vcpu b k at_k) [
        | inl k_before ↦
            let held = name_held vcpus b k k_before in
            let name : b.name ≡ vcpu.name = sym same ∙ ap (λ (v : Vcpu). v.name) (sym j_last.1) in
            absurd cc
        | inr k_last ↦ j_last.0 ∙ sym k_last.0
      ]
    ]

-- the vCPU of one more member is the one that the member stands for
pub each_with : (values : List Value) (vcpus : List Vcpu) (vcpu : Vcpu) (number : ℕ) (value : Value)
    (members : Members) → length vcpus ≡ number → number < length values
    → value ≡ get_or values number value → as_table (view value) ≡ Some members → IsVcpuOf number members vcpu
    → EachIsVcpuOf (items_view values) vcpus → EachIsVcpuOf (items_view values) (vcpus ++ vcpu ∷ [])
each_with values vcpus vcpu number value members count within is found this each = λ k ms v at_item at_vcpu.
    elim (slice_get-last vcpus vcpu v k at_vcpu) [
      | inl before ↦ each k ms v at_item before
      | inr last ↦
          let here : k ≡ number = last.0 ∙ count in
          let item : Some (view value) ≡ get_item number (items_view values) =
          ap (λ (x : Value). Some (view x)) is ∙ get_item_within values number value within
          in
          let same : view value ≡ table ms = cc in
          let of : members ≡ ms = cc in
          rw (here, ← of, ← last.1) this
    ]

-- the members below `index` have no fault and stand for the vCPUs, whose names are the set's texts
pub record AreRead (values : List Value) (index : ℕ) (texts : BTreeSet (Bor (List ℕ)))
    (vcpus : List Vcpu) : Type 0 where
  pub count : length vcpus ≡ index
  pub each : EachIsVcpuOf (items_view values) vcpus
  pub rest : vcpus_fault [] 0 (items_view values)
      ≡ vcpus_fault (names vcpus) index (items_view (drop index values))
  pub held : (text : List ℕ) → has_text texts text ≡ list_any (bytes_eq text) (names vcpus)
  pub distinct : HaveDistinctNames vcpus

-- one more vCPU adds its name to the names
names-last : (vcpus : List Vcpu) (vcpu : Vcpu) → names (vcpus ++ vcpu ∷ []) ≡ names vcpus ++ vcpu.name ∷ []
names-last vcpus vcpu = map-append (λ (v : Vcpu). v.name) vcpus (vcpu ∷ [])

-- the order in which a set and a list test for a name makes no difference
pub or-last : (a b : Bool) → (a || b) ≡ (b || (a || false))
or-last true true = refl
or-last true false = refl
or-last false true = refl
or-last false false = refl

-- one more member
pub read_more : (values : List Value) (index : ℕ) (texts more : BTreeSet (Bor (List ℕ)))
    (vcpus : List Vcpu) (vcpu : Vcpu) (value : Value) (found : Members)
    → AreRead values index texts vcpus → index < length values → value ≡ get_or values index value
    → as_table (view value) ≡ Some found
    → IsVcpuOf index found vcpu → settings_fault index found ≡ None → has_text texts vcpu.name ≡ false
    → ((text : List ℕ) → has_text more text ≡ (bytes_eq text vcpu.name || has_text texts text))
    → AreRead values (index + 1) more (vcpus ++ vcpu ∷ [])
read_more values index texts more vcpus vcpu value found read within is table_is this settled absent adds =
    let new : list_any (bytes_eq vcpu.name) (names vcpus) ≡ false = sym (read.held vcpu.name) ∙ absent in
    record {
      count = length-last vcpus vcpu ∙ ap (λ (n : ℕ). n + 1) read.count;
      each = each_with values vcpus vcpu index value found read.count within is table_is this read.each;
      rest =
          fault_from values (names vcpus) index value within is read.rest
          ∙ rw (
            fault_named (names vcpus) index
                (as_table (view value)) found vcpu.name table_is this.name new,
            settled,
            names_named index (as_table (view value)) found vcpu.name table_is this.name,
            ← names-last vcpus vcpu,
          ) refl;
      held = λ text. adds text ∙ rw (
        names-last vcpus vcpu,
        list_any-append (bytes_eq text) (names vcpus) (vcpu.name ∷ []),
        read.held text,
      )
          (or-last (bytes_eq text vcpu.name) (list_any (bytes_eq text) (names vcpus)));
      distinct = distinct_with vcpus vcpu read.distinct new;
    }

-- all members
pub all_faultless : (values : List Value) (index : ℕ) (texts : BTreeSet (Bor (List ℕ)))
    (vcpus : List Vcpu) → AreRead values index texts vcpus → length values ≤ index
    → vcpus_fault [] 0 (items_view values) ≡ None
unfolding vcpus_fault
all_faultless values index texts vcpus read past = read.rest ∙ rw (drop_all index values past) refl

-- after the last member the vCPUs are those that the members stand for
pub all_read : (values : List Value) (index : ℕ) (texts : BTreeSet (Bor (List ℕ)))
    (vcpus : List Vcpu) → AreRead values index texts vcpus → index ≡ length values
    → AreVcpusOf (items_view values) vcpus
all_read values index texts vcpus read past =
    record { count = read.count ∙ past ∙ sym (count_of_values values); each = read.each }
