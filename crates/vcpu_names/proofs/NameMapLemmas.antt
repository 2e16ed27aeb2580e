-- A map of names with one more.
use Rattle.std.proofs.Common.{◌≡◌, ◌≢◌, ℕ, ◌+◌, ◌<◌, ◌≤◌, Bool, true, false, cond, List, [], ◌∷◌, ◌++◌, length, take, get_or, zero, suc, Option, Some, None, IfNone, Bor, BTreeMap, bytes_eq, nat_cmp, refl, sym, ◌∙◌, ap, subst, arith}
use Rattle.std.proofs.lemmas.Grind.{common_steps}
use Rattle.std.proofs.lemmas.List.{take_more}
use Rattle.std.proofs.lemmas.Map.Text.{btree_map_updates_str}
use Rattle.std.proofs.lemmas.Option.{slice_get-map, slice_get_within, get_or_from_slice_get}
use Rattle.std.specs.List.{slice_get}
use Rattle.std.specs.Option.{option_map}
use Rattle.std.proofs.lemmas.Slice.Eq.{bytes_eq-Decides}
use Rattle.std.specs.BTreeMap.{Updates}
use Rattle.std.specs.Cmp.Lexicographic.{slice_cmp}
use Rattle.tab_core.specs.Name.{IsName}
use Rattle.tab_core.specs.declared.vcpu.Vcpu.{Vcpu}
use Rattle.vcpu_names.specs.Names.{AreNames, HasNumbers, IsUnknown, name_at, names_of, number_at}

-- what a look-up finds after an insertion, in the words of the specification
number_at-added : (numbers more : BTreeMap (Bor (List ℕ)) ℕ) (key : Bor (List ℕ)) (vcpu : ℕ)
    → Updates (λ a b. slice_cmp nat_cmp a.now b.now) numbers more key (Some vcpu)
    → (name : List ℕ) → number_at more name ≡ cond (bytes_eq key.now name) (Some vcpu)
    (number_at numbers name)
number_at-added numbers more key vcpu updates name =
    btree_map_updates_str key.now numbers more (Some vcpu) updates name

-- the new name is at its number
at_last : (names : List (List ℕ)) (name : List ℕ) → get_or (names ++ name ∷ []) (length names) [] ≡ name
at_last names name = grind (arith, common_steps)

-- the names before a new one stay at their numbers
at_before : (names : List (List ℕ)) (name : List ℕ) (vcpu : ℕ) → vcpu < length names
    → get_or (names ++ name ∷ []) vcpu [] ≡ get_or names vcpu []
at_before names name vcpu low = grind (arith, common_steps)

-- there is one name more
longer : (names : List (List ℕ)) (name : List ℕ) → length (names ++ name ∷ []) ≡ length names + 1
longer names name = grind (arith, common_steps)

-- what is found after an insertion has that name
known_more : (names : List (List ℕ)) (name other : List ℕ) (vcpu : ℕ) (before : Option ℕ) (same : Bool)
    → ((v : ℕ) → before ≡ Some v → (v < length names) × (name_at names v ≡ other) × IsName other)
    → IsName name
    → bytes_eq name other ≡ same → cond same (Some (length names)) before ≡ Some vcpu
    → (vcpu < length (names ++ name ∷ [])) × (name_at (names ++ name ∷ []) vcpu ≡ other) × IsName other
known_more names name other vcpu before true known good is at =
    let here : length names ≡ vcpu = cc in
    let text : name ≡ other = (bytes_eq-Decides name other).0 is in
    let size = longer names name in
    let last = at_last names name in
    (omega arith, rw (← here) (last ∙ text), rw (← text) good)
known_more names name other vcpu before false known good is at =
    let old = known vcpu at in
    let size = longer names name in
    (omega arith, at_before names name vcpu old.0 ∙ old.1, old.2)

-- what isn't found after an insertion is no name
unknown_more : (names : List (List ℕ)) (name other : List ℕ) (before : Option ℕ) (same : Bool)
    → (before ≡ None → IsUnknown names other) → bytes_eq name other ≡ same
    → cond same (Some (length names)) before ≡ None → IsUnknown (names ++ name ∷ []) other
unknown_more names name other before true every is at = absurd (cc)
unknown_more names name other before false every is at = λ vcpu low text.
    let size = longer names name in
    let differs : name ≢ other = λ same. cc (is, (bytes_eq-Decides name other).1 same) in
    let last = at_last names name in
    let here : vcpu ≡ length names → ⊥ =
    λ same. differs
    (sym last ∙ (ap (λ (v : ℕ). get_or (names ++ name ∷ []) v []) (sym same) ∙ text)) in
    let below : vcpu < length names = omega arith in
    every at vcpu below (sym (at_before names name vcpu below) ∙ text)

-- the map with one name more
pub has_more : (names : List (List ℕ)) (numbers more : BTreeMap (Bor (List ℕ)) ℕ)
    (key : Bor (List ℕ)) (vcpu : ℕ)
    → HasNumbers names numbers → IsName key.now → vcpu ≡ length names
    → Updates (λ a b. slice_cmp nat_cmp a.now b.now) numbers more key (Some vcpu)
    → HasNumbers (names ++ key.now ∷ []) more
has_more names numbers more key vcpu has good next updates =
    let added : (name : List ℕ) → number_at more name
    ≡ cond (bytes_eq key.now name) (Some (length names)) (number_at numbers name) =
    λ name. number_at-added numbers more key vcpu updates name
    ∙ ap (λ (v : ℕ). cond (bytes_eq key.now name) (Some v) (number_at numbers name)) next in
    record {
      known = λ name v at. known_more names key.now name v (number_at numbers name)
          (bytes_eq key.now name) (has.known name) good refl (sym (added name) ∙ at);
      every = λ name at. unknown_more names key.now name (number_at numbers name)
          (bytes_eq key.now name) (has.every name) refl (sym (added name) ∙ at);
    }

-- a look-up that finds nothing
pub unknown_if : (names : List (List ℕ)) (numbers : BTreeMap (Bor (List ℕ)) ℕ) (name : List ℕ)
    (found : Option ℕ)
    → HasNumbers names numbers → found ≡ number_at numbers name → IfNone found (IsUnknown names name)
unknown_if names numbers name None has is = has.every name (sym is)
unknown_if names numbers name (Some vcpu) has is = tt

-- the list of names has each vCPU's name at its number
name_of_one : (vcpus : List Vcpu) (i : ℕ) (d : Vcpu) → i < length vcpus
    → get_or (names_of vcpus) i [] ≡ (get_or vcpus i d).name
name_of_one [] i d low = absurd (omega arith)
name_of_one (vcpu ∷ vcpus) zero d low = refl
name_of_one (vcpu ∷ vcpus) (suc i) d low = name_of_one vcpus i d (omega arith)

-- there are as many names as vCPUs
length-names_of : (vcpus : List Vcpu) → length (names_of vcpus) ≡ length vcpus
length-names_of [] = refl
length-names_of (vcpu ∷ vcpus) = ap suc (length-names_of vcpus)

-- the loop's step: the names of one vCPU more
pub names_more : (vcpus : List Vcpu) (i : ℕ) (vcpu : Vcpu) → i < length vcpus → vcpu ≡ get_or vcpus i vcpu
    → take (i + 1) (names_of vcpus) ≡ take i (names_of vcpus) ++ vcpu.name ∷ []
names_more vcpus i vcpu low is =
    let size = length-names_of vcpus in
    take_more (names_of vcpus) i [] (omega arith)
    ∙ ap (λ (name : List ℕ). take i (names_of vcpus) ++ name ∷ [])
    (name_of_one vcpus i vcpu low ∙ ap (λ (v : Vcpu). v.name) (sym is))

-- the number that the loop gives a vCPU is the next free one
pub length_names : (vcpus : List Vcpu) (i : ℕ) → i < length vcpus → i ≡ length (take i (names_of vcpus))
length_names vcpus i low =
    let size = length-names_of vcpus in
    grind (arith, common_steps)

-- a name with a number was inserted, so it has the form of a name
good_if : (names : List (List ℕ)) (numbers : BTreeMap (Bor (List ℕ)) ℕ) (vcpu : ℕ) (found : Option ℕ)
    → HasNumbers names numbers → vcpu < length names
    → number_at numbers (name_at names vcpu) ≡ found → IsName (name_at names vcpu)
good_if names numbers vcpu None has low is = absurd (has.every (name_at names vcpu) is vcpu low refl)
good_if names numbers vcpu (Some other) has low is = (has.known (name_at names vcpu) other is).2

-- names that a map has are good
all_good : (names : List (List ℕ)) (numbers : BTreeMap (Bor (List ℕ)) ℕ) → HasNumbers names numbers
    → AreNames names
all_good names numbers has vcpu low =
    good_if names numbers vcpu (number_at numbers (name_at names vcpu)) has low refl

-- names that a map of the first ones has, which are all
pub good_in_whole : (vcpus : List Vcpu) (end : ℕ) (numbers : BTreeMap (Bor (List ℕ)) ℕ) → length vcpus ≤ end
    → HasNumbers (take end (names_of vcpus)) numbers → AreNames (names_of vcpus)
good_in_whole vcpus end numbers past has =
    let size = length-names_of vcpus in
    let whole : take end (names_of vcpus) ≡ names_of vcpus = grind (arith, common_steps) in
    subst AreNames whole (all_good (take end (names_of vcpus)) numbers has)

-- a vCPU that is found at its number has its name there
pub named : (vcpus : List Vcpu) (at : ℕ) (v : Vcpu) (name : List ℕ) → slice_get vcpus at ≡ Some v
    → v.name ≡ name → IsName v.name
    → (at < length (names_of vcpus)) × (name_at (names_of vcpus) at ≡ name) × IsName name
named vcpus at v name is same good =
    let held : slice_get (names_of vcpus) at ≡ Some v.name =
    slice_get-map (λ (x : Vcpu). x.name) vcpus at ∙ ap (option_map (λ (x : Vcpu). x.name)) is in (
      slice_get_within (names_of vcpus) at v.name held,
      get_or_from_slice_get (names_of vcpus) at v.name [] held ∙ same,
      subst IsName same good,
    )
