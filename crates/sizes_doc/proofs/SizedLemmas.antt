-- The vCPUs of sizes, one after the other.
use Rattle.std.proofs.Common.{◌≡◌, ◌⊎◌, inl, inr, subst, ℕ, zero, suc, ◌+◌, ◌*◌, ◌<◌, List, [], ◌∷◌, ◌++◌, append_assoc, length, map, take, drop, get_or, flat_map, refl, sym, ap, ◌∙◌, arith, add-one, length-append}
use Rattle.std.proofs.Math.Nat.{suc-mul}
use Rattle.std.proofs.Math.Seq.{take-suc}
use Rattle.std.proofs.lemmas.Grind.{flat_map-append}
use Rattle.std.proofs.lemmas.List.{append-nil}
use Rattle.std.proofs.lemmas.List.Elements.{All-append, All-cons}
use Rattle.std.proofs.lemmas.List.FromFn.{length-map-range_with_len, map-range_with_len_more}
use Rattle.std.specs.List.{All, range_with_len}
use Rattle.std.specs.Prelude.{IsSome}
use Rattle.tab_core.proofs.Lists.{range_next}
use Rattle.tab_core.specs.declared.vcpu.Vcpu.{Vcpu}
use Rattle.sizes_doc.specs.SizedHost.{HasBadName, HasSizesFault, NamesBadly, machine_vcpus, size_vcpus, sized_vcpu, sizes_vcpus}
use Rattle.sizes_doc.specs.declared.fault.SizesFault.{SizesFault}
use Rattle.sizes_doc.specs.declared.fault.SizesFault.TheVariants.{BadName, NoMemory}
use Rattle.sizes_doc.specs.declared.size.Size.{Size}

-- one more vCPU of a VM
pub vcpu_more : (size : Size) (machine number : ℕ) (before made : List Vcpu) (vcpu : Vcpu)
    → made ≡ before ++ map (sized_vcpu size machine) (range_with_len 0 number)
    → vcpu ≡ sized_vcpu size machine number
    → made ++ vcpu ∷ [] ≡ before ++ map (sized_vcpu size machine) (range_with_len 0 (number + 1))
vcpu_more size machine number before made vcpu are is = rw (are, is)
    (append_assoc before (map (sized_vcpu size machine) (range_with_len 0 number)) (sized_vcpu size machine number ∷ [])
    ∙ ap (λ vcpus. before ++ vcpus) (sym (map-range_with_len_more (sized_vcpu size machine) 0 number number (omega arith))))

-- one more VM of a size
pub machine_more : (size : Size) (machine : ℕ) (before made : List Vcpu)
    → made ≡ before ++ flat_map (machine_vcpus size) (range_with_len 0 machine)
    → made ++ machine_vcpus size machine ≡ before ++ flat_map (machine_vcpus size) (range_with_len 0 (machine + 1))
machine_more size machine before made are = rw are
    (append_assoc before (flat_map (machine_vcpus size) (range_with_len 0 machine)) (machine_vcpus size machine)
    ∙ ap (λ vcpus. before ++ vcpus) (sym (ap (flat_map (machine_vcpus size)) (range_next machine)
    ∙ (flat_map-append (machine_vcpus size) (range_with_len 0 machine) (machine ∷ [])
    ∙ ap (λ vcpus. flat_map (machine_vcpus size) (range_with_len 0 machine) ++ vcpus)
    (append-nil (machine_vcpus size machine))))))

-- one more size
pub size_more : (sizes : List Size) (index : ℕ) (size : Size) (made : List Vcpu) → index < length sizes
    → size ≡ get_or sizes index size → made ≡ sizes_vcpus (take index sizes)
    → made ++ size_vcpus size ≡ sizes_vcpus (take (index + 1) sizes)
size_more sizes index size made within is are =
    let longer : take (index + 1) sizes ≡ take index sizes ++ size ∷ [] =
    ap (λ n. take n sizes) (add-one index) ∙ take-suc sizes index size within
    ∙ ap (λ s. take index sizes ++ s ∷ []) (sym is) in
    rw (are, longer) (sym (flat_map-append size_vcpus (take index sizes) (size ∷ [])
    ∙ ap (λ vcpus. sizes_vcpus (take index sizes) ++ vcpus) (append-nil (size_vcpus size))))

-- how many vCPUs some VMs of a size have
length-machines : (size : Size) (first count : ℕ)
    → length (flat_map (machine_vcpus size) (range_with_len first count)) ≡ count * size.vcpus
length-machines size first zero = omega arith
length-machines size first (suc count) =
    length-append (machine_vcpus size first) (flat_map (machine_vcpus size) (range_with_len (first + 1) count))
    ∙ omega (
      arith,
      length-map-range_with_len (sized_vcpu size first) 0 size.vcpus,
      length-machines size (first + 1) count,
      suc-mul count size.vcpus,
    )

-- how many vCPUs all VMs of a size have
pub length-size : (size : Size) → length (size_vcpus size) ≡ size.machines * size.vcpus
length-size size = length-machines size 0 size.machines

-- the sizes before one, that one, and those after it
pub parted : (sizes : List Size) (index : ℕ) (size : Size) → index < length sizes
    → size ≡ get_or sizes index size → sizes ≡ take index sizes ++ size ∷ drop (suc index) sizes
parted [] index size within is = absurd (omega arith)
parted (first ∷ sizes) zero size within is = ap (λ s. s ∷ sizes) (sym is)
parted (first ∷ sizes) (suc index) size within is =
    ap (λ ss. first ∷ ss) (parted sizes index size (omega arith) is)

-- ---- each is admitted

-- it has a reservation
abbrev IsAdmitted : Vcpu → Type 0
IsAdmitted vcpu = IsSome vcpu.reservation

-- the vCPUs of a VM
vcpus_admitted : (size : Size) (machine first count : ℕ)
    → All IsAdmitted (map (sized_vcpu size machine) (range_with_len first count))
vcpus_admitted size machine first zero = λ k d low. absurd (omega arith)
vcpus_admitted size machine first (suc count) =
    All-cons IsAdmitted (sized_vcpu size machine first) (map (sized_vcpu size machine) (range_with_len (first + 1) count))
    refl (vcpus_admitted size machine (first + 1) count)

-- those of some VMs
machines_admitted : (size : Size) (first count : ℕ)
    → All IsAdmitted (flat_map (machine_vcpus size) (range_with_len first count))
machines_admitted size first zero = λ k d low. absurd (omega arith)
machines_admitted size first (suc count) =
    All-append IsAdmitted (machine_vcpus size first) (flat_map (machine_vcpus size) (range_with_len (first + 1) count))
    (vcpus_admitted size first 0 size.vcpus) (machines_admitted size (first + 1) count)

-- those of sizes
pub all_admitted : (sizes : List Size) → All (λ vcpu. IsSome vcpu.reservation) (sizes_vcpus sizes)
all_admitted [] = λ k d low. absurd (omega arith)
all_admitted (size ∷ sizes) = All-append IsAdmitted (size_vcpus size) (sizes_vcpus sizes)
    (machines_admitted size 0 size.machines) (all_admitted sizes)

-- ---- names that are none

-- a size whose names aren't names is the fault of all
pub bad_at : (sizes : List Size) (index : ℕ) (size : Size) (fault : SizesFault) → index < length sizes
    → size ≡ get_or sizes index size → (fault ≡ NoMemory) ⊎ ((fault ≡ BadName size.line) × HasBadName size)
    → (fault ≡ NoMemory) ⊎ HasSizesFault sizes fault
bad_at sizes index size fault within is (inl memory) = inl memory
bad_at sizes index size fault within is (inr bad) = inr (subst (HasSizesFault sizes) (sym bad.0)
    (NamesBadly (take index sizes) size (drop (suc index) sizes) (parted sizes index size within is) bad.1))
