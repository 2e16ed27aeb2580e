-- What VMs take together, one more and some of them.
use Rattle.std.proofs.Common.{◌≡◌, ℕ, suc, ◌+◌, ◌*◌, ◌<◌, ◌≤◌, List, [], ◌∷◌, ◌++◌, get_or, length, take, drop, sym, ap, ◌∙◌, arith}
use Rattle.std.proofs.Math.Nat.{mul-le-mul_left}
use Rattle.std.proofs.Math.Seq.{take-suc}
use Rattle.std.proofs.lemmas.List.{map-append, take-append-drop}
use Rattle.std.proofs.lemmas.List.Sums.{sum_by-append, sum_by-cons}
use Rattle.sizes_doc.specs.declared.size.Size.{Size}
use Rattle.fleet_place.specs.Held.{load_of_vms, sizes_in, vcpu_count_of}
use Rattle.fleet_place.specs.declared.vm.Vm.{Vm}

-- one more VM
pub load_push : (vms : List Vm) (vm : Vm) → load_of_vms (vms ++ vm ∷ []) ≡ load_of_vms vms + vm.demand
load_push vms vm = omega (arith, sum_by-append (λ (v : Vm). v.demand) vms (vm ∷ []))

pub count_push : (vms : List Vm) (vm : Vm)
    → vcpu_count_of (vms ++ vm ∷ []) ≡ vcpu_count_of vms + vm.size.machines * vm.size.vcpus
count_push vms vm = omega (arith, sum_by-append (λ (v : Vm). v.size.machines * v.size.vcpus) vms (vm ∷ []))

-- each VM has a vCPU
pub length_count : (vms : List Vm) → length vms ≤ vcpu_count_of vms
length_count [] = omega arith
length_count (vm ∷ vms) = omega (
  arith,
  length_count vms,
  sum_by-cons (λ (v : Vm). v.size.machines * v.size.vcpus) vm vms,
  mul-le-mul_left vm.size.machines vm.size.some_vcpus,
  vm.size.some_machines,
)

-- some of them take no more than all
pub load_take : (k : ℕ) (vms : List Vm) → load_of_vms (take k vms) ≤ load_of_vms vms
load_take k vms = omega (
  arith,
  sum_by-append (λ (v : Vm). v.demand) (take k vms) (drop k vms),
  ap load_of_vms (take-append-drop k vms),
)

pub count_take : (k : ℕ) (vms : List Vm) → vcpu_count_of (take k vms) ≤ vcpu_count_of vms
count_take k vms = omega (
  arith,
  sum_by-append (λ (v : Vm). v.size.machines * v.size.vcpus) (take k vms) (drop k vms),
  ap vcpu_count_of (take-append-drop k vms),
)

pub sizes_push : (vms : List Vm) (vm : Vm) → sizes_in (vms ++ vm ∷ []) ≡ sizes_in vms ++ vm.size ∷ []
sizes_push vms vm = map-append (λ (v : Vm). v.size) vms (vm ∷ [])

-- ---- the VMs before a place, and the next

pub take_more : (vms : List Vm) (i : ℕ) (vm : Vm) → i < length vms → vm ≡ get_or vms i vm
    → take (i + 1) vms ≡ take i vms ++ vm ∷ []
take_more vms i vm low at =
    let count : i + 1 ≡ suc i = omega arith in
    rw count (take-suc vms i vm low ∙ ap (λ v. take i vms ++ v ∷ []) (sym at))

pub sizes_next : (vms : List Vm) (i : ℕ) (sizes : List Size) (vm : Vm) → i < length vms → vm ≡ get_or vms i vm
    → sizes ≡ sizes_in (take i vms) → sizes ++ vm.size ∷ [] ≡ sizes_in (take (i + 1) vms)
sizes_next vms i sizes vm low at before =
    ap (λ xs. xs ++ vm.size ∷ []) before
    ∙ (sym (sizes_push (take i vms) vm) ∙ ap sizes_in (sym (take_more vms i vm low at)))

pub load_next : (vms : List Vm) (i : ℕ) (vm : Vm) → i < length vms → vm ≡ get_or vms i vm
    → load_of_vms (take (i + 1) vms) ≡ load_of_vms (take i vms) + vm.demand
load_next vms i vm low at = ap load_of_vms (take_more vms i vm low at) ∙ load_push (take i vms) vm

pub count_next : (vms : List Vm) (i : ℕ) (vm : Vm) → i < length vms → vm ≡ get_or vms i vm
    → vcpu_count_of (take (i + 1) vms) ≡ vcpu_count_of (take i vms) + vm.size.machines * vm.size.vcpus
count_next vms i vm low at = ap vcpu_count_of (take_more vms i vm low at) ∙ count_push (take i vms) vm
