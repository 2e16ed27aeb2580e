-- What dealing VMs to hosts keeps.
use Rattle.std.proofs.Common.{◌≡◌, ℕ, zero, suc, List, [], ◌∷◌, ◌++◌, map, set, Some, refl, sym, ap, ◌∙◌}
use Rattle.std.specs.Prelude.{All, IsPermutation, slice_get}
use Rattle.std.proofs.lemmas.List.{append_assoc}
use Rattle.std.proofs.lemmas.List.Concat.{flat_map-cons}
use Rattle.std.proofs.lemmas.List.Elements.{All-cons, All-head, All-tail}
use Rattle.std.proofs.lemmas.List.Sorted.{IsPermutation-append, IsPermutation-append_comm, IsPermutation-refl, IsPermutation-trans}
use Rattle.fleet_place.specs.Deals.{Deal, Joined, LeftOver, NoVm, with_vm}
use Rattle.fleet_place.specs.Held.{Held, all_held}
use Rattle.fleet_place.specs.declared.policy.Policy.{Policy}
use Rattle.fleet_place.specs.declared.vm.Vm.{Vm}
use Rattle.fleet_place.proofs.StayLemmas.{FitsItself, held_cores, held_vms}

-- the VMs of one host and of the others
held_next : (held : Held) (hosts : List Held) → all_held (held ∷ hosts) ≡ held.vms ++ all_held hosts
held_next held hosts = flat_map-cons held_vms held hosts

-- a VM that comes to a host is one more of all
pub held_more : (hosts : List Held) (n : ℕ) (held : Held) (vm : Vm) → slice_get hosts n ≡ Some held
    → IsPermutation (all_held hosts ++ vm ∷ []) (all_held (set hosts n (with_vm held vm)))
held_more [] n held vm at = absurd cc
held_more (h ∷ hs) zero held vm at =
    let same : h ≡ held = cc in
    let before : all_held (h ∷ hs) ++ vm ∷ [] ≡ held.vms ++ (all_held hs ++ vm ∷ []) =
    ap (λ xs. xs ++ vm ∷ []) (held_next h hs ∙ ap (λ (x : Held). x.vms ++ all_held hs) same)
    ∙ append_assoc held.vms (all_held hs) (vm ∷ []) in
    let after : all_held (with_vm held vm ∷ hs) ≡ held.vms ++ (vm ∷ [] ++ all_held hs) =
    held_next (with_vm held vm) hs ∙ append_assoc held.vms (vm ∷ []) (all_held hs) in
    rw (before, after) (IsPermutation-append held.vms held.vms (all_held hs ++ vm ∷ []) (vm ∷ [] ++ all_held hs)
    (IsPermutation-refl held.vms) (IsPermutation-append_comm (all_held hs) (vm ∷ [])))
held_more (h ∷ hs) (suc n) held vm at =
    let before : all_held (h ∷ hs) ++ vm ∷ [] ≡ h.vms ++ (all_held hs ++ vm ∷ []) =
    ap (λ xs. xs ++ vm ∷ []) (held_next h hs) ∙ append_assoc h.vms (all_held hs) (vm ∷ []) in
    let after : all_held (h ∷ set hs n (with_vm held vm)) ≡ h.vms ++ all_held (set hs n (with_vm held vm)) =
    held_next h (set hs n (with_vm held vm)) in
    rw (before, after) (IsPermutation-append h.vms h.vms _ _ (IsPermutation-refl h.vms) (held_more hs n held vm at))

-- each VM that is dealt comes to a host or is left over
pub deal_keeps : (policy : Policy) (start : List Held) (order : List Vm) (hosts : List Held) (left : List Vm)
    → Deal policy start order hosts left → IsPermutation (all_held start ++ order) (all_held hosts ++ left)
deal_keeps policy start [] _ [] NoVm = IsPermutation-refl (all_held start ++ [])
deal_keeps policy start _ _ _ (Joined order left hosts vm number held before is) =
    let rec = deal_keeps policy start order hosts left before in
    let was : all_held start ++ (order ++ vm ∷ []) ≡ (all_held start ++ order) ++ vm ∷ [] =
    sym (append_assoc (all_held start) order (vm ∷ [])) in
    let moved : IsPermutation ((all_held hosts ++ left) ++ vm ∷ []) ((all_held hosts ++ vm ∷ []) ++ left) =
    rw (append_assoc (all_held hosts) left (vm ∷ []), append_assoc (all_held hosts) (vm ∷ []) left)
    (IsPermutation-append (all_held hosts) (all_held hosts) (left ++ vm ∷ []) (vm ∷ [] ++ left)
    (IsPermutation-refl (all_held hosts)) (IsPermutation-append_comm left (vm ∷ []))) in
    rw was (IsPermutation-trans _ _ _
    (IsPermutation-append (all_held start ++ order) (all_held hosts ++ left) (vm ∷ []) (vm ∷ []) rec (IsPermutation-refl (vm ∷ [])))
    (IsPermutation-trans _ _ _ moved
    (IsPermutation-append (all_held hosts ++ vm ∷ []) (all_held (set hosts number (with_vm held vm))) left left
    (held_more hosts number held vm is.at) (IsPermutation-refl left))))
deal_keeps policy start _ _ _ (LeftOver order left hosts vm before none) =
    let rec = deal_keeps policy start order hosts left before in
    rw (sym (append_assoc (all_held start) order (vm ∷ [])), sym (append_assoc (all_held hosts) left (vm ∷ [])))
    (IsPermutation-append (all_held start ++ order) (all_held hosts ++ left) (vm ∷ []) (vm ∷ []) rec (IsPermutation-refl (vm ∷ [])))

-- one host of a list is another
all_set : (P : Held → Type 0) (hosts : List Held) (n : ℕ) (held : Held) → All P hosts → P held
    → All P (set hosts n held)
all_set P [] n held all one = all
all_set P (h ∷ hs) zero held all one = All-cons P held hs one (All-tail P h hs all)
all_set P (h ∷ hs) (suc n) held all one =
    All-cons P h (set hs n held) (All-head P h hs all) (all_set P hs n held (All-tail P h hs all) one)

-- the VMs of each host fit it
pub deal_fits : (policy : Policy) (start : List Held) (order : List Vm) (hosts : List Held) (left : List Vm)
    → Deal policy start order hosts left → All (FitsItself policy) start → All (FitsItself policy) hosts
deal_fits policy start [] _ [] NoVm all = all
deal_fits policy start _ _ _ (Joined order left hosts vm number held before is) all =
    all_set (FitsItself policy) hosts number (with_vm held vm) (deal_fits policy start order hosts left before all)
    (λ some. is.fits)
deal_fits policy start _ _ _ (LeftOver order left hosts vm before none) all =
    deal_fits policy start order hosts left before all

-- the cores of hosts
cores_set : (hosts : List Held) (n : ℕ) (held : Held) (vm : Vm) → slice_get hosts n ≡ Some held
    → map held_cores (set hosts n (with_vm held vm)) ≡ map held_cores hosts
cores_set [] n held vm at = absurd cc
cores_set (h ∷ hs) zero held vm at =
    let same : h ≡ held = cc in
    ap (λ c. c ∷ map held_cores hs) (sym (ap held_cores same))
cores_set (h ∷ hs) (suc n) held vm at = ap (λ xs. h.cores ∷ xs) (cores_set hs n held vm at)

pub deal_cores : (policy : Policy) (start : List Held) (order : List Vm) (hosts : List Held) (left : List Vm)
    → Deal policy start order hosts left → map held_cores hosts ≡ map held_cores start
deal_cores policy start [] _ [] NoVm = refl
deal_cores policy start _ _ _ (Joined order left hosts vm number held before is) =
    cores_set hosts number held vm is.at ∙ deal_cores policy start order hosts left before
deal_cores policy start _ _ _ (LeftOver order left hosts vm before none) =
    deal_cores policy start order hosts left before
