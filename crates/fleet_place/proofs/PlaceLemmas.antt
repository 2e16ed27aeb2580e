-- What a placing keeps: each VM, the cores of each host, and that the VMs of a host fit it.
use Rattle.std.proofs.Common.{◌≡◌, ℕ, List, ◌++◌, map, ◌∙◌}
use Rattle.std.specs.Prelude.{All, IsPermutation}
use Rattle.std.specs.List.{flat_map}
use Rattle.std.proofs.lemmas.List.{append_assoc}
use Rattle.std.proofs.lemmas.List.Sorted.{IsPermutation-append, IsPermutation-refl, IsPermutation-trans}
use Rattle.fleet_place.specs.Deals.{IsPlacing}
use Rattle.fleet_place.specs.Held.{Held, all_held}
use Rattle.fleet_place.specs.declared.group.Group.{Group}
use Rattle.fleet_place.specs.declared.policy.Policy.{Policy}
use Rattle.fleet_place.specs.declared.vm.Vm.{Vm}
use Rattle.fleet_place.proofs.DealLemmas.{deal_cores, deal_fits, deal_keeps}
use Rattle.fleet_place.proofs.StayLemmas.{FitsItself, group_cores, group_vms, held_cores, stay_cores, stay_fits, stay_keeps}

-- each VM of the groups, and each other, is on a host or left over
pub placing_keeps : (policy : Policy) (groups : List Group) (others : List Vm) (hosts : List Held) (left : List Vm)
    → IsPlacing policy groups others hosts left
    → IsPermutation (flat_map group_vms groups ++ others) (all_held hosts ++ left)
placing_keeps policy groups others hosts left is =
    let stays : IsPermutation (flat_map group_vms groups ++ others) ((all_held is.start ++ is.moved) ++ others) =
    IsPermutation-append (flat_map group_vms groups) (all_held is.start ++ is.moved) others others
    (stay_keeps policy groups is.start is.moved is.stay) (IsPermutation-refl others) in
    let joined : (all_held is.start ++ is.moved) ++ others ≡ all_held is.start ++ (is.moved ++ others) =
    append_assoc (all_held is.start) is.moved others in
    let in_order : IsPermutation ((all_held is.start ++ is.moved) ++ others) (all_held is.start ++ is.order) =
    rw joined (IsPermutation-append (all_held is.start) (all_held is.start) (is.moved ++ others) is.order
    (IsPermutation-refl (all_held is.start)) is.falling.same) in
    IsPermutation-trans _ _ _ stays (IsPermutation-trans _ _ _ in_order
    (deal_keeps policy is.start is.order hosts left is.deal))

-- the VMs of each host fit it
pub placing_fits : (policy : Policy) (groups : List Group) (others : List Vm) (hosts : List Held) (left : List Vm)
    → IsPlacing policy groups others hosts left → All (FitsItself policy) hosts
placing_fits policy groups others hosts left is =
    deal_fits policy is.start is.order hosts left is.deal (stay_fits policy groups is.start is.moved is.stay)

-- the hosts are those of the groups
pub placing_cores : (policy : Policy) (groups : List Group) (others : List Vm) (hosts : List Held) (left : List Vm)
    → IsPlacing policy groups others hosts left → map held_cores hosts ≡ map group_cores groups
placing_cores policy groups others hosts left is =
    deal_cores policy is.start is.order hosts left is.deal ∙ stay_cores policy groups is.start is.moved is.stay
