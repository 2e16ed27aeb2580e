-- What stays and what moves.
use Rattle.std.proofs.Common.{◌≡◌, ℕ, ◌≤◌, List, [], ◌∷◌, ◌++◌, length, map, refl, sym, ap, ◌∙◌, append-nil}
use Rattle.std.specs.Prelude.{All, IsPermutation}
use Rattle.std.specs.List.{flat_map}
use Rattle.std.proofs.lemmas.Grind.{flat_map-append}
use Rattle.std.proofs.lemmas.List.{map-append, append_assoc}
use Rattle.std.proofs.lemmas.List.Concat.{flat_map-cons}
use Rattle.std.proofs.lemmas.List.Elements.{All-nil, All-push}
use Rattle.std.proofs.lemmas.List.Sorted.{IsPermutation-append, IsPermutation-append_comm, IsPermutation-refl, IsPermutation-trans}
use Rattle.fleet_place.specs.Fits.{FitsHost}
use Rattle.fleet_place.specs.Held.{Held, all_held}
use Rattle.fleet_place.specs.Stays.{NextHost, NoHost, Stay}
use Rattle.fleet_place.specs.declared.group.Group.{Group}
use Rattle.fleet_place.specs.declared.policy.Policy.{Policy}
use Rattle.fleet_place.specs.declared.vm.Vm.{Vm}

-- the VMs of a group, and of a host
abbrev pub group_vms : Group → List Vm
group_vms group = group.vms.items

abbrev pub held_vms : Held → List Vm
held_vms held = held.vms

-- one more
one_more : {X : Type 0} (f : X → List Vm) (xs : List X) (x : X) → flat_map f (xs ++ x ∷ []) ≡ flat_map f xs ++ f x
one_more f xs x = flat_map-append f xs (x ∷ [])
    ∙ ap (λ ys. flat_map f xs ++ ys) (flat_map-cons f x [] ∙ append-nil (f x))

-- what comes after one part may come after the next
shuffle : (a b c d : List Vm) → IsPermutation ((a ++ b) ++ (c ++ d)) ((a ++ c) ++ (b ++ d))
shuffle a b c d =
    let left : (a ++ b) ++ (c ++ d) ≡ a ++ ((b ++ c) ++ d) =
    append_assoc a b (c ++ d) ∙ ap (λ xs. a ++ xs) (sym (append_assoc b c d)) in
    let right : (a ++ c) ++ (b ++ d) ≡ a ++ ((c ++ b) ++ d) =
    append_assoc a c (b ++ d) ∙ ap (λ xs. a ++ xs) (sym (append_assoc c b d)) in
    let inner : IsPermutation ((b ++ c) ++ d) ((c ++ b) ++ d) =
    IsPermutation-append (b ++ c) (c ++ b) d d (IsPermutation-append_comm b c) (IsPermutation-refl d) in
    rw (left, right) (IsPermutation-append a a ((b ++ c) ++ d) ((c ++ b) ++ d) (IsPermutation-refl a) inner)

-- each VM of the groups stays or moves
pub stay_keeps : (policy : Policy) (groups : List Group) (hosts : List Held) (moved : List Vm) → Stay policy groups hosts moved
    → IsPermutation (flat_map group_vms groups) (all_held hosts ++ moved)
stay_keeps policy [] [] [] NoHost = IsPermutation-refl []
stay_keeps policy _ _ _ (NextHost groups hosts moved group held mine before is) =
    let rec = stay_keeps policy groups hosts moved before in
    let whole : flat_map group_vms (groups ++ group ∷ []) ≡ flat_map group_vms groups ++ (held.vms ++ mine) =
    one_more group_vms groups group ∙ ap (λ xs. flat_map group_vms groups ++ xs) is.parts in
    let parts : all_held (hosts ++ held ∷ []) ≡ all_held hosts ++ held.vms = one_more held_vms hosts held in
    rw (whole, parts) (IsPermutation-trans _ _ _
    (IsPermutation-append (flat_map group_vms groups) (all_held hosts ++ moved) (held.vms ++ mine) (held.vms ++ mine)
    rec (IsPermutation-refl (held.vms ++ mine)))
    (shuffle (all_held hosts) moved held.vms mine))

-- the VMs of a host fit it, if it has any
abbrev pub FitsItself : Policy → Held → Type 0
FitsItself policy held = 1 ≤ length held.vms → FitsHost policy held.cores held.vms

pub stay_fits : (policy : Policy) (groups : List Group) (hosts : List Held) (moved : List Vm) → Stay policy groups hosts moved
    → All (FitsItself policy) hosts
stay_fits policy [] [] [] NoHost = All-nil (FitsItself policy)
stay_fits policy _ _ _ (NextHost groups hosts moved group held mine before is) =
    All-push (FitsItself policy) hosts held (stay_fits policy groups hosts moved before) is.fits

-- the hosts are those of the groups
abbrev pub group_cores : Group → ℕ
group_cores group = group.cores

abbrev pub held_cores : Held → ℕ
held_cores held = held.cores

pub stay_cores : (policy : Policy) (groups : List Group) (hosts : List Held) (moved : List Vm) → Stay policy groups hosts moved
    → map held_cores hosts ≡ map group_cores groups
stay_cores policy [] [] [] NoHost = refl
stay_cores policy _ _ _ (NextHost groups hosts moved group held mine before is) =
    map-append held_cores hosts (held ∷ [])
    ∙ (ap (λ xs. xs ++ held.cores ∷ []) (stay_cores policy groups hosts moved before)
    ∙ (ap (λ c. map group_cores groups ++ c ∷ []) is.cores_are ∙ sym (map-append group_cores groups (group ∷ []))))
