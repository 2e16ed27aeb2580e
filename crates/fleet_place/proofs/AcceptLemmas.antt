-- Whether the planner accepts a host, and that its answer depends on no name.
use Rattle.std.proofs.Common.{◌≡◌, ◌==◌, ℕ, ◌≤◌, Bool, false, true, arith, length, List, [], ◌∷◌, ◌++◌, map, append-nil, Option, Some, refl, sym, ap, subst, ◌∙◌}
use Rattle.std.proofs.lemmas.Bool.{eqb-true}
use Rattle.std.proofs.lemmas.List.Concat.{flat_map-cons}
use Rattle.std.specs.List.{flat_map, range_with_len}
use Rattle.std.proofs.lemmas.Grind.{flat_map-append}
use Rattle.std.proofs.lemmas.List.{map-append}
use Rattle.tab_core.specs.declared.host.Host.{Host}
use Rattle.tab_core.specs.declared.over.Over.{Over}
use Rattle.tab_core.specs.declared.periodic.Periodic.{Periodic}
use Rattle.tab_core.specs.declared.reservation.Reservation.{Reservation}
use Rattle.tab_core.specs.declared.vcpu.Vcpu.{Vcpu}
use Rattle.period_choice.specs.Tasks.{AreTasksOf}
use Rattle.period_choice.proofs.TasksLemmas.{none_without_period}
use Rattle.period_choice.proofs.Unique.{tasks_unique}
use Rattle.worst_fit.specs.Placement.{IsPlacement}
use Rattle.worst_fit.specs.declared.placed.Placed.{Placed}
use Rattle.worst_fit.proofs.OnePlacement.{placement_unique}
use Rattle.plan_make.specs.Planned.{IsFirstWithoutRoom}
use Rattle.sizes_doc.specs.SizedHost.{IsHostOfSizes, machine_vcpus, size_vcpus, sized_vcpu, sizes_vcpus}
use Rattle.sizes_doc.specs.declared.size.Size.{Size}
use Rattle.size_fit.specs.Fits.{AreSplit, HasNoPlan, HasNoRoom, NoPeriod, NoRoom, Split, Unplanned}
use Rattle.fleet_place.specs.Fits.{IsHostRefused, IsLike}
use Rattle.fleet_place.specs.Inside.Memory.{IsAlike}
use Rattle.fleet_place.specs.declared.policy.Policy.{Policy}

-- nothing is not a list with an element
never : (xs : List ℕ) (x : ℕ) (ys : List ℕ) → [] ≡ xs ++ x ∷ ys → ⊥
never [] x ys same = absurd cc
never (y ∷ xs) x ys same = absurd cc

-- a list that is found empty
pub none_there : (xs left : List ℕ) (empty : Bool) → empty ≡ (length xs == 0) → empty ≡ true → xs ≡ left → left ≡ []
none_there [] left empty is found equal = sym equal
none_there (x ∷ xs) left empty is found equal =
    let none : length (x ∷ xs) ≡ 0 = eqb-true (length (x ∷ xs)) 0 (sym is ∙ found) in
    absurd (omega (arith, none))

-- a list that is found not to be empty
pub some_there : (xs left : List ℕ) (empty : Bool) → empty ≡ (length xs == 0) → empty ≡ false → xs ≡ left
    → 1 ≤ length left
some_there [] left empty is found equal =
    let both : false ≡ true = sym found ∙ is in
    absurd cc
some_there (x ∷ xs) left empty is found equal = omega (arith, ap length equal)

-- where worst fit leaves no vCPU over, planning isn't refused
pub accepted_whole : (host : Host) (tasks : List (Option Periodic)) (placed : Placed) → AreTasksOf host tasks
    → IsPlacement tasks host.cores placed → placed.left ≡ [] → HasNoPlan host → ⊥
accepted_whole host tasks placed are placement none (NoPeriod vcpu first) = none_without_period host tasks vcpu are first
accepted_whole host tasks placed are placement none (NoRoom vcpu rest over stuck) =
    let same = tasks_unique host stuck.tasks tasks stuck.is_start.tasks_are are in
    let moved : IsPlacement tasks host.cores stuck.placed =
    subst (λ ts. IsPlacement ts host.cores stuck.placed) same stuck.is_start.placement in
    let one = placement_unique [] tasks host.cores stuck.placed placed moved placement in
    never stuck.stuck.before vcpu stuck.stuck.after
    (sym none ∙ sym (ap (λ (p : Placed). p.left) one) ∙ stuck.stuck.left_is)

-- the vCPUs that a plan splits are those that were left over
pub split_are_left : (host : Host) (tasks : List (Option Periodic)) (placed : Placed) (vcpus : List ℕ)
    → AreTasksOf host tasks → IsPlacement tasks host.cores placed → AreSplit host vcpus → vcpus ≡ placed.left
split_are_left host tasks placed vcpus are placement split =
    let same = tasks_unique host split.tasks tasks split.tasks_are are in
    let moved : IsPlacement tasks host.cores split.placed =
    subst (λ ts. IsPlacement ts host.cores split.placed) same split.placement in
    let one = placement_unique [] tasks host.cores split.placed placed moved placement in
    sym split.left ∙ ap (λ (p : Placed). p.left) one

-- where worst fit leaves no vCPU over, there is room, also if no vCPU may be split
pub room_whole : (no_split : Bool) (host : Host) (tasks : List (Option Periodic)) (placed : Placed)
    → AreTasksOf host tasks → IsPlacement tasks host.cores placed → placed.left ≡ [] → HasNoRoom no_split host → ⊥
room_whole no_split host tasks placed are placement none (Unplanned why) =
    accepted_whole host tasks placed are placement none why
room_whole no_split host tasks placed are placement none (Split vcpus whole split some) =
    let gone : length vcpus ≡ 0 = ap length (split_are_left host tasks placed vcpus are placement split ∙ none) in
    absurd (omega (arith, gone, some))

-- where vCPUs may be split, a host without room has no plan
pub no_plan : (no_split : Bool) (host : Host) → no_split ≡ false → HasNoRoom no_split host → HasNoPlan host
no_plan no_split host may (Unplanned why) = why
no_plan no_split host may (Split vcpus whole split some) =
    let both : true ≡ false = sym whole ∙ may in
    absurd cc

-- planning is not refused either where it finds neither a first vCPU without room nor one without period
pub accepted_by : (host : Host) (tasks : List (Option Periodic)) → AreTasksOf host tasks
    → ((vcpu rest : ℕ) (over : List Over) → IsFirstWithoutRoom host vcpu rest over → ⊥) → HasNoPlan host → ⊥
accepted_by host tasks are room (NoPeriod vcpu first) = none_without_period host tasks vcpu are first
accepted_by host tasks are room (NoRoom vcpu rest over stuck) = room vcpu rest over stuck

-- the host of sizes has their reservations
pub like_own : (tick cores : ℕ) (sizes : List Size) (host : Host) → IsHostOfSizes cores tick sizes host
    → IsLike tick cores sizes host
like_own tick cores sizes host is = record {
  tick_ns = is.tick_ns;
  cores_are = is.cores_are;
  reserved = ap (λ vcpus. map (λ (v : Vcpu). v.reservation) vcpus) is.vcpus_are;
}

-- ---- sizes that ask for the same reservations

abbrev reservation_of : Vcpu → Option Reservation
reservation_of v = v.reservation

-- what so many vCPUs of a reservation ask for
abbrev asked : Reservation → ℕ → List (Option Reservation)
asked r count = map (λ k. Some r) (range_with_len 0 count)

asked_each : (size : Size) (machine : ℕ) (ks : List ℕ)
    → map reservation_of (map (sized_vcpu size machine) ks) ≡ map (λ k. Some size.reservation) ks
asked_each size machine [] = refl
asked_each size machine (k ∷ ks) = ap (λ rs. Some size.reservation ∷ rs) (asked_each size machine ks)

asked_machines : (size : Size) (ms : List ℕ) → map reservation_of (flat_map (machine_vcpus size) ms)
    ≡ flat_map (λ m. asked size.reservation size.vcpus) ms
asked_machines size [] = refl
asked_machines size (m ∷ ms) =
    ap (map reservation_of) (flat_map-cons (machine_vcpus size) m ms)
    ∙ (map-append reservation_of (machine_vcpus size m) (flat_map (machine_vcpus size) ms)
    ∙ (ap (λ rs. rs ++ map reservation_of (flat_map (machine_vcpus size) ms)) (asked_each size m (range_with_len 0 size.vcpus))
    ∙ (ap (λ rs. asked size.reservation size.vcpus ++ rs) (asked_machines size ms)
    ∙ sym (flat_map-cons (λ m. asked size.reservation size.vcpus) m ms))))

-- what a size asks for
abbrev asked_by : Size → List (Option Reservation)
asked_by size = flat_map (λ m. asked size.reservation size.vcpus) (range_with_len 0 size.machines)

asked_alike : (one other : Size) → IsAlike one other → asked_by one ≡ asked_by other
asked_alike one other alike =
    ap (λ r. flat_map (λ m. asked r one.vcpus) (range_with_len 0 one.machines)) alike.reservation
    ∙ (ap (λ n. flat_map (λ m. asked other.reservation n) (range_with_len 0 one.machines)) alike.vcpus
    ∙ ap (λ n. flat_map (λ m. asked other.reservation other.vcpus) (range_with_len 0 n)) alike.machines)

-- beside other sizes
asked_beside : (sizes : List Size) (size : Size) → map reservation_of (sizes_vcpus (sizes ++ size ∷ []))
    ≡ map reservation_of (sizes_vcpus sizes) ++ asked_by size
asked_beside sizes size =
    ap (map reservation_of) (flat_map-append size_vcpus sizes (size ∷ []))
    ∙ (map-append reservation_of (sizes_vcpus sizes) (sizes_vcpus (size ∷ []))
    ∙ ap (λ rs. map reservation_of (sizes_vcpus sizes) ++ rs)
    (ap (map reservation_of) (flat_map-cons size_vcpus size [] ∙ append-nil (size_vcpus size))
    ∙ asked_machines size (range_with_len 0 size.machines)))

-- a size is refused where one that is alike was refused beside the same sizes
pub refused_alike : (policy : Policy) (cores : ℕ) (sizes : List Size) (one other : Size) → IsAlike one other
    → IsHostRefused policy cores (sizes ++ one ∷ []) → IsHostRefused policy cores (sizes ++ other ∷ [])
refused_alike policy cores sizes one other alike was = record {
  host = was.host;
  is = record {
    tick_ns = was.is.tick_ns;
    cores_are = was.is.cores_are;
    reserved = was.is.reserved ∙ (asked_beside sizes one
        ∙ (ap (λ rs. map reservation_of (sizes_vcpus sizes) ++ rs) (asked_alike one other alike)
        ∙ sym (asked_beside sizes other)));
  };
  refused = was.refused;
}
