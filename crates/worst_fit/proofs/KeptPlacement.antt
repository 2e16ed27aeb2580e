-- Where nobody was left over, all stay.
use Rattle.std.proofs.Common.{◌≡◌, ℕ, ◌≤◌, List, [], ◌∷◌, length, get_or, Option, None, Some, inl, inr, refl, sym, subst, ◌∙◌, arith}
use Rattle.std.specs.Prelude.{Contains, slice_get}
use Rattle.std.proofs.lemmas.List.{ext_get_or}
use Rattle.std.proofs.lemmas.Option.{get_or_from_slice_get}
use Rattle.tab_core.specs.declared.periodic.Periodic.{Periodic}
use Rattle.worst_fit.specs.declared.placed.Placed.{Placed}
use Rattle.worst_fit.specs.Placement.{IsAdmitted, IsPlaced, IsStayingPlacement, PlacesEach, place_moving, who_stays}
use Rattle.worst_fit.proofs.KeepingHomes.{got_some, placement_stays}
use Rattle.worst_fit.proofs.PlacesEach.{placement_fits, placement_places_each}

-- nobody is in an empty list
none_in_nil : (vcpu : ℕ) → Contains [] vcpu → ⊥
none_in_nil vcpu is = absurd (let lt = is.1 in omega arith)

-- a list that nobody is in is empty
empty_left : (left : List ℕ) → ((vcpu : ℕ) → Contains left vcpu → ⊥) → left ≡ []
empty_left [] none = refl
empty_left (vcpu ∷ left) none = absurd (none vcpu (0, omega arith, refl))

-- who is admitted is on a core, where nobody was left over
stands : (tasks : List (Option Periodic)) (cores : ℕ) (placed : Placed) → PlacesEach tasks cores placed
    → placed.left ≡ [] → (vcpu : ℕ) → IsAdmitted tasks vcpu → IsPlaced placed.core_of vcpu
stands tasks cores placed each none vcpu admitted = elim (each.each vcpu admitted) [
  | inl on ↦ on
  | inr left ↦ absurd (none_in_nil vcpu (subst (λ l. Contains l vcpu) none left))
]

-- the new home of a vCPU is its old one
same_home : (tasks : List (Option Periodic)) (cores : ℕ) (old new : Placed)
    → PlacesEach tasks cores old → PlacesEach tasks cores new → old.left ≡ []
    → ((vcpu core : ℕ) → slice_get old.core_of vcpu ≡ Some (Some core)
    → slice_get new.core_of vcpu ≡ Some (Some core))
    → (vcpu : ℕ) (o n : Option ℕ) → get_or old.core_of vcpu None ≡ o → get_or new.core_of vcpu None ≡ n
    → n ≡ o
same_home tasks cores old new of_old of_new none stay vcpu None None at at' = refl
same_home tasks cores old new of_old of_new none stay vcpu (Some core) n at at' =
    sym at' ∙ get_or_from_slice_get new.core_of vcpu (Some core) None
    (stay vcpu core (got_some old.core_of vcpu core at))
same_home tasks cores old new of_old of_new none stay vcpu None (Some core) at at' =
    let on = of_new.on_core vcpu core (got_some new.core_of vcpu core at') in
    let was = stands tasks cores old of_old none vcpu on.1 in
    let there = get_or_from_slice_get old.core_of vcpu (Some was.0) None was.1 in
    absurd (cc)

-- from the homes of a placement that left nobody over each vCPU stays
pub placement_kept : (homes : List (Option ℕ)) (tasks : List (Option Periodic)) (cores : ℕ)
    (placed : Placed) → 1 ≤ cores → IsStayingPlacement homes tasks cores placed → placed.left ≡ []
    → IsStayingPlacement placed.core_of tasks cores placed
placement_kept homes tasks cores placed some is none =
    let s = place_moving (who_stays placed.core_of cores (length tasks) is.order) in
    let new : Placed = record { core_of = s.core_of; left = s.left } in
    let of_new : IsStayingPlacement placed.core_of tasks cores new =
    record { order = is.order; falling_order = is.falling_order; core_of = refl; left = refl } in
    let each = placement_places_each homes tasks cores placed some is in
    let each_new = placement_places_each placed.core_of tasks cores new some of_new in
    let fits = placement_fits homes tasks cores placed some is in
    let stays = placement_stays placed.core_of tasks cores new some of_new in
    let stay : (vcpu core : ℕ) → slice_get placed.core_of vcpu ≡ Some (Some core)
    → slice_get new.core_of vcpu ≡ Some (Some core) = λ vcpu core at.
    (let on = each.on_core vcpu core at in stays core on.0 (fits core on.0) vcpu on.1 at) in
    let core_of : new.core_of ≡ placed.core_of =
    ext_get_or None new.core_of placed.core_of (each_new.as_many ∙ sym each.as_many)
    (λ vcpu lt. same_home tasks cores placed new each each_new none stay vcpu
    (get_or placed.core_of vcpu None) (get_or new.core_of vcpu None) refl refl) in
    let left : new.left ≡ [] = empty_left new.left (λ vcpu over.
    (let on = stands tasks cores placed each none vcpu (each_new.left_over vcpu over) in
    (each_new.on_core vcpu on.0 (stay vcpu on.0 on.1)).2 over)) in
    record {
      order = is.order;
      falling_order = is.falling_order;
      core_of = sym core_of;
      left = none ∙ sym left;
    }
