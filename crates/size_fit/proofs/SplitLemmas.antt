-- How many vCPUs worst fit can leave over: no more than there are.
use Rattle.std.proofs.Common.{◌≡◌, ℕ, ◌+◌, ◌≤◌, Bool, true, false, if◌then◌else◌, List, [], ◌∷◌, ◌++◌, Option, None, Some, arith, length, length-append, ap, refl}
use Rattle.std.specs.Prelude.{nat_le, slice_set}
use Rattle.std.proofs.lemmas.List.Sorted.{length_permutation}
use Rattle.tab_core.specs.declared.TheConstants.{ROUND}
use Rattle.tab_core.specs.declared.periodic.Periodic.{Periodic}
use Rattle.worst_fit.specs.Order.{ranks_from}
use Rattle.worst_fit.specs.Placement.{IsPlacement, PartialPlacement, Staying, least_core, least_load, nothing_placed, place_all, place_next, stay_all, stay_next}
use Rattle.worst_fit.specs.declared.by_demand.ByDemand.{ByDemand}
use Rattle.worst_fit.specs.declared.placed.Placed.{Placed}

-- the next vCPU is placed, or left over
abbrev placed_or_left : PartialPlacement → ByDemand → Bool → PartialPlacement
placed_or_left p rank fits = if fits
    then record {
      loads = slice_set p.loads (least_core p.loads) (least_load p.loads + rank.demand);
      core_of = slice_set p.core_of rank.vcpu (Some (least_core p.loads));
      left = p.left;
    }
    else record p { left = p.left ++ rank.vcpu ∷ [] }

-- one rank leaves one vCPU over at most
next_left : (p : PartialPlacement) (rank : ByDemand) → length (place_next p rank).left ≤ length p.left + 1
next_left p rank =
    elim (nat_le (least_load p.loads + rank.demand) ROUND) as (λ fits. length (placed_or_left p rank fits).left ≤ length p.left + 1) [
      | true ↦ omega arith
      | false ↦ omega (arith, length-append p.left (rank.vcpu ∷ []))
    ]

-- ranks leave as many over at most
all_left : (p : PartialPlacement) (order : List ByDemand) → length (place_all p order).left ≤ length p.left + length order
unfolding place_all
all_left p [] = omega arith
all_left p (rank ∷ order) = omega (arith, all_left (place_next p rank) order, next_left p rank)

-- those that have no old home move, all of them
all_move : (s : Staying) (order : List ByDemand)
    → (length (stay_all [] s order).placed.left ≡ length s.placed.left)
    × (length (stay_all [] s order).moving ≡ length s.moving + length order)
unfolding stay_all
all_move s [] = (refl, omega arith)
all_move s (rank ∷ order) =
    let rec = all_move (stay_next [] s rank) order in
    (rec.0, omega (arith, rec.1, length-append s.moving (rank ∷ [])))

-- there are no more ranks than tasks
few_ranks : (number : ℕ) (tasks : List (Option Periodic)) → length (ranks_from number tasks) ≤ length tasks
unfolding ranks_from
few_ranks number [] = omega arith
few_ranks number (None ∷ tasks) = omega (arith, few_ranks (number + 1) tasks)
few_ranks number (Some task ∷ tasks) = omega (arith, few_ranks (number + 1) tasks)

-- no more vCPUs are left over than have tasks
pub few_left : (tasks : List (Option Periodic)) (cores : ℕ) (placed : Placed) → IsPlacement tasks cores placed
    → length placed.left ≤ length tasks
few_left tasks cores placed is =
    let start : Staying = record { placed = nothing_placed cores (length tasks); moving = [] } in
    let moved = all_move start is.order in
    let gone = all_left (stay_all [] start is.order).placed (stay_all [] start is.order).moving in
    let many = length_permutation (ranks_from 0 tasks) is.order is.falling_order.admitted in
    omega (arith, ap length is.left, moved.0, moved.1, gone, many, few_ranks 0 tasks)
