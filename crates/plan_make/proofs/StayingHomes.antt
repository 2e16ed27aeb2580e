-- Splitting moves nobody who stays.
use Rattle.std.proofs.Common.{◌≡◌, ◌≢◌, ℕ, List, [], ◌∷◌, set, slice_get, Option, None, Some, ap, subst, sym, ◌∙◌, inl, inr, arith, length-set, get_or-set_other}
use Rattle.std.specs.List.{Contains}
use Rattle.std.proofs.lemmas.Option.{get_or_from_slice_get, slice_get-get_or, slice_get_within}
use Rattle.tab_core.specs.declared.host.Host.{Host}
use Rattle.tab_core.specs.declared.periodic.Periodic.{Periodic}
use Rattle.tab_core.specs.declared.piece.Piece.{Piece}
use Rattle.table_form.specs.Tables.Plans.{PlanView}
use Rattle.worst_fit.specs.Placement.{IsStayingPlacement}
use Rattle.worst_fit.specs.Staying.{LeaveForNeed, StayWhereAllFit}
use Rattle.worst_fit.proofs.KeepingHomes.{placement_leaves_for_need, placement_stays}
use Rattle.worst_fit.proofs.KeptPlacement.{placement_kept}
use Rattle.worst_fit.proofs.PlacesEach.{placement_places_each}
use Rattle.plan_make.specs.Layout.{IsStayingStart}
use Rattle.plan_make.specs.Planned.{IsStayingPlan}
use Rattle.plan_make.specs.SplitInTurn.{SplitsEach, home_of, with_pieces}
use Rattle.plan_make.proofs.ListMembers.{contains_first, contains_later}

-- a vCPU that isn't left over keeps its home, as the others are split
split_keeps : (tasks : List (Option Periodic)) (cores : List (List Piece)) (homes : List (Option ℕ))
    (left : List ℕ) (end : List (List Piece)) (homes' : List (Option ℕ)) (vcpu core : ℕ)
    → SplitsEach tasks cores homes left end homes' → (Contains left vcpu → ⊥)
    → slice_get homes vcpu ≡ Some (Some core) → slice_get homes' vcpu ≡ Some (Some core)
split_keeps tasks cores homes [] end homes' vcpu core split free at =
    ap (λ hs. slice_get hs vcpu) split.1 ∙ at
split_keeps tasks cores homes (next ∷ left) end homes' vcpu core split free at =
    let pieces = split.0 in
    let other : vcpu ≢ next = λ e. free (subst (λ v. Contains (next ∷ left) v) (sym e) (contains_first next left)) in
    let lt = slice_get_within homes vcpu (Some core) at in
    let size = length-set homes next (Some (home_of pieces)) in
    let kept : slice_get (set homes next (Some (home_of pieces))) vcpu ≡ Some (Some core) =
    slice_get-get_or (set homes next (Some (home_of pieces))) vcpu None (omega arith)
    ∙ ap Some (get_or-set_other homes next vcpu (Some (home_of pieces)) None other
    ∙ get_or_from_slice_get homes vcpu (Some core) None at) in
    split_keeps tasks (with_pieces cores pieces) (set homes next (Some (home_of pieces))) left end homes'
    vcpu core split.2 (λ is. free (contains_later next left vcpu is)) kept

-- where a vCPU was placed is its home in the plan
placed_home : (old_homes : List (Option ℕ)) (host : Host) (plan : PlanView)
    (is : IsStayingPlan old_homes host plan) (vcpu core : ℕ)
    → slice_get is.layout.placed.core_of vcpu ≡ Some (Some core)
    → slice_get plan.homes vcpu ≡ Some (Some core)
placed_home old_homes host plan is vcpu core at =
    let start = is.layout.is_start in
    let each = placement_places_each old_homes plan.tasks host.cores is.layout.placed host.some_core
    start.placement in
    split_keeps plan.tasks is.layout.start is.layout.placed.core_of is.layout.placed.left is.cores plan.homes
    vcpu core is.layout.split (each.on_core vcpu core at).2 at

-- what `plan_staying` promises of the vCPUs of a core that all fit there
pub plan_stays : (old_homes : List (Option ℕ)) (host : Host) (plan : PlanView)
    → IsStayingPlan old_homes host plan → StayWhereAllFit old_homes plan.tasks host.cores plan.homes
plan_stays old_homes host plan is = λ core there fits vcpu admitted at.
    placed_home old_homes host plan is vcpu core
    (placement_stays old_homes plan.tasks host.cores is.layout.placed host.some_core
    is.layout.is_start.placement core there fits vcpu admitted at)

-- what it promises of a vCPU that leaves its old home
pub plan_leaves_for_need : (old_homes : List (Option ℕ)) (host : Host) (plan : PlanView)
    → IsStayingPlan old_homes host plan → LeaveForNeed old_homes plan.tasks host.cores plan.homes
plan_leaves_for_need old_homes host plan is =
    let leaves = placement_leaves_for_need old_homes plan.tasks host.cores is.layout.placed host.some_core
    is.layout.is_start.placement in
    record {
      order = leaves.order;
      falling_order = leaves.falling_order;
      need = λ before after rank core split at there.
          elim (leaves.need before after rank core split at there) [
            | inl stays ↦ inl (placed_home old_homes host plan is rank.vcpu core stays)
            | inr over ↦ inr over
          ];
    }

-- where nobody was split the plan from its own homes is the same
pub plan_kept : (old_homes : List (Option ℕ)) (host : Host) (plan : PlanView)
    → (is : IsStayingPlan old_homes host plan) → is.layout.placed.left ≡ [] → IsStayingPlan plan.homes host plan
plan_kept old_homes host plan is none =
    let layout = is.layout in
    let start = layout.is_start in
    let unsplit = subst (λ left. SplitsEach plan.tasks layout.start layout.placed.core_of left is.cores plan.homes)
    none layout.split in
    let placement : IsStayingPlacement plan.homes plan.tasks host.cores layout.placed =
    subst (λ hs. IsStayingPlacement hs plan.tasks host.cores layout.placed) (sym unsplit.1)
    (placement_kept old_homes plan.tasks host.cores layout.placed host.some_core start.placement none) in
    let begin : IsStayingStart plan.homes host plan.tasks layout.placed layout.start =
    record { tasks_are = start.tasks_are; placement = placement; stand = start.stand } in
    record {
      cores = is.cores;
      layout = record { placed = layout.placed; start = layout.start; is_start = begin; split = layout.split };
      capped = is.capped;
      joined = is.joined;
    }
