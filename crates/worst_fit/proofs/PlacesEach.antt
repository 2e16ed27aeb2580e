-- What the outcome of a placement says of each vCPU and each core.
use Rattle.std.proofs.Common.{◌≡◌, ℕ, ◌+◌, ◌≤◌, List, [], ◌∷◌, zero, suc, length, get_or, is_some, Option, None, Some, inl, inr, refl, sym, ap, subst, ◌∙◌, arith}
use Rattle.std.specs.Prelude.{slice_get}
use Rattle.std.proofs.lemmas.Option.{get_or_from_slice_get}
use Rattle.std.proofs.lemmas.Bool.{cases_lt}
use Rattle.tab_core.specs.declared.periodic.Periodic.{Periodic}
use Rattle.worst_fit.specs.declared.placed.Placed.{Placed}
use Rattle.worst_fit.specs.Bound.{IsWithinBound}
use Rattle.worst_fit.specs.Load.{FitsEachCore}
use Rattle.worst_fit.specs.Placement.{IsAdmitted, IsStayingPlacement, PartialPlacement, PlacesEach, place_moving, who_stays}
use Rattle.worst_fit.proofs.BoundLemmas.{none_left}
use Rattle.worst_fit.proofs.Counts.{contains_counted, counts_at, has, lefts, one_if, one_place, turns-nil}
use Rattle.worst_fit.proofs.PlacingInvariant.{PlacingInvariant, at_most_one}
use Rattle.worst_fit.proofs.StayingLemmas.{kept_all}

-- all were tried
abbrev IsDone : List (Option Periodic) → ℕ → PartialPlacement → Type 0
IsDone tasks cores p = PlacingInvariant tasks cores [] p

-- once all were tried a vCPU is placed or left over as often as it is admitted
balanced : (tasks : List (Option Periodic)) (cores : ℕ) (p : PartialPlacement) → IsDone tasks cores p
    → (vcpu : ℕ) → has vcpu p.core_of + lefts vcpu p.left ≡ has vcpu tasks
balanced tasks cores p done vcpu = let all = done.balance vcpu in let none = turns-nil vcpu in omega arith

-- a list by number has something for a number that is counted
something : {X : Type 0} (xs : List (Option X)) (vcpu : ℕ) → 1 ≤ has vcpu xs
    → (x : X) × (slice_get xs vcpu ≡ Some (Some x))
something [] vcpu some = absurd (omega arith)
something (None ∷ xs) zero some = absurd (omega arith)
something (Some x ∷ xs) zero some = (x, refl)
something (o ∷ xs) (suc vcpu) some = something xs vcpu some

-- a vCPU that has something counts once
counted_some : {X : Type 0} (xs : List (Option X)) (vcpu : ℕ) (x : X)
    → slice_get xs vcpu ≡ Some (Some x) → has vcpu xs ≡ 1
counted_some xs vcpu x at = ap (λ o. one_if (is_some o)) (get_or_from_slice_get xs vcpu (Some x) None at)

-- no core is overloaded, in the words of the contract
fits_each : (tasks : List (Option Periodic)) (cores : ℕ) (p : PartialPlacement) → IsDone tasks cores p
    → FitsEachCore tasks cores p.core_of
fits_each tasks cores p done = λ core lt.
    let load = done.loads_are core lt in
    let fits = done.fit core lt in
    omega arith

-- the counts, in the words of the contract
places_each : (tasks : List (Option Periodic)) (cores : ℕ) (p : PartialPlacement) (placed : Placed)
    → placed.core_of ≡ p.core_of → placed.left ≡ p.left → IsDone tasks cores p
    → PlacesEach tasks cores placed
places_each tasks cores p placed core_of left done =
    let balance = λ (vcpu : ℕ). balanced tasks cores p done vcpu in
    let homes = λ (vcpu : ℕ). ap (λ (l : List (Option ℕ)). has vcpu l) core_of in
    let overs = λ (vcpu : ℕ). ap (lefts vcpu) left in
    let most = λ (vcpu : ℕ). at_most_one (get_or tasks vcpu None) in
    record {
      as_many = ap length core_of ∙ done.as_many;
      each = λ vcpu admitted.
          (let one = counted_some tasks vcpu admitted.0 admitted.1 in
          let all = balance vcpu in
          let home = homes vcpu in
          let over = overs vcpu in
          elim (cases_lt 0 (lefts vcpu placed.left)) [
            | inl counted ↦ inr (contains_counted vcpu placed.left (omega arith))
            | inr none ↦ inl (something placed.core_of vcpu (omega arith))
          ]);
      on_core = λ vcpu core at.
          (let one = counted_some placed.core_of vcpu core at in
          let all = balance vcpu in
          let home = homes vcpu in
          let over = overs vcpu in
          let limit = most vcpu in
          let stands : get_or p.core_of vcpu None ≡ Some core =
          ap (λ (l : List (Option ℕ)). get_or l vcpu None) (sym core_of)
          ∙ get_or_from_slice_get placed.core_of vcpu (Some core) None at in
          let admitted : IsAdmitted tasks vcpu = something tasks vcpu (omega arith) in (
            done.on_cores vcpu core stands,
            admitted,
            λ is. absurd
                (let counted = counts_at vcpu is.0 vcpu placed.left is.1 is.2 in omega arith),
          ));
      left_over = λ vcpu is.
          (let counted = counts_at vcpu is.0 vcpu placed.left is.1 is.2 in
          let all = balance vcpu in
          let home = homes vcpu in
          let over = overs vcpu in
          something tasks vcpu (omega arith));
      once = λ j k vcpu at_j at_k.
          (let all = balance vcpu in
          let over = overs vcpu in
          let limit = most vcpu in
          one_place vcpu j k placed.left (omega arith) at_j at_k);
    }

-- where a placement leaves off
done_all : (homes : List (Option ℕ)) (tasks : List (Option Periodic)) (cores : ℕ) (placed : Placed)
    → 1 ≤ cores → (is : IsStayingPlacement homes tasks cores placed)
    → IsDone tasks cores (place_moving (who_stays homes cores (length tasks) is.order))
done_all homes tasks cores placed some is = kept_all homes tasks cores is.order some is.falling_order

-- what `place_staying` promises of each vCPU, by its definition
pub placement_places_each : (homes : List (Option ℕ)) (tasks : List (Option Periodic)) (cores : ℕ)
    (placed : Placed) → 1 ≤ cores → IsStayingPlacement homes tasks cores placed
    → PlacesEach tasks cores placed
placement_places_each homes tasks cores placed some is =
    places_each tasks cores (place_moving (who_stays homes cores (length tasks) is.order)) placed
    is.core_of is.left (done_all homes tasks cores placed some is)

-- what it promises of each core
pub placement_fits : (homes : List (Option ℕ)) (tasks : List (Option Periodic)) (cores : ℕ)
    (placed : Placed) → 1 ≤ cores → IsStayingPlacement homes tasks cores placed
    → FitsEachCore tasks cores placed.core_of
placement_fits homes tasks cores placed some is =
    subst (FitsEachCore tasks cores) (sym is.core_of)
    (fits_each tasks cores (place_moving (who_stays homes cores (length tasks) is.order))
    (done_all homes tasks cores placed some is))

-- what it promises within the bound; a plan is refused for no room only beyond it
pub placement_within_bound : (homes : List (Option ℕ)) (tasks : List (Option Periodic)) (cores : ℕ)
    (placed : Placed) → 1 ≤ cores → IsStayingPlacement homes tasks cores placed
    → IsWithinBound tasks cores → placed.left ≡ []
placement_within_bound homes tasks cores placed some is bound = is.left
    ∙ none_left homes tasks cores is.order some is.falling_order bound
