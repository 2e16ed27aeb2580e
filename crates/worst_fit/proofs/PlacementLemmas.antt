-- One step of the placement, by what the scan found.
use Rattle.std.proofs.Common.{◌≡◌, ℕ, ◌+◌, ◌<◌, ◌≤◌, leb, List, [], ◌∷◌, ◌++◌, Some, length, set, get_or, drop, suc, refl, sym, ap, ◌∙◌, arith, add-one, drop-cons}
use Rattle.std.proofs.Math.ListN.{drop_of_length-le}
use Rattle.std.proofs.lemmas.Bool.{le-leb, cases_Bool, leb-true}
use Rattle.std.proofs.Common.{inl, inr}
use Rattle.tab_core.specs.declared.TheConstants.{ROUND}
use Rattle.worst_fit.specs.declared.by_demand.ByDemand.{ByDemand}
use Rattle.worst_fit.specs.Placement.{PartialPlacement, least_core, least_load, place_all, place_next}
use Rattle.worst_fit.proofs.LeastCore.{IsFirstLeast, first_least}

-- what is placed, once the next vCPU is on this core
abbrev pub on_core : PartialPlacement → ByDemand → ℕ → ℕ → PartialPlacement
on_core p rank core load = record {
  loads = set p.loads core load;
  core_of = set p.core_of rank.vcpu (Some core);
  left = p.left;
}

-- what is placed, once the next vCPU is left over
abbrev pub left_over : PartialPlacement → ByDemand → PartialPlacement
left_over p rank = record { loads = p.loads; core_of = p.core_of; left = p.left ++ rank.vcpu ∷ [] }

-- the step where the least load has room
pub place_next-fits : (p : PartialPlacement) (rank : ByDemand) → least_load p.loads + rank.demand ≤ ROUND
    → place_next p rank ≡ on_core p rank (least_core p.loads) (least_load p.loads + rank.demand)
place_next-fits p rank fits = rw (le-leb _ _ fits) refl

-- the step where it has none
pub place_next-left : (p : PartialPlacement) (rank : ByDemand) → ROUND < least_load p.loads + rank.demand
    → place_next p rank ≡ left_over p rank
place_next-left p rank over = elim (cases_Bool (leb (least_load p.loads + rank.demand) ROUND)) [
  | inl fits ↦ (let le = leb-true _ _ fits in absurd (omega arith))
  | inr full ↦ rw full refl
]

-- the code's step with room is the rule's
pub places_next : (p : PartialPlacement) (rank : ByDemand) (core load : ℕ) → IsFirstLeast p.loads core
    → load ≡ get_or p.loads core 0 + rank.demand → load ≤ ROUND
    → on_core p rank core load ≡ place_next p rank
places_next p rank core load is sum fits =
    let found = first_least p.loads core is in
    let load_is : load ≡ least_load p.loads + rank.demand = sum ∙ ap (λ n. n + rank.demand) found.1 in
    sym (place_next-fits p rank (omega arith)
    ∙ ap (λ c. on_core p rank c (least_load p.loads + rank.demand)) (sym found.0)
    ∙ ap (on_core p rank core) (sym load_is))

-- the code's step without room is the rule's
pub leaves_next : (p : PartialPlacement) (rank : ByDemand) (core load : ℕ) → IsFirstLeast p.loads core
    → load ≡ get_or p.loads core 0 + rank.demand → ROUND < load
    → left_over p rank ≡ place_next p rank
leaves_next p rank core load is sum over =
    let found = first_least p.loads core is in
    let load_is : load ≡ least_load p.loads + rank.demand = sum ∙ ap (λ n. n + rank.demand) found.1 in
    sym (place_next-left p rank (omega arith))

-- opens the fold by one step, for files that don't unfold it
pub place_all-cons : (p : PartialPlacement) (rank : ByDemand) (order : List ByDemand)
    → place_all p (rank ∷ order) ≡ place_all (place_next p rank) order
unfolding place_all
place_all-cons p rank order = refl

-- the fold's end
pub place_all-nil : (p : PartialPlacement) → place_all p [] ≡ p
unfolding place_all
place_all-nil p = refl

-- the rank at k is placed, and those after it are left
pub place_all-next : (order : List ByDemand) (k : ℕ) (rank : ByDemand) (p q all : PartialPlacement)
    → k < length order → rank ≡ get_or order k rank → q ≡ place_next p rank
    → place_all p (drop k order) ≡ all → place_all q (drop (k + 1) order) ≡ all
place_all-next order k rank p q all lt at step h =
    let split : drop k order ≡ rank ∷ drop (k + 1) order =
    drop-cons order k rank lt ∙ ap (λ r. r ∷ drop (suc k) order) (sym at)
    ∙ ap (λ n. rank ∷ drop n order) (sym (add-one k)) in
    rw step (sym (ap (place_all p) split ∙ place_all-cons p rank (drop (k + 1) order)) ∙ h)

-- no rank is left
pub place_all-end : (order : List ByDemand) (k : ℕ) (p all : PartialPlacement) → length order ≤ k
    → place_all p (drop k order) ≡ all → p ≡ all
place_all-end order k p all end h =
    sym (ap (place_all p) (drop_of_length-le order {i = k} end) ∙ place_all-nil p) ∙ h
