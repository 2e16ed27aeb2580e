-- Within the bound no vCPU is left over: the least load is at most the average, so a vCPU that
-- finds no room there would take the demands past the bound.
use Rattle.std.proofs.Common.{◌≡◌, ℕ, zero, suc, ◌+◌, ◌-◌, ◌*◌, ◌<◌, ◌≤◌, min, leb, List, [], ◌∷◌, ◌++◌, length, set, get_or, replicate, Option, None, Some, refl, sym, subst, ◌∙◌, inl, inr, arith, length-set}
use Rattle.std.specs.Prelude.{All}
use Rattle.std.specs.List.{sum_by}
use Rattle.std.proofs.Math.Nat.{mul-le-mul_left}
use Rattle.std.proofs.lemmas.Bool.{cases_Bool, cases_lt, leb-true, leb-false}
use Rattle.std.proofs.lemmas.List.{length-replicate}
use Rattle.std.proofs.lemmas.List.Elements.{All-append, All-cons, All-head, All-nil, All-tail}
use Rattle.std.proofs.lemmas.List.Sorted.{sum_by-IsPermutation}
use Rattle.std.proofs.lemmas.List.Sums.{sum_by-cons}
use Rattle.tab_core.specs.declared.TheConstants.{ROUND}
use Rattle.tab_core.specs.declared.periodic.Periodic.{Periodic}
use Rattle.worst_fit.specs.declared.by_demand.ByDemand.{ByDemand}
use Rattle.worst_fit.specs.Bound.{IsWithinBound, largest_demand, total_demand}
use Rattle.worst_fit.specs.Load.{task_demand}
use Rattle.worst_fit.specs.Order.{IsFallingOrder, ranks_from}
use Rattle.worst_fit.specs.Placement.{PartialPlacement, Staying, least_core, least_load, nothing_placed, place_all, place_moving, stay_all, stay_next, who_stays}
use Rattle.worst_fit.proofs.PlacingInvariant.{all_ranked}
use Rattle.worst_fit.proofs.PlacementLemmas.{on_core, place_all-cons, place_all-nil, place_next-fits}
use Rattle.worst_fit.proofs.StayingLemmas.{stay_all-cons, stay_all-nil, stays_or_moves}
use Rattle.worst_fit.proofs.OrderLemmas.{ranks_from-nil, ranks_from-none, ranks_from-some}

-- the loads of all cores together
abbrev total : List ℕ → ℕ
total [] = 0
total (load ∷ loads) = load + total loads

-- what the ranks take together
wanted : List ByDemand → ℕ
wanted [] = 0
wanted (rank ∷ ranks) = rank.demand + wanted ranks

-- no rank, nothing wanted
wanted-nil : wanted [] ≡ 0
unfolding wanted
wanted-nil = refl

-- no load is below the least
least_times : (loads : List ℕ) → length loads * least_load loads ≤ total loads
least_times [] = omega arith
least_times (load ∷ []) = omega arith
least_times (load ∷ next ∷ loads) =
    let rest : length (next ∷ loads) * least_load (next ∷ loads) ≤ total (next ∷ loads) =
    least_times (next ∷ loads) in
    let low : min load (least_load (next ∷ loads)) ≤ least_load (next ∷ loads) = omega arith in
    let more = mul-le-mul_left {m = min load (least_load (next ∷ loads))}
    {n = least_load (next ∷ loads)} (length (next ∷ loads)) low in
    omega arith

-- what is put on the least core is added to the total
total_set : (loads : List ℕ) (takes : ℕ) → 1 ≤ length loads
    → total (set loads (least_core loads) (least_load loads + takes)) ≡ total loads + takes
total_set [] takes some = absurd (omega arith)
total_set (load ∷ []) takes some = omega arith
total_set (load ∷ next ∷ loads) takes some = elim (cases_Bool (leb load (least_load (next ∷ loads)))) [
  | inl here ↦
      (let le = leb-true _ _ here in
      let least : min load (least_load (next ∷ loads)) ≡ load = omega arith in
      rw here (rw least (omega arith)))
  | inr there ↦ (let lt = leb-false _ _ there in
      let least : min load (least_load (next ∷ loads)) ≡ least_load (next ∷ loads) = omega arith in
      let rest = total_set (next ∷ loads) takes (omega arith) in
      rw there (rw least (omega arith)))
]

-- a vCPU that finds no room on n + 1 cores takes the demands past the bound
room : (n least takes most rest all : ℕ) → (n + 1) * least ≤ all → takes ≤ most
    → all + (takes + rest) + n * most ≤ (n + 1) * ROUND → least + takes ≤ ROUND
room n least takes most rest all low small bound = elim (cases_lt ROUND (least + takes)) [
  | inr fits ↦ fits
  | inl over ↦ (let each = mul-le-mul_left {m = takes} {n = most} n small in
      let more = mul-le-mul_left {m = ROUND + 1} {n = least + takes} (n + 1) (omega arith) in
      absurd (omega arith))
]

-- while the loads, the demands still to place and the reserve stay within the bound, each step finds
-- room
keeps_none : (n most : ℕ) (p : PartialPlacement) (order : List ByDemand)
    → length p.loads ≡ n + 1 → p.left ≡ []
    → All (λ rank. rank.demand ≤ most) order
    → total p.loads + wanted order + n * most ≤ (n + 1) * ROUND → (place_all p order).left ≡ []
unfolding wanted
keeps_none n most p [] cores none each bound = rw (place_all-nil p) none
keeps_none n most p (rank ∷ order) cores none each bound =
    let small : rank.demand ≤ most = All-head (λ (r : ByDemand). r.demand ≤ most) rank order each in
    let low : (n + 1) * least_load p.loads ≤ total p.loads =
    subst (λ m. m * least_load p.loads ≤ total p.loads) cores (least_times p.loads) in
    let fits = room n (least_load p.loads) rank.demand most (wanted order) (total p.loads) low small
    (omega arith) in
    let grown = total_set p.loads rank.demand (omega arith) in
    rw (place_all-cons p rank order) (rw (place_next-fits p rank fits)
    (keeps_none n most (on_core p rank (least_core p.loads) (least_load p.loads + rank.demand))
    order (length-set p.loads (least_core p.loads) (least_load p.loads + rank.demand) ∙ cores)
    none
    (All-tail (λ (r : ByDemand). r.demand ≤ most) rank order each) (omega arith)))

-- the induction begins with empty cores
total_empty : (n : ℕ) → total (replicate n 0) ≡ 0
total_empty zero = refl
total_empty (suc n) = let rest = total_empty n in omega arith

-- as a sum, which doesn't depend on the order
wanted_is : (ranks : List ByDemand) → wanted ranks ≡ sum_by (λ rank. rank.demand) ranks
unfolding wanted
wanted_is [] = refl
wanted_is (rank ∷ ranks) = let rest = wanted_is ranks in omega
    (arith, sum_by-cons (λ (r : ByDemand). r.demand) rank ranks)

-- the ranks of tasks take together what the tasks do
wanted_from : (number : ℕ) (tasks : List (Option Periodic))
    → wanted (ranks_from number tasks) ≡ total_demand tasks
unfolding wanted
wanted_from number [] = rw (ranks_from-nil number) refl
wanted_from number (None ∷ tasks) =
    let rest = wanted_from (number + 1) tasks in
    let first = sum_by-cons task_demand None tasks in
    rw (ranks_from-none number tasks) (omega arith)
wanted_from number (Some task ∷ tasks) =
    let rest = wanted_from (number + 1) tasks in
    let first = sum_by-cons task_demand (Some task) tasks in
    rw (ranks_from-some number task tasks) (omega arith)

-- the order of placing changes nothing of what is wanted in total
wanted_order : (tasks : List (Option Periodic)) (order : List ByDemand) → IsFallingOrder tasks order
    → wanted order ≡ total_demand tasks
wanted_order tasks order falling_order =
    wanted_is order ∙ sum_by-IsPermutation (λ (r : ByDemand). r.demand)
    (ranks_from 0 tasks) order falling_order.admitted ∙ sym (wanted_is (ranks_from 0 tasks))
    ∙ wanted_from 0 tasks

-- each vCPU's demand is covered by the reserve of the bound
at_most_largest : (tasks : List (Option Periodic)) (vcpu : ℕ)
    → task_demand (get_or tasks vcpu None) ≤ largest_demand tasks
at_most_largest [] vcpu = omega arith
at_most_largest (task ∷ tasks) zero = omega arith
at_most_largest (task ∷ tasks) (suc vcpu) = let rest = at_most_largest tasks vcpu in omega arith

-- each demand of the ranks, of which the steps speak, is covered by the reserve of the bound
each_small : (tasks : List (Option Periodic)) (order : List ByDemand) → IsFallingOrder tasks order
    → All (λ rank. rank.demand ≤ largest_demand tasks) order
each_small tasks order falling_order = λ k d lt.
    let ranked = all_ranked tasks order falling_order k d lt in
    let takes = ranked.takes in
    let most = at_most_largest tasks (get_or order k d).vcpu in
    omega arith

-- what stays and what moves is together what there was before
record SameTotal (most : ℕ) (s t : Staying) (taken : ℕ) : Type 0 where
  pub total_is : total t.placed.loads + wanted t.moving ≡ total s.placed.loads + wanted s.moving + taken
  pub small : All (λ rank. rank.demand ≤ most) t.moving
  pub cores : length t.placed.loads ≡ length s.placed.loads
  pub left : t.placed.left ≡ s.placed.left

-- what is put on any core is added to the total
total_add : (loads : List ℕ) (core takes : ℕ) → core < length loads
    → total (set loads core (get_or loads core 0 + takes)) ≡ total loads + takes
total_add [] core takes lt = absurd (omega arith)
total_add (load ∷ loads) zero takes lt = omega arith
total_add (load ∷ loads) (suc core) takes lt =
    let rest = total_add loads core takes (omega arith) in omega arith

-- one more at the end is wanted too
wanted_more : (ranks : List ByDemand) (rank : ByDemand) → wanted (ranks ++ rank ∷ []) ≡ wanted ranks + rank.demand
unfolding wanted
wanted_more [] rank = omega arith
wanted_more (first ∷ ranks) rank = let rest = wanted_more ranks rank in omega arith

-- a step keeps the total
same_total_next : (homes : List (Option ℕ)) (most : ℕ) (s : Staying) (rank : ByDemand)
    → rank.demand ≤ most → All (λ r. r.demand ≤ most) s.moving
    → SameTotal most s (stay_next homes s rank) rank.demand
same_total_next homes most s rank small each = elim (stays_or_moves homes s rank) [
  | inl (home, stays) ↦ subst (λ t. SameTotal most s t rank.demand) (sym stays.is) (record {
    total_is = let grown = total_add s.placed.loads home rank.demand stays.there in omega arith;
    small = each;
    cores = length-set s.placed.loads home (get_or s.placed.loads home 0 + rank.demand);
    left = refl;
  })
  | inr moves ↦ subst (λ t. SameTotal most s t rank.demand) (sym moves.is) (record {
    total_is = let grown = wanted_more s.moving rank in omega arith;
    small = All-append (λ (r : ByDemand). r.demand ≤ most) s.moving (rank ∷ []) each
        (All-cons (λ (r : ByDemand). r.demand ≤ most) rank [] small
        (All-nil (λ (r : ByDemand). r.demand ≤ most)));
    cores = refl;
    left = refl;
  })
]

-- all steps keep the total
same_total : (homes : List (Option ℕ)) (most : ℕ) (s : Staying) (order : List ByDemand)
    → All (λ r. r.demand ≤ most) order → All (λ r. r.demand ≤ most) s.moving
    → SameTotal most s (stay_all homes s order) (wanted order)
unfolding wanted
same_total homes most s [] each small = subst (λ t. SameTotal most s t 0) (sym (stay_all-nil homes s))
    (record { total_is = omega arith; small = small; cores = refl; left = refl })
same_total homes most s (rank ∷ order) each small =
    let Small : ByDemand → Type 0 = λ r. r.demand ≤ most in
    let next = same_total_next homes most s rank (All-head Small rank order each) small in
    let rest = same_total homes most (stay_next homes s rank) order (All-tail Small rank order each)
    next.small in
    let one = next.total_is in
    let more = rest.total_is in
    subst (λ t. SameTotal most s t (rank.demand + wanted order)) (sym (stay_all-cons homes s rank order))
    (record {
      total_is = omega arith;
      small = rest.small;
      cores = rest.cores ∙ next.cores;
      left = rest.left ∙ next.left;
    })

-- what `place_staying` promises within the bound, from empty cores on: those that stay take as much
-- as they would elsewhere
pub none_left : (homes : List (Option ℕ)) (tasks : List (Option Periodic)) (cores : ℕ)
    (order : List ByDemand) → 1 ≤ cores → IsFallingOrder tasks order → IsWithinBound tasks cores
    → (place_moving (who_stays homes cores (length tasks) order)).left ≡ []
none_left homes tasks cores order some falling_order bound =
    let n = cores - 1 in
    let e : cores ≡ n + 1 = omega arith in
    let begin : Staying = record { placed = nothing_placed cores (length tasks); moving = [] } in
    let s = who_stays homes cores (length tasks) order in
    let most = largest_demand tasks in
    let same = same_total homes most begin order (each_small tasks order falling_order)
    (All-nil (λ (r : ByDemand). r.demand ≤ most)) in
    keeps_none n most s.placed s.moving (same.cores ∙ length-replicate cores 0 ∙ e) same.left same.small
    (let none = total_empty cores in
    let total_is = same.total_is in
    let nothing = wanted-nil in
    let wants = wanted_order tasks order falling_order in
    let all = subst (λ m. total_demand tasks + n * most ≤ m * ROUND) e bound in
    omega arith)
