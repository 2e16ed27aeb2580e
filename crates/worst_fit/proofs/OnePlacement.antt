-- Tasks have one falling order, and so one placement.
use Rattle.std.proofs.Common.{◌≡◌, ℕ, suc, ◌+◌, ◌<◌, ◌≤◌, false, List, [], ◌∷◌, length, get_or, Option, None, inl, inr, refl, sym, ap, subst, ◌∙◌, arith, rules}
use Rattle.std.specs.Prelude.{All, IsSorted}
use Rattle.std.specs.Cmp.{IsTotalOrder}
use Rattle.std.specs.Cmp.Rules.{comparing}
use Rattle.std.specs.Ordering.{is_lt, nat_cmp, ordering_then}
use Rattle.std.proofs.lemmas.Bool.Decides.{nat_tests}
use Rattle.std.proofs.lemmas.Bool.{cases_eq}
use Rattle.std.proofs.lemmas.List.Elements.{All-head, All-tail}
use Rattle.std.proofs.lemmas.List.Sorted.{ranks_by, sorted_far}
use Rattle.tab_core.specs.declared.periodic.Periodic.{Periodic}
use Rattle.worst_fit.specs.declared.placed.Placed.{Placed}
use Rattle.worst_fit.specs.declared.by_demand.ByDemand.{ByDemand}
use Rattle.worst_fit.specs.Load.{task_demand}
use Rattle.worst_fit.specs.Order.{IsFallingOrder, by_falling_demand, ranks_from}
use Rattle.worst_fit.specs.Placement.{IsStayingPlacement, PartialPlacement, place_moving, who_stays}
use Rattle.worst_fit.proofs.Counts.{same, same-one, same-zero, turns, turns-cons, turns-nil, turns-permutation}
use Rattle.worst_fit.proofs.PlacingInvariant.{IsRankIn, all_ranked}

-- the order of placing is total, which std's lemmas on sorted lists ask for
by_falling_demand_total : IsTotalOrder by_falling_demand
by_falling_demand_total = search (comparing, rules)

-- no rank of a list in falling order comes before its first
first_leads : (first : ByDemand) (order : List ByDemand) (k : ℕ) → IsSorted by_falling_demand (first ∷ order)
    → k < length (first ∷ order) → is_lt (by_falling_demand (get_or (first ∷ order) k first) first) ≡ false
first_leads first order k sorted lt =
    sorted_far _ (ranks_by by_falling_demand_total (λ (r : ByDemand). r)) (first ∷ order) sorted 0 k first
    (omega arith) lt

-- what is after the first is sorted too: the induction's step
falls_behind : (first : ByDemand) (order : List ByDemand)
    → IsSorted by_falling_demand (first ∷ order) → IsSorted by_falling_demand order
falls_behind first order sorted = λ k d low lt.
    let e : suc k + 1 ≡ suc (k + 1) = omega arith in
    subst (λ n. is_lt (by_falling_demand (get_or (first ∷ order) n d) (get_or (first ∷ order) (suc k) d))
    ≡ false) e (sorted (suc k) d (omega arith) (omega arith))

-- a vCPU that has a turn has a place
place_of_turn : (vcpu : ℕ) (order : List ByDemand) (d : ByDemand) → 1 ≤ turns vcpu order
    → (k : ℕ) × (k < length order) × ((get_or order k d).vcpu ≡ vcpu)
place_of_turn vcpu [] d some = absurd (let none = turns-nil vcpu in omega arith)
place_of_turn vcpu (rank ∷ order) d some = elim (cases_eq rank.vcpu vcpu) [
  | inl e ↦ (0, omega arith, e)
  | inr ne ↦ (let none = same-zero rank.vcpu vcpu ne in
      let split = turns-cons vcpu rank order in
      let rest = place_of_turn vcpu order d (omega arith) in
      (suc rest.0, omega (arith, rest.1), rest.2))
]

-- numbers of which neither pair comes before the other are the same
same_numbers : (d e v w : ℕ) → is_lt (ordering_then (nat_cmp e d) (nat_cmp v w)) ≡ false
    → is_lt (ordering_then (nat_cmp d e) (nat_cmp w v)) ≡ false → (d ≡ e) × (v ≡ w)
same_numbers d e v w one other =
    let demand : d ≡ e = grind (arith, nat_tests) in
    (demand, grind (arith, nat_tests))

-- ranks of which neither comes before the other are one
neither_before : (a b : ByDemand)
    → is_lt (by_falling_demand a b) ≡ false → is_lt (by_falling_demand b a) ≡ false → a ≡ b
neither_before a b not_a not_b =
    let numbers = same_numbers a.demand b.demand a.vcpu b.vcpu not_a not_b in
    let with_demand = λ (n : ℕ). let r : ByDemand = record { demand = n; vcpu = a.vcpu } in r in
    let with_vcpu = λ (n : ℕ). let r : ByDemand = record { demand = b.demand; vcpu = n } in r in
    ap with_demand numbers.0 ∙ ap with_vcpu numbers.1

-- a list with a rank has a turn that an empty one doesn't have
has_turn : (rank : ByDemand) (order : List ByDemand) → turns rank.vcpu (rank ∷ order) ≡ turns rank.vcpu [] → ⊥
has_turn rank order h =
    let split = turns-cons rank.vcpu rank order in
    let one = same-one rank.vcpu rank.vcpu refl in
    let none = turns-nil rank.vcpu in
    omega arith

-- ranks of one vCPU take what its task does, so they are one
same_rank : (tasks : List (Option Periodic)) (a b : ByDemand) → IsRankIn tasks a → IsRankIn tasks b
    → a.vcpu ≡ b.vcpu → a ≡ b
same_rank tasks a b in_a in_b e =
    let demand : a.demand ≡ b.demand =
    in_a.takes ∙ ap (λ v. task_demand (get_or tasks v None)) e ∙ sym in_b.takes in
    let with_demand = λ (n : ℕ). let r : ByDemand = record { demand = n; vcpu = a.vcpu } in r in
    let with_vcpu = λ (n : ℕ). let r : ByDemand = record { demand = b.demand; vcpu = n } in r in
    ap with_demand demand ∙ ap with_vcpu e

-- the first of one list doesn't come after that of the other, which has a place in the first
not_before : (tasks : List (Option Periodic)) (a b : ByDemand) (behind_a behind_b : List ByDemand)
    → ((vcpu : ℕ) → turns vcpu (a ∷ behind_a) ≡ turns vcpu (b ∷ behind_b))
    → All (IsRankIn tasks) (a ∷ behind_a) → All (IsRankIn tasks) (b ∷ behind_b)
    → IsSorted by_falling_demand (a ∷ behind_a) → is_lt (by_falling_demand b a) ≡ false
not_before tasks a b behind_a behind_b turn in_a in_b falls_a =
    let split = turns-cons b.vcpu b behind_b in
    let one = same-one b.vcpu b.vcpu refl in
    let here = turn b.vcpu in
    let place = place_of_turn b.vcpu (a ∷ behind_a) a (omega arith) in
    let found : get_or (a ∷ behind_a) place.0 a ≡ b =
    same_rank tasks (get_or (a ∷ behind_a) place.0 a) b (in_a place.0 a place.1)
    (All-head (IsRankIn tasks) b behind_b in_b) place.2 in
    subst (λ r. is_lt (by_falling_demand r a) ≡ false) found (first_leads a behind_a place.0 falls_a place.1)

-- sorted lists with the same turns begin alike
same_head : (tasks : List (Option Periodic)) (a b : ByDemand) (behind_a behind_b : List ByDemand)
    → ((vcpu : ℕ) → turns vcpu (a ∷ behind_a) ≡ turns vcpu (b ∷ behind_b))
    → All (IsRankIn tasks) (a ∷ behind_a) → All (IsRankIn tasks) (b ∷ behind_b)
    → IsSorted by_falling_demand (a ∷ behind_a) → IsSorted by_falling_demand (b ∷ behind_b) → a ≡ b
same_head tasks a b behind_a behind_b turn in_a in_b falls_a falls_b =
    neither_before a b (not_before tasks b a behind_b behind_a
    (λ v. sym (turn v)) in_b in_a falls_b)
    (not_before tasks a b behind_a behind_b turn in_a in_b falls_a)

-- lists in falling order with the same turns are one
same_order : (tasks : List (Option Periodic)) (xs ys : List ByDemand)
    → ((vcpu : ℕ) → turns vcpu xs ≡ turns vcpu ys)
    → All (IsRankIn tasks) xs → All (IsRankIn tasks) ys
    → IsSorted by_falling_demand xs → IsSorted by_falling_demand ys → xs ≡ ys
same_order tasks [] [] turn in_x in_y falls_x falls_y = refl
same_order tasks [] (y ∷ ys) turn in_x in_y falls_x falls_y = absurd (has_turn y ys (sym (turn y.vcpu)))
same_order tasks (x ∷ xs) [] turn in_x in_y falls_x falls_y = absurd (has_turn x xs (turn x.vcpu))
same_order tasks (x ∷ xs) (y ∷ ys) turn in_x in_y falls_x falls_y =
    let e : x ≡ y = same_head tasks x y xs ys turn in_x in_y falls_x falls_y in
    let behind = λ (vcpu : ℕ).
    (let one = turns-cons vcpu x xs in let other = turns-cons vcpu y ys in let all = turn vcpu in
    let first = ap (λ (r : ByDemand). same r.vcpu vcpu) e in
    let both : turns vcpu xs ≡ turns vcpu ys = omega arith in both) in
    let rest = same_order tasks xs ys behind (All-tail (IsRankIn tasks) x xs in_x)
    (All-tail (IsRankIn tasks) y ys in_y) (falls_behind x xs falls_x)
    (falls_behind y ys falls_y) in
    ap (λ r. r ∷ xs) e ∙ ap (λ l. y ∷ l) rest

-- the order of placing is determined by the tasks
pub falling_order_unique : (tasks : List (Option Periodic)) (one other : List ByDemand)
    → IsFallingOrder tasks one → IsFallingOrder tasks other → one ≡ other
falling_order_unique tasks one other of_one of_other =
    same_order tasks one other (λ vcpu. turns-permutation vcpu
    (ranks_from 0 tasks) one of_one.admitted
    ∙ sym (turns-permutation vcpu (ranks_from 0 tasks) other of_other.admitted))
    (all_ranked tasks one of_one) (all_ranked tasks other of_other) of_one.falls of_other.falls

-- the tasks have one placement beside those that stay
pub placement_unique : (homes : List (Option ℕ)) (tasks : List (Option Periodic)) (cores : ℕ)
    (one other : Placed)
    → IsStayingPlacement homes tasks cores one → IsStayingPlacement homes tasks cores other → one ≡ other
placement_unique homes tasks cores one other of_one of_other =
    let order = falling_order_unique tasks of_one.order of_other.order of_one.falling_order
    of_other.falling_order in
    let outcome = ap (λ l. place_moving (who_stays homes cores (length tasks) l)) order in
    let core_of : one.core_of ≡ other.core_of =
    of_one.core_of ∙ ap (λ (p : PartialPlacement). p.core_of) outcome ∙ sym of_other.core_of in
    let left : one.left ≡ other.left =
    of_one.left ∙ ap (λ (p : PartialPlacement). p.left) outcome ∙ sym of_other.left in
    let with_core_of =
    λ (l : List (Option ℕ)). let p : Placed = record { core_of = l; left = one.left } in p
    in
    let with_left = λ (l : List ℕ). let p : Placed = record { core_of = other.core_of; left = l } in p in
    ap with_core_of core_of ∙ ap with_left left
