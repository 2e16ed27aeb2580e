-- How often a vCPU is among ranks, in a list of vCPUs, and in a list by vCPU number.
use Rattle.std.proofs.Common.{◌≡◌, ◌≢◌, ℕ, zero, suc, ◌+◌, ◌<◌, ◌≤◌, Bool, cond, eqb, List, [], ◌∷◌, ◌++◌, length, get_or, is_some, Option, None, Some, Contains, inl, inr, refl, sym, ap, ◌∙◌, arith}
use Rattle.std.specs.Prelude.{IsPermutation, slice_get}
use Rattle.std.specs.List.{sum_by}
use Rattle.std.proofs.lemmas.Bool.{cases_eq, eq-eqb}
use Rattle.std.proofs.lemmas.Bool.Decides.{eqb_tells}
use Rattle.std.proofs.lemmas.List.Sums.{sum_by-cons}
use Rattle.std.proofs.lemmas.List.Sorted.{sum_by-IsPermutation}
use Rattle.tab_core.specs.declared.periodic.Periodic.{Periodic}
use Rattle.worst_fit.specs.declared.by_demand.ByDemand.{ByDemand}
use Rattle.worst_fit.specs.Order.{ranks_from}
use Rattle.worst_fit.proofs.OrderLemmas.{rank_of, ranks_from-nil, ranks_from-none, ranks_from-some}

-- a truth value counted, so that one equation says who is placed, left over or still to come
abbrev pub one_if : Bool → ℕ
one_if b = cond b 1 0

-- 1 for this vCPU and 0 for another
abbrev pub same : ℕ → ℕ → ℕ
same a b = one_if (eqb a b)

-- the ranks of this vCPU
pub turns : ℕ → List ByDemand → ℕ
turns vcpu [] = 0
turns vcpu (rank ∷ ranks) = same rank.vcpu vcpu + turns vcpu ranks

-- the places of this vCPU in a list
pub lefts : ℕ → List ℕ → ℕ
lefts vcpu [] = 0
lefts vcpu (other ∷ left) = same other vcpu + lefts vcpu left

-- whether the list has something for this vCPU
abbrev pub has : {X : Type 0} → ℕ → List (Option X) → ℕ
has {X} vcpu xs = one_if (is_some (get_or xs vcpu None))

-- the count at the vCPU itself
pub same-one : (a b : ℕ) → a ≡ b → same a b ≡ 1
same-one a b e = rw (eq-eqb a b e) refl

-- the count at any other vCPU
pub same-zero : (a b : ℕ) → a ≢ b → same a b ≡ 0
same-zero a b ne = elim (eqb_tells a b) [
  | inl (is, e) ↦ absurd (ne e)
  | inr (is, other) ↦ rw is refl
]

-- opens `turns` by one rank, for files that don't unfold it
pub turns-cons : (vcpu : ℕ) (rank : ByDemand) (ranks : List ByDemand)
    → turns vcpu (rank ∷ ranks) ≡ same rank.vcpu vcpu + turns vcpu ranks
unfolding turns
turns-cons vcpu rank ranks = refl

-- no rank, no turn: where the loop has ended
pub turns-nil : (vcpu : ℕ) → turns vcpu [] ≡ 0
unfolding turns
turns-nil vcpu = refl

-- nobody is left over as the loop begins
pub lefts-nil : (vcpu : ℕ) → lefts vcpu [] ≡ 0
unfolding lefts
lefts-nil vcpu = refl

-- as a sum, which sorting leaves as it is
turns_is : (vcpu : ℕ) (ranks : List ByDemand) → turns vcpu ranks ≡ sum_by (λ rank. same rank.vcpu vcpu) ranks
unfolding turns
turns_is vcpu [] = refl
turns_is vcpu (rank ∷ ranks) = ap (λ n. same rank.vcpu vcpu + n) (turns_is vcpu ranks)
    ∙ sym (sum_by-cons (λ (r : ByDemand). same r.vcpu vcpu) rank ranks)

-- another order has the same ranks
pub turns-permutation : (vcpu : ℕ) (ranks order : List ByDemand) → IsPermutation ranks order
    → turns vcpu order ≡ turns vcpu ranks
turns-permutation vcpu ranks order p = turns_is vcpu order
    ∙ sum_by-IsPermutation (λ (r : ByDemand). same r.vcpu vcpu) ranks order p
    ∙ sym (turns_is vcpu ranks)

-- the ranks from a number on have no vCPU of a lower number
turns_below : (vcpu number : ℕ) (tasks : List (Option Periodic)) → vcpu < number
    → turns vcpu (ranks_from number tasks) ≡ 0
turns_below vcpu number [] lt = rw (ranks_from-nil number) (turns-nil vcpu)
turns_below vcpu number (None ∷ tasks) lt =
    rw (ranks_from-none number tasks) (turns_below vcpu (number + 1) tasks (omega arith))
turns_below vcpu number (Some task ∷ tasks) lt =
    let rest = turns_below vcpu (number + 1) tasks (omega arith) in
    let other = same-zero number vcpu (omega arith) in
    let split = turns-cons vcpu (rank_of number task) (ranks_from (number + 1) tasks) in
    rw (ranks_from-some number task tasks) (omega arith)

-- the ranks from a number on have each admitted vCPU from there on once
pub turns_from : (vcpu number k : ℕ) (tasks : List (Option Periodic)) → vcpu ≡ number + k
    → turns vcpu (ranks_from number tasks) ≡ has k tasks
turns_from vcpu number k [] e = rw (ranks_from-nil number) (turns-nil vcpu)
turns_from vcpu number zero (None ∷ tasks) e =
    rw (ranks_from-none number tasks) (turns_below vcpu (number + 1) tasks (omega arith))
turns_from vcpu number (suc k) (None ∷ tasks) e =
    rw (ranks_from-none number tasks) (turns_from vcpu (number + 1) k tasks (omega arith))
turns_from vcpu number zero (Some task ∷ tasks) e =
    let rest = turns_below vcpu (number + 1) tasks (omega arith) in
    let here = same-one number vcpu (omega arith) in
    let split = turns-cons vcpu (rank_of number task) (ranks_from (number + 1) tasks) in
    rw (ranks_from-some number task tasks) (omega arith)
turns_from vcpu number (suc k) (Some task ∷ tasks) e =
    let rest = turns_from vcpu (number + 1) k tasks (omega arith) in
    let other = same-zero number vcpu (omega arith) in
    let split = turns-cons vcpu (rank_of number task) (ranks_from (number + 1) tasks) in
    rw (ranks_from-some number task tasks) (omega arith)

-- one more is left over at the end of the list
pub lefts-more : (vcpu other : ℕ) (left : List ℕ)
    → lefts vcpu (left ++ other ∷ []) ≡ lefts vcpu left + same other vcpu
unfolding lefts
lefts-more vcpu other [] = omega arith
lefts-more vcpu other (first ∷ left) = let rest = lefts-more vcpu other left in omega arith

-- who is counted is in the list
pub contains_counted : (vcpu : ℕ) (left : List ℕ) → 1 ≤ lefts vcpu left → Contains left vcpu
unfolding lefts
contains_counted vcpu [] some = absurd (omega arith)
contains_counted vcpu (other ∷ left) some = elim (cases_eq other vcpu) [
  | inl e ↦ (0, omega arith, e)
  | inr ne ↦ (let none = same-zero other vcpu ne in
      let rest = contains_counted vcpu left (omega arith) in
      (suc rest.0, omega (arith, rest.1), rest.2))
]

-- who is in the list is counted
pub counts_at : (vcpu k d : ℕ) (left : List ℕ) → k < length left → get_or left k d ≡ vcpu
    → 1 ≤ lefts vcpu left
unfolding lefts
counts_at vcpu k d [] lt at = absurd (omega arith)
counts_at vcpu zero d (other ∷ left) lt at = let one = same-one other vcpu at in omega arith
counts_at vcpu (suc k) d (other ∷ left) lt at =
    let rest = counts_at vcpu k d left (omega arith) at in omega arith

-- who is found at a place is counted, which makes two places count twice
counts_got : (vcpu k : ℕ) (left : List ℕ) → slice_get left k ≡ Some vcpu → 1 ≤ lefts vcpu left
unfolding lefts
counts_got vcpu k [] at = absurd cc
counts_got vcpu zero (other ∷ left) at =
    let e : other ≡ vcpu = cc in let one = same-one other vcpu e in omega arith
counts_got vcpu (suc k) (other ∷ left) at = let rest = counts_got vcpu k left at in omega arith

-- who is counted once is at one place
pub one_place : (vcpu j k : ℕ) (left : List ℕ) → lefts vcpu left ≤ 1 → slice_get left j ≡ Some vcpu
    → slice_get left k ≡ Some vcpu → j ≡ k
unfolding lefts
one_place vcpu j k [] once at_j at_k = absurd cc
one_place vcpu zero zero (other ∷ left) once at_j at_k = refl
one_place vcpu zero (suc k) (other ∷ left) once at_j at_k =
    let e : other ≡ vcpu =
    cc in let one = same-one other vcpu e in let more = counts_got vcpu k left at_k in absurd (omega arith)
one_place vcpu (suc j) zero (other ∷ left) once at_j at_k =
    let e : other ≡ vcpu =
    cc in let one = same-one other vcpu e in let more = counts_got vcpu j left at_j in absurd (omega arith)
one_place vcpu (suc j) (suc k) (other ∷ left) once at_j at_k =
    ap suc (one_place vcpu j k left (omega arith) at_j at_k)
