-- The first core of an order on which a fact holds.
use Rattle.std.proofs.Common.{◌≡◌, ◌≢◌, ℕ, zero, suc, ◌+◌, ◌-◌, ◌<◌, ◌≤◌, false, is_lt, nat_cmp, IsPermutation, IsSorted, List, length, get_or, subst, sym, ◌∙◌, ap, inl, inr, ◌⊎◌, arith}
use Rattle.std.specs.List.{All, Contains}
use Rattle.std.specs.Ordering.{ordering_then}
use Rattle.std.specs.Cmp.{nat_cmp_is}
use Rattle.std.specs.declared.cmp.Ordering.TheVariants.{Equal, Less}
use Rattle.std.proofs.lemmas.List.{get_or_default}
use Rattle.std.proofs.lemmas.List.Sorted.{All-permutation, Contains-permutation}
use Rattle.std.proofs.lemmas.Map.Keys.{ge_from_not_lt}
use Rattle.std.proofs.lemmas.List.Elements.{All-contains, Contains-get_or, at_read}
use Rattle.std.proofs.lemmas.Bool.{cases_eq, cases_order}
use Rattle.tab_core.specs.declared.piece.Piece.{Piece}
use Rattle.cd_split.specs.Inside.Order.{IsOrderOf, IsCoreLoad}
use Rattle.cd_split.specs.Inside.Search.{NoneBefore}
use Rattle.cd_split.specs.Splitting.{ComesFirst, IsFirstCore}
use Rattle.cd_split.specs.declared.order.CoreLoad.{CoreLoad}

-- the next core of the order
pub none_more : (order : List CoreLoad) (unused : List ℕ) (P : ℕ → Type 0) (k : ℕ) (item : CoreLoad)
    → NoneBefore order unused P k → k < length order → item ≡ get_or order k item →
    (Contains unused item.core → P item.core → ⊥) → NoneBefore order unused P (k + 1)
none_more order unused P k item none lt is here j d below =
    elim (cases_eq j k) [
      | inl e ↦ subst (λ i. Contains unused (get_or order i d).core → P (get_or order i d).core → ⊥)
          (sym e) (at_read order (λ r. Contains unused r.core → P r.core → ⊥) k item lt is here d)
      | inr ne ↦ none j d (omega arith)
    ]

-- a search that came to the end of the order has tried each unused core
pub none_found : (cores : List (List Piece)) (order : List CoreLoad) (unused : List ℕ) (P : ℕ → Type 0)
    (k : ℕ) → IsOrderOf cores order → All (λ core. core < length cores) unused →
    length order ≤ k → NoneBefore order unused P k → (core : ℕ) → Contains unused core → P core → ⊥
none_found cores order unused P k ordered there all none core in_unused holds =
    let d : CoreLoad = record { load = 0; core = core } in
    let at = ordered.complete core (All-contains (λ c. c < length cores) unused core there in_unused) in
    let same : core ≡ (get_or order at.0 d).core = sym (at.2 d) in
    none at.0 d (omega (arith, at.1)) (subst (Contains unused) same in_unused) (subst P same holds)

-- a search that stops has found the first unused core, since the order rises
pub first_found : (cores : List (List Piece)) (order : List CoreLoad) (unused : List ℕ) (P : ℕ → Type 0)
    (d : CoreLoad) (k core : ℕ) → IsOrderOf cores order →
    All (λ core. core < length cores) unused → k < length order → (get_or order k d).core ≡ core
    → NoneBefore order unused P k → Contains unused core → P core →
    IsFirstCore cores unused P core
first_found cores order unused P d k core ordered there lt is none in_unused holds = record {
  unused_core = in_unused;
  does = holds;
  first = λ other in_other holds_other ne. (
      let at = ordered.complete other (All-contains (λ c. c < length cores) unused other there in_other) in
      let same : other ≡ (get_or order at.0 d).core = sym (at.2 d) in
      elim (cases_order at.0 k) [
        | inl e ↦ absurd (ne (same ∙ ap (λ j. (get_or order j d).core) e ∙ is))
        | inr apart ↦ elim apart [
          | inl before ↦
              absurd (none at.0 d before (subst (Contains unused) same in_other)
              (subst P same holds_other))
          | inr after ↦ (let first = ordered.rising k at.0 d after at.1 (λ e. ne (same ∙ sym e ∙ is)) in
              subst (λ c. ComesFirst cores c other) is
              (subst (ComesFirst cores (get_or order k d).core) (sym same) first))
        ]
      ]);
}

-- the lower load, and of equal ones the lower core
abbrev IsBefore : CoreLoad → CoreLoad → Type 0
IsBefore r s = (r.load < s.load) ⊎ ((r.load ≡ s.load) × (r.core ≤ s.core))

-- what the sort says of two neighbours, as a fact on loads and numbers
before_from_cmp : (a b m n : ℕ) → is_lt (ordering_then (nat_cmp a b) (nat_cmp m n)) ≡ false
    → (b < a) ⊎ ((b ≡ a) × (n ≤ m))
before_from_cmp a b m n h = elim (cases_order a b) [
  | inl e ↦
      (let equal : nat_cmp a b ≡ Equal = sym (nat_cmp_is a b Equal e) in inr
      (sym e, ge_from_not_lt m n (rw equal at h)))
  | inr apart ↦ elim apart [
    | inl lt ↦
        (let less : nat_cmp a b ≡ Less = sym (nat_cmp_is a b Less lt) in let h' = rw less at h in absurd (cc))
    | inr gt ↦ inl gt
  ]
]

-- the order of the loads is transitive, ties included
before_after : (r s t : CoreLoad) → IsBefore r s → IsBefore s t → IsBefore r t
before_after r s t (inl a) (inl b) = inl (omega arith)
before_after r s t (inl a) (inr b) = inl (omega (arith, b.0))
before_after r s t (inr a) (inl b) = inl (omega (arith, a.0))
before_after r s t (inr a) (inr b) = inr (a.0 ∙ b.0, omega (arith, a.1, b.1))

-- from each rank to the next, so from each to all later ones
rises_all : (ranks : List CoreLoad) (d : CoreLoad)
    → ((k : ℕ) → k + 1 < length ranks → IsBefore (get_or ranks k d) (get_or ranks (k + 1) d))
    → (j n : ℕ) → j + suc n < length ranks →
    IsBefore (get_or ranks j d) (get_or ranks (j + suc n) d)
rises_all ranks d next j zero lt =
    let same : j + 1 ≡ j + suc zero =
    omega arith in subst (λ k. IsBefore (get_or ranks j d) (get_or ranks k d)) same
    (next j (omega arith))
rises_all ranks d next j (suc n) lt =
    let same : j + suc n + 1 ≡ j + suc (suc n) = omega arith in
    before_after (get_or ranks j d) (get_or ranks (j + suc n) d) (get_or ranks (j + suc (suc n)) d)
    (rises_all ranks d next j n (omega arith))
    (subst (λ k. IsBefore (get_or ranks (j + suc n) d) (get_or ranks k d)) same
    (next (j + suc n) (omega arith)))

-- it is the order of the rules, where the cores differ
comes_first : (cores : List (List Piece)) (r s : CoreLoad) → IsCoreLoad cores r → IsCoreLoad cores s
    → IsBefore r s → r.core ≢ s.core → ComesFirst cores r.core s.core
comes_first cores r s in_r in_s (inl less) ne = inl (omega (arith, in_r.value, in_s.value))
comes_first cores r s in_r in_s (inr same) ne =
    inr (sym in_r.value ∙ same.0 ∙ in_s.value, omega (arith, same.1))

-- the ranks of all cores, sorted
pub order_from_sort : (cores : List (List Piece)) (made sorted : List CoreLoad)
    → length made ≡ length cores → All (IsCoreLoad cores) made →
    ((k : ℕ) (d : CoreLoad) → k < length made → (get_or made k d).core ≡ k) → IsPermutation made sorted →
    IsSorted (λ r s. ordering_then (nat_cmp r.load s.load) (nat_cmp r.core s.core)) sorted
    → IsOrderOf cores sorted
order_from_sort cores made sorted count ranks numbers moved rising =
    let all = All-permutation (IsCoreLoad cores) made sorted moved ranks in
    record {
      loads = all;
      complete = λ core lt. (
          let d : CoreLoad = record { load = 0; core = core } in
          let rank = get_or made core d in
          let lt' : core < length made = omega arith in
          let at = Contains-permutation made sorted rank moved (Contains-get_or made core d lt') in (
            at.0,
            at.1,
            λ e. ap (λ (r : CoreLoad). r.core)
                (get_or_default sorted at.0 e rank at.1 ∙ at.2) ∙ numbers core d lt',
          ));
      rising = λ j k d before lt ne. (
          let same : j + suc (k - j - 1) ≡ k = omega arith in
          let next = λ (i : ℕ) (inside : i + 1 < length sorted). before_from_cmp
          (get_or sorted (i + 1) d).load (get_or sorted i d).load
          (get_or sorted (i + 1) d).core (get_or sorted i d).core
          (rising i d (omega arith) inside) in
          let sooner = subst (λ i. IsBefore (get_or sorted j d) (get_or sorted i d)) same
          (rises_all sorted d next j (k - j - 1) (omega arith)) in
          comes_first cores (get_or sorted j d) (get_or sorted k d) (all j d (omega arith))
          (all k d lt) sooner ne);
    }
