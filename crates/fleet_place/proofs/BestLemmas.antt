-- The best host that a VM fits, host by host.
use Rattle.std.proofs.Common.{◌≡◌, ℕ, ◌+◌, ◌<◌, ◌≤◌, ◌⊎◌, inl, inr, List, Option, None, Some, length, arith, subst}
use Rattle.std.specs.Prelude.{IfNone, IfSome, IsSomeAnd, slice_get}
use Rattle.std.proofs.lemmas.Option.{slice_get_within}
use Rattle.std.proofs.lemmas.Bool.{cases_lt}
use Rattle.tab_core.proofs.Lists.{same}
use Rattle.fleet_place.specs.Deals.{IsBestHost, Joins, JoinsNone, JoinsNot}
use Rattle.fleet_place.specs.Held.{Held, rank_of}
use Rattle.fleet_place.specs.declared.policy.Policy.{Policy}
use Rattle.fleet_place.specs.declared.vm.Vm.{Vm}

-- of the hosts below a number this one has the least rank of those that the VM fits
pub record IsBest (policy : Policy) (hosts : List Held) (vm : Vm) (count number : ℕ) : Type 0 where
  pub held : Held
  pub low : number < count
  pub at : slice_get hosts number ≡ Some held
  pub fits : Joins policy held vm
  pub least : (k : ℕ) (other : Held) → k < count → slice_get hosts k ≡ Some other
      → JoinsNot policy other vm ⊎ (rank_of policy held ≤ rank_of policy other)
  pub lowest : (k : ℕ) (other : Held) → k < number → slice_get hosts k ≡ Some other
      → JoinsNot policy other vm ⊎ (rank_of policy held < rank_of policy other)

-- the best of the hosts below a number, or that the VM fits none of them
abbrev pub BestSoFar : Policy → List Held → Vm → ℕ → Option ℕ → Type 0
BestSoFar policy hosts vm count None = (k : ℕ) (other : Held) → k < count → slice_get hosts k ≡ Some other
    → JoinsNot policy other vm
BestSoFar policy hosts vm count (Some number) = IsBest policy hosts vm count number

-- the next host is no better
pub not_better : (policy : Policy) (hosts : List Held) (vm : Vm) (count number : ℕ) (next : Held)
    → IsBest policy hosts vm count number → slice_get hosts count ≡ Some next
    → ((held : Held) → slice_get hosts number ≡ Some held → JoinsNot policy next vm ⊎ (rank_of policy held ≤ rank_of policy next))
    → IsBest policy hosts vm (count + 1) number
not_better policy hosts vm count number next best at worse = record {
  held = best.held;
  low = (let low = best.low in omega arith);
  at = best.at;
  fits = best.fits;
  least = λ k other below here. elim (cases_lt k count) [
    | inl less ↦ best.least k other less here
    | inr more ↦
        let k_is : k ≡ count = omega arith in
        let other_is : next ≡ other =
        same (slice_get hosts count) next other at (subst (λ n. slice_get hosts n ≡ Some other) k_is here) in
        subst (λ (h : Held). JoinsNot policy h vm ⊎ (rank_of policy best.held ≤ rank_of policy h)) other_is (worse best.held best.at)
  ];
  lowest = best.lowest;
}

-- the next host is better
pub better : (policy : Policy) (hosts : List Held) (vm : Vm) (count number : ℕ) (next : Held)
    → IsBest policy hosts vm count number → slice_get hosts count ≡ Some next → Joins policy next vm
    → ((held : Held) → slice_get hosts number ≡ Some held → rank_of policy next < rank_of policy held)
    → IsBest policy hosts vm (count + 1) count
better policy hosts vm count number next best at fits fuller =
    let less : rank_of policy next < rank_of policy best.held = fuller best.held best.at in
    let lower : (k : ℕ) (other : Held) → k < count → slice_get hosts k ≡ Some other
    → JoinsNot policy other vm ⊎ (rank_of policy next < rank_of policy other) =
    λ k other below here. elim (best.least k other below here) [
      | inl not ↦ inl not
      | inr more ↦ inr (omega arith)
    ] in
    record {
      held = next;
      low = omega arith;
      at = at;
      fits = fits;
      least = λ k other below here. elim (cases_lt k count) [
        | inl less ↦ elim (lower k other less here) [ inl not ↦ inl not | inr more ↦ inr (omega arith) ]
        | inr more ↦
            let k_is : k ≡ count = omega arith in
            let other_is : next ≡ other =
            same (slice_get hosts count) next other at (subst (λ n. slice_get hosts n ≡ Some other) k_is here) in
            inr (subst (λ (h : Held). rank_of policy next ≤ rank_of policy h) other_is (omega arith))
      ];
      lowest = lower;
    }

-- the next host is the first that the VM fits
first_best : (policy : Policy) (hosts : List Held) (vm : Vm) (count : ℕ) (next : Held)
    → ((k : ℕ) (other : Held) → k < count → slice_get hosts k ≡ Some other → JoinsNot policy other vm)
    → slice_get hosts count ≡ Some next → Joins policy next vm → IsBest policy hosts vm (count + 1) count
first_best policy hosts vm count next none at fits = record {
  held = next;
  low = omega arith;
  at = at;
  fits = fits;
  least = λ k other below here. elim (cases_lt k count) [
    | inl less ↦ inl (none k other less here)
    | inr more ↦
        let k_is : k ≡ count = omega arith in
        let other_is : next ≡ other =
        same (slice_get hosts count) next other at (subst (λ n. slice_get hosts n ≡ Some other) k_is here) in
        inr (subst (λ (h : Held). rank_of policy next ≤ rank_of policy h) other_is (omega arith))
  ];
  lowest = λ k other below here. inl (none k other below here);
}

-- the next host is taken
pub taken : (policy : Policy) (hosts : List Held) (vm : Vm) (count room : ℕ) (next : Held) (best : Option ℕ)
    → BestSoFar policy hosts vm count best → slice_get hosts count ≡ Some next → Joins policy next vm
    → room ≡ rank_of policy next
    → IfSome best (λ number. (held : Held) → slice_get hosts number ≡ Some held → room < rank_of policy held)
    → BestSoFar policy hosts vm (count + 1) (Some count)
taken policy hosts vm count room next None best at fits is fuller = first_best policy hosts vm count next best at fits
taken policy hosts vm count room next (Some number) best at fits is fuller =
    better policy hosts vm count number next best at fits
    (λ held there. subst (λ n. n < rank_of policy held) is (fuller held there))

-- the next host is left, since the VM doesn't fit it
pub left_unfit : (policy : Policy) (hosts : List Held) (vm : Vm) (count : ℕ) (next : Held) (best : Option ℕ)
    → BestSoFar policy hosts vm count best → slice_get hosts count ≡ Some next → JoinsNot policy next vm
    → BestSoFar policy hosts vm (count + 1) best
left_unfit policy hosts vm count next None best at not = λ k other below here. elim (cases_lt k count) [
  | inl less ↦ best k other less here
  | inr more ↦
      let k_is : k ≡ count = omega arith in
      let other_is : next ≡ other =
      same (slice_get hosts count) next other at (subst (λ n. slice_get hosts n ≡ Some other) k_is here) in
      subst (λ (h : Held). JoinsNot policy h vm) other_is not
]
left_unfit policy hosts vm count next (Some number) best at not =
    not_better policy hosts vm count number next best at (λ held there. inl not)

-- the next host is left, since it is no fuller
pub left_worse : (policy : Policy) (hosts : List Held) (vm : Vm) (count room : ℕ) (next : Held) (best : Option ℕ)
    → BestSoFar policy hosts vm count best → slice_get hosts count ≡ Some next → room ≡ rank_of policy next
    → IsSomeAnd best (λ number. (held : Held) × (slice_get hosts number ≡ Some held) × (rank_of policy held ≤ room))
    → BestSoFar policy hosts vm (count + 1) best
left_worse policy hosts vm count room next None best at is no_fuller = absurd no_fuller
left_worse policy hosts vm count room next (Some number) best at is no_fuller =
    not_better policy hosts vm count number next best at
    (λ held there.
    let one : no_fuller.0 ≡ held = same (slice_get hosts number) no_fuller.0 held no_fuller.1 there in
    inr (subst (λ (h : Held). rank_of policy h ≤ rank_of policy next) one
    (subst (λ n. rank_of policy no_fuller.0 ≤ n) is no_fuller.2)))

-- the best of all hosts has the least rank
pub best_of : (policy : Policy) (hosts : List Held) (vm : Vm) (count : ℕ) (best : Option ℕ) → length hosts ≤ count
    → BestSoFar policy hosts vm count best
    → IfSome best (λ number. (held : Held) × IsBestHost policy hosts vm number held)
best_of policy hosts vm count None all best = tt
best_of policy hosts vm count (Some number) all best = (
  best.held,
  record {
    at = best.at;
    fits = best.fits;
    least = λ k other here.
        let low : k < length hosts = slice_get_within hosts k other here in
        best.least k other (omega arith) here;
    lowest = best.lowest;
  },
)

-- where there is none the VM fits no host
pub none_of : (policy : Policy) (hosts : List Held) (vm : Vm) (count : ℕ) (best : Option ℕ) → length hosts ≤ count
    → BestSoFar policy hosts vm count best → IfNone best (JoinsNone policy hosts vm)
none_of policy hosts vm count None all best = λ k other here.
    let low : k < length hosts = slice_get_within hosts k other here in
    best k other (omega arith) here
none_of policy hosts vm count (Some number) all best = tt
