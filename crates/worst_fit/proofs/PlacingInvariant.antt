-- What every step of the placement keeps.
use Rattle.std.proofs.Common.{◌≡◌, ◌≢◌, ℕ, zero, suc, ◌+◌, ◌<◌, ◌≤◌, List, [], ◌∷◌, length, set, drop, get_or, replicate, is_some, Option, None, Some, inl, inr, refl, sym, ap, subst, ◌∙◌, arith, length-set, get_or-set_other}
use Rattle.std.specs.Prelude.{All}
use Rattle.std.proofs.lemmas.Bool.{cases_eq, cases_lt, eq-eqb}
use Rattle.std.proofs.lemmas.Bool.Decides.{eqb_tells}
use Rattle.std.proofs.lemmas.Grind.{get_or-set_at}
use Rattle.std.proofs.lemmas.List.{length-replicate, get_or-replicate, get_or-drop, drop-drop}
use Rattle.std.proofs.lemmas.List.Elements.{All-head, All-tail, All-nil, All-cons}
use Rattle.std.proofs.lemmas.List.Sorted.{All-permutation}
use Rattle.tab_core.specs.declared.TheConstants.{ROUND}
use Rattle.tab_core.specs.declared.periodic.Periodic.{Periodic}
use Rattle.worst_fit.specs.declared.by_demand.ByDemand.{ByDemand}
use Rattle.worst_fit.specs.Load.{load_on, task_demand}
use Rattle.worst_fit.specs.Order.{IsFallingOrder, ranks_from}
use Rattle.worst_fit.specs.Placement.{PartialPlacement, least_core, least_load, nothing_placed, place_all, place_next}
use Rattle.worst_fit.proofs.Counts.{has, one_if, lefts, lefts-more, lefts-nil, same-one, same-zero, turns, turns-cons, turns-permutation, turns_from}
use Rattle.worst_fit.proofs.LeastCore.{least_core_has}
use Rattle.worst_fit.proofs.LoadLemmas.{load_on-none, load_on-set, share_on}
use Rattle.worst_fit.proofs.OrderLemmas.{rank_of, ranks_from-nil, ranks_from-none, ranks_from-some}
use Rattle.worst_fit.proofs.PlacementLemmas.{left_over, on_core, place_all-cons, place_all-nil, place_next-fits, place_next-left}

-- the rank is that of a vCPU of these tasks
pub record IsRankIn (tasks : List (Option Periodic)) (rank : ByDemand) : Type 0 where
  pub known : rank.vcpu < length tasks
  pub takes : rank.demand ≡ task_demand (get_or tasks rank.vcpu None)

-- what holds after each step, with these ranks still to place
pub record PlacingInvariant (tasks : List (Option Periodic)) (cores : ℕ) (rest : List ByDemand)
    (p : PartialPlacement) : Type 0 where
  pub cores_are : length p.loads ≡ cores
  pub as_many : length p.core_of ≡ length tasks
  pub loads_are : (core : ℕ) → core < cores → get_or p.loads core 0 ≡ load_on core tasks p.core_of
  pub fit : (core : ℕ) → core < cores → get_or p.loads core 0 ≤ ROUND
  pub on_cores : (vcpu core : ℕ) → get_or p.core_of vcpu None ≡ Some core → core < cores
  pub balance : (vcpu : ℕ) → turns vcpu rest + has vcpu p.core_of + lefts vcpu p.left ≡ has vcpu tasks

-- the least core of at least one
pub least_core_in : (loads : List ℕ) → 1 ≤ length loads
    → (least_core loads < length loads) × (get_or loads (least_core loads) 0 ≡ least_load loads)
least_core_in [] some = absurd (omega arith)
least_core_in (load ∷ loads) some = least_core_has load loads

-- who counts 0 is on no core
pub none_if_zero : {X : Type 0} (o : Option X) → one_if (is_some o) ≡ 0 → o ≡ None
none_if_zero None h = refl
none_if_zero (Some x) h = absurd (omega arith)

-- nothing is for a vCPU at most once
pub at_most_one : {X : Type 0} (o : Option X) → one_if (is_some o) ≤ 1
at_most_one None = omega arith
at_most_one (Some x) = omega arith

-- the next vCPU isn't placed yet, and isn't left over
fresh : (tasks : List (Option Periodic)) (cores : ℕ) (rank : ByDemand) (rest : List ByDemand)
    (p : PartialPlacement)
    → PlacingInvariant tasks cores (rank ∷ rest) p → get_or p.core_of rank.vcpu None ≡ None
fresh tasks cores rank rest p kept =
    let turn = turns-cons rank.vcpu rank rest in
    let here = same-one rank.vcpu rank.vcpu refl in
    let most = at_most_one (get_or tasks rank.vcpu None) in
    none_if_zero (get_or p.core_of rank.vcpu None) (omega (arith, kept.balance rank.vcpu))

-- on its own core a vCPU adds its demand to the load
share_here : (core home : ℕ) (task : Option Periodic) → home ≡ core
    → share_on core task (Some home) ≡ task_demand task
share_here core home task e = rw (eq-eqb home core e) refl

-- on any other core it adds nothing
share_elsewhere : (core home : ℕ) (task : Option Periodic) → home ≢ core → share_on core task (Some home) ≡ 0
share_elsewhere core home task ne = elim (eqb_tells home core) [
  | inl (is, e) ↦ absurd (ne e)
  | inr (is, other) ↦ rw is refl
]

-- the vCPU that was placed now counts
has_set : (vcpu other home : ℕ) (core_of : List (Option ℕ)) → other < length core_of → vcpu ≡ other
    → has vcpu (set core_of other (Some home)) ≡ 1
has_set vcpu other home core_of lt e =
    ap (λ o. one_if (is_some o)) (get_or-set_at core_of other vcpu (Some home) None e lt)

-- the vCPUs that weren't placed now count as before
has_other : (vcpu other home : ℕ) (core_of : List (Option ℕ)) → vcpu ≢ other
    → has vcpu (set core_of other (Some home)) ≡ has vcpu core_of
has_other vcpu other home core_of ne =
    ap (λ o. one_if (is_some o)) (get_or-set_other core_of other vcpu (Some home) None ne)

-- a vCPU came to be on a core
pub keeps_on : (tasks : List (Option Periodic)) (cores : ℕ) (rank : ByDemand) (rest : List ByDemand)
    (p : PartialPlacement) (home load : ℕ) → home < cores → IsRankIn tasks rank
    → load ≡ get_or p.loads home 0 + rank.demand → load ≤ ROUND
    → PlacingInvariant tasks cores (rank ∷ rest) p
    → PlacingInvariant tasks cores rest (on_core p rank home load)
keeps_on tasks cores rank rest p home load there ranked sum room kept =
    let known = ranked.known in
    let takes = ranked.takes in
    let cores_are = kept.cores_are in
    let as_many = kept.as_many in
    let in_loads : home < length p.loads = omega arith in
    let none = fresh tasks cores rank rest p kept in
    let grown = λ (core : ℕ). load_on-set core home tasks p.core_of rank.vcpu as_many known none in
    record {
      cores_are = length-set p.loads home load ∙ cores_are;
      as_many = length-set p.core_of rank.vcpu (Some home) ∙ as_many;
      loads_are = λ core lt. elim (cases_eq core home) [
        | inl e ↦ (let new = get_or-set_at p.loads home core load 0 e in_loads in
            let old = kept.loads_are core lt in
            let all = grown core in
            let share = share_here core home (get_or tasks rank.vcpu None) (sym e) in
            let same_load : get_or p.loads core 0 ≡ get_or p.loads home 0 = ap (λ c. get_or p.loads c 0) e in
            new ∙ omega arith)
        | inr ne ↦ (let new = get_or-set_other p.loads home core load 0 ne in
            let old = kept.loads_are core lt in
            let all = grown core in
            let share = share_elsewhere core home (get_or tasks rank.vcpu None) (λ e. ne (sym e)) in
            omega arith)
      ];
      fit = λ core lt. elim (cases_eq core home) [
        | inl e ↦ (let new = get_or-set_at p.loads home core load 0 e in_loads in omega arith)
        | inr ne ↦
            (let new = get_or-set_other p.loads home core load 0 ne in
            let old = kept.fit core lt in
            omega arith)
      ];
      on_cores = λ vcpu core at. elim (cases_eq vcpu rank.vcpu) [
        | inl e ↦ (let new = get_or-set_at p.core_of rank.vcpu vcpu (Some home) None e (omega arith) in
            let here : home ≡ core = cc in omega arith)
        | inr ne ↦
            kept.on_cores vcpu core
            (sym (get_or-set_other p.core_of rank.vcpu vcpu (Some home) None ne) ∙ at)
      ];
      balance = λ vcpu. (let turn = turns-cons vcpu rank rest in
          let before = kept.balance vcpu in
          elim (cases_eq vcpu rank.vcpu) [
            | inl e ↦ (let here = same-one rank.vcpu vcpu (sym e) in
                let placed = has_set vcpu rank.vcpu home p.core_of (omega arith) e in
                let absent : has vcpu p.core_of ≡ 0 =
                ap (λ o. one_if (is_some o)) (ap (λ v. get_or p.core_of v None) e ∙ none) in
                omega arith)
            | inr ne ↦ (let other = same-zero rank.vcpu vcpu (λ e. ne (sym e)) in
                let placed = has_other vcpu rank.vcpu home p.core_of ne in
                omega arith)
          ]);
    }

-- a vCPU was left over
keeps_left : (tasks : List (Option Periodic)) (cores : ℕ) (rank : ByDemand) (rest : List ByDemand)
    (p : PartialPlacement) → PlacingInvariant tasks cores (rank ∷ rest) p
    → PlacingInvariant tasks cores rest (left_over p rank)
keeps_left tasks cores rank rest p kept = record {
  cores_are = kept.cores_are;
  as_many = kept.as_many;
  loads_are = kept.loads_are;
  fit = kept.fit;
  on_cores = kept.on_cores;
  balance = λ vcpu. (let turn = turns-cons vcpu rank rest in
      let before = kept.balance vcpu in
      let more = lefts-more vcpu rank.vcpu p.left in
      omega arith);
}

-- a step keeps the invariant, whether there is room or not
keeps_next : (tasks : List (Option Periodic)) (cores : ℕ) (rank : ByDemand) (rest : List ByDemand)
    (p : PartialPlacement) → 1 ≤ cores → IsRankIn tasks rank → PlacingInvariant tasks cores (rank ∷ rest) p
    → PlacingInvariant tasks cores rest (place_next p rank)
keeps_next tasks cores rank rest p some ranked kept =
    elim (cases_lt ROUND (least_load p.loads + rank.demand)) [
      | inl over ↦ subst (PlacingInvariant tasks cores rest) (sym (place_next-left p rank over))
          (keeps_left tasks cores rank rest p kept)
      | inr room ↦
          (let cores_are = kept.cores_are in
          let least = least_core_in p.loads (omega arith) in
          let there = least.0 in
          let least_is = least.1 in
          subst (PlacingInvariant tasks cores rest) (sym (place_next-fits p rank room))
          (keeps_on tasks cores rank rest p (least_core p.loads) (least_load p.loads + rank.demand)
          (omega arith) ranked (omega arith) room kept))
    ]

-- all steps keep the invariant
pub keeps_all : (tasks : List (Option Periodic)) (cores : ℕ) (order : List ByDemand) (p : PartialPlacement)
    → 1 ≤ cores → All (IsRankIn tasks) order → PlacingInvariant tasks cores order p
    → PlacingInvariant tasks cores [] (place_all p order)
keeps_all tasks cores [] p some ranked kept = rw (place_all-nil p) kept
keeps_all tasks cores (rank ∷ order) p some ranked kept =
    rw (place_all-cons p rank order)
    (keeps_all tasks cores order (place_next p rank) some (All-tail (IsRankIn tasks) rank order ranked)
    (keeps_next tasks cores rank order p some (All-head (IsRankIn tasks) rank order ranked) kept))

-- the rank of one more task is that of a vCPU of the list
ranked_task : (all : List (Option Periodic)) (number : ℕ) (task : Option Periodic)
    (tasks : List (Option Periodic)) → get_or all number None ≡ task → number < length all
    → All (IsRankIn all) (ranks_from (number + 1) tasks)
    → All (IsRankIn all) (ranks_from number (task ∷ tasks))
ranked_task all number None tasks here lt rest = rw (ranks_from-none number tasks) rest
ranked_task all number (Some task) tasks here lt rest =
    rw (ranks_from-some number task tasks)
    (All-cons (IsRankIn all) (rank_of number task) (ranks_from (number + 1) tasks)
    (record { known = lt; takes = sym (ap task_demand here) }) rest)

-- every rank of the tasks from a number on is that of a vCPU of theirs
ranked_from : (all : List (Option Periodic)) (number : ℕ) (tasks : List (Option Periodic))
    → drop number all ≡ tasks → number + length tasks ≡ length all
    → All (IsRankIn all) (ranks_from number tasks)
ranked_from all number [] from long = rw (ranks_from-nil number) (All-nil (IsRankIn all))
ranked_from all number (task ∷ tasks) from long =
    let here : get_or all number None ≡ task =
    ap (λ n. get_or all n None) (omega arith) ∙ sym (get_or-drop number all 0 None)
    ∙ ap (λ t. get_or t 0 None) from in
    let next : drop (number + 1) all ≡ tasks = sym (drop-drop 1 number all) ∙ ap (drop 1) from in
    let rest = ranked_from all (number + 1) tasks next (omega arith) in
    ranked_task all number task tasks here (omega arith) rest

-- sorting adds no rank, so the steps only place vCPUs of the tasks
pub all_ranked : (tasks : List (Option Periodic)) (order : List ByDemand) → IsFallingOrder tasks order
    → All (IsRankIn tasks) order
all_ranked tasks order falling_order =
    All-permutation (IsRankIn tasks) (ranks_from 0 tasks) order falling_order.admitted
    (ranked_from tasks 0 tasks refl (omega arith))

-- as the loop begins no vCPU is placed
nobody : (vcpu n : ℕ) → get_or (replicate {A = Option ℕ} n None) vcpu None ≡ None
nobody vcpu zero = refl
nobody zero (suc n) = refl
nobody (suc vcpu) (suc n) = nobody vcpu n

-- as the loop begins no core has a load
no_load : (cores core : ℕ) → core < cores → get_or (replicate {A = ℕ} cores 0) core 0 ≤ ROUND
no_load cores core lt =
    let none : get_or (replicate {A = ℕ} cores 0) core 0
    ≡ 0 = get_or-replicate {A = ℕ} cores core 0 0 lt in omega arith

-- the invariant holds before the first step
pub starts : (tasks : List (Option Periodic)) (cores : ℕ) (order : List ByDemand)
    → IsFallingOrder tasks order → PlacingInvariant tasks cores order (nothing_placed cores (length tasks))
starts tasks cores order falling_order = record {
  cores_are = length-replicate cores 0;
  as_many = length-replicate (length tasks) None;
  loads_are = λ core lt. get_or-replicate cores core 0 0 lt ∙ sym (load_on-none core tasks);
  fit = λ core lt. no_load cores core lt;
  on_cores = λ vcpu core at. absurd (let none = nobody vcpu (length tasks) in cc);
  balance = λ vcpu.
      (let turn = turns-permutation vcpu (ranks_from 0 tasks) order falling_order.admitted in
      let once = turns_from vcpu 0 vcpu tasks (omega arith) in
      let none : has vcpu (replicate {A = Option ℕ} (length tasks) None)
      ≡ 0 = ap (λ o. one_if (is_some o)) (nobody vcpu (length tasks)) in
      let left = lefts-nil vcpu in
      omega arith);
}

-- the invariant asks only how often each vCPU is still to come
pub same_turns : (tasks : List (Option Periodic)) (cores : ℕ) (rest other : List ByDemand)
    (p : PartialPlacement) → ((vcpu : ℕ) → turns vcpu other ≡ turns vcpu rest)
    → PlacingInvariant tasks cores rest p → PlacingInvariant tasks cores other p
same_turns tasks cores rest other p same kept = record {
  cores_are = kept.cores_are;
  as_many = kept.as_many;
  loads_are = kept.loads_are;
  fit = kept.fit;
  on_cores = kept.on_cores;
  balance = λ vcpu. (let before = kept.balance vcpu in let turn = same vcpu in omega arith);
}

-- a vCPU that is on a core isn't the next one
pub not_next : (tasks : List (Option Periodic)) (cores : ℕ) (rank : ByDemand) (rest : List ByDemand)
    (p : PartialPlacement) (vcpu core : ℕ) → PlacingInvariant tasks cores (rank ∷ rest) p
    → get_or p.core_of vcpu None ≡ Some core → vcpu ≢ rank.vcpu
not_next tasks cores rank rest p vcpu core kept stands = λ e.
    (let none = fresh tasks cores rank rest p kept in
    let here = ap (λ v. get_or p.core_of v None) e in
    absurd (cc))

-- a vCPU that is on a core stays there
stands_next : (tasks : List (Option Periodic)) (cores : ℕ) (rank : ByDemand) (rest : List ByDemand)
    (p : PartialPlacement) (vcpu core : ℕ) → PlacingInvariant tasks cores (rank ∷ rest) p
    → get_or p.core_of vcpu None ≡ Some core → get_or (place_next p rank).core_of vcpu None ≡ Some core
stands_next tasks cores rank rest p vcpu core kept stands =
    elim (cases_lt ROUND (least_load p.loads + rank.demand)) [
      | inl over ↦ ap (λ (q : PartialPlacement). get_or q.core_of vcpu None) (place_next-left p rank over)
          ∙ stands
      | inr room ↦ ap (λ (q : PartialPlacement). get_or q.core_of vcpu None) (place_next-fits p rank room)
          ∙ get_or-set_other p.core_of rank.vcpu vcpu (Some (least_core p.loads)) None
          (not_next tasks cores rank rest p vcpu core kept stands)
          ∙ stands
    ]

-- until all are placed
pub stands_still : (tasks : List (Option Periodic)) (cores : ℕ) (order : List ByDemand)
    (p : PartialPlacement) (vcpu core : ℕ) → 1 ≤ cores → All (IsRankIn tasks) order
    → PlacingInvariant tasks cores order p
    → get_or p.core_of vcpu None ≡ Some core → get_or (place_all p order).core_of vcpu None ≡ Some core
stands_still tasks cores [] p vcpu core some ranked kept stands = rw (place_all-nil p) stands
stands_still tasks cores (rank ∷ order) p vcpu core some ranked kept stands =
    rw (place_all-cons p rank order)
    (stands_still tasks cores order (place_next p rank) vcpu core some
    (All-tail (IsRankIn tasks) rank order ranked)
    (keeps_next tasks cores rank order p some (All-head (IsRankIn tasks) rank order ranked) kept)
    (stands_next tasks cores rank order p vcpu core kept stands))
