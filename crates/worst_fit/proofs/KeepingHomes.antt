-- A vCPU keeps its old home unless those before it and it would overload it.
use Rattle.std.proofs.Common.{◌≡◌, ℕ, zero, suc, ◌+◌, ◌<◌, ◌≤◌, Bool, true, false, List, [], ◌∷◌, ◌++◌, length, get_or, drop, is_some, replicate, Option, None, Some, inl, inr, refl, sym, ap, subst, ◌∙◌, arith, add-one, drop-cons, get_or-set_other}
use Rattle.std.proofs.Math.ListN.{drop_of_length-le}
use Rattle.std.specs.Prelude.{All, ◌⊎◌, if◌then◌else◌, slice_get}
use Rattle.std.proofs.lemmas.Bool.{cases_eq, cases_lt, eq-eqb}
use Rattle.std.proofs.lemmas.Grind.{get_or-set_at}
use Rattle.std.proofs.lemmas.List.{get_or-replicate, get_or_past}
use Rattle.std.proofs.lemmas.List.Elements.{All-head, All-tail}
use Rattle.std.proofs.lemmas.List.Sorted.{sum_by-IsPermutation}
use Rattle.std.proofs.lemmas.List.Sums.{sum_by-append, sum_by-cons}
use Rattle.std.proofs.lemmas.Option.{get_or_from_slice_get}
use Rattle.tab_core.specs.declared.TheConstants.{ROUND}
use Rattle.tab_core.specs.declared.periodic.Periodic.{Periodic}
use Rattle.worst_fit.specs.declared.placed.Placed.{Placed}
use Rattle.worst_fit.specs.declared.by_demand.ByDemand.{ByDemand}
use Rattle.worst_fit.specs.Load.{is_on, load_on}
use Rattle.worst_fit.specs.Order.{IsFallingOrder, ranks_from}
use Rattle.worst_fit.specs.Placement.{IsStayingPlacement, Staying, nothing_placed, stay_all, stay_next, who_stays}
use Rattle.worst_fit.specs.Staying.{LeaveForNeed, StayWhereAllFit, staying_demand}
use Rattle.worst_fit.proofs.Counts.{has, one_if, same-zero, turns, turns-cons, turns-nil, turns-permutation, turns_from}
use Rattle.worst_fit.proofs.LoadLemmas.{load_on-cons, load_on-nil, share_on}
use Rattle.worst_fit.proofs.OrderLemmas.{rank_of, ranks_from-nil, ranks_from-none, ranks_from-some}
use Rattle.worst_fit.proofs.PlacingInvariant.{IsRankIn, all_ranked, not_next, stands_still}
use Rattle.worst_fit.proofs.StayingLemmas.{StayingInvariant, keeps_either, kept_staying, moving_left, stay_all-cons, stay_all-nil, staying_starts, stays_or_moves, taken_first}

-- what the vCPU of this rank adds to the demand at a core, if that is its old home
abbrev share_at : List (Option ℕ) → ℕ → ByDemand → ℕ
share_at homes core rank = if is_on core (get_or homes rank.vcpu None) then rank.demand else 0

-- opens the demand by one rank
demand_at-cons : (homes : List (Option ℕ)) (core : ℕ) (rank : ByDemand) (ranks : List ByDemand)
    → staying_demand homes core (rank ∷ ranks) ≡ share_at homes core rank + staying_demand homes core ranks
unfolding staying_demand
demand_at-cons homes core rank ranks = sum_by-cons (share_at homes core) rank ranks

-- no rank, no demand
demand_at-nil : (homes : List (Option ℕ)) (core : ℕ) → staying_demand homes core [] ≡ 0
unfolding staying_demand
demand_at-nil homes core = refl

-- of two lists the demands are added
demand_at-append : (homes : List (Option ℕ)) (core : ℕ) (a b : List ByDemand)
    → staying_demand homes core (a ++ b) ≡ staying_demand homes core a + staying_demand homes core b
unfolding staying_demand
demand_at-append homes core a b = sum_by-append (share_at homes core) a b

-- another order has the same demand
demand_at-order : (homes : List (Option ℕ)) (core : ℕ) (tasks : List (Option Periodic))
    (order : List ByDemand) → IsFallingOrder tasks order
    → staying_demand homes core order ≡ staying_demand homes core (ranks_from 0 tasks)
unfolding staying_demand
demand_at-order homes core tasks order falling_order =
    sum_by-IsPermutation (share_at homes core) (ranks_from 0 tasks) order falling_order.admitted

-- on its own old home a vCPU adds its demand
share_own : (homes : List (Option ℕ)) (core : ℕ) (rank : ByDemand) → get_or homes rank.vcpu None ≡ Some core
    → share_at homes core rank ≡ rank.demand
share_own homes core rank at =
    ap (λ h. if is_on core h then rank.demand else 0) at ∙ rw (eq-eqb core core refl) refl

-- a vCPU that is on a core while others are taken stays there
stands_next_staying : (homes : List (Option ℕ)) (tasks : List (Option Periodic)) (cores : ℕ)
    (rank : ByDemand) (rest : List ByDemand) (s : Staying) (vcpu core : ℕ)
    → StayingInvariant tasks cores (rank ∷ rest) s → get_or s.placed.core_of vcpu None ≡ Some core
    → get_or (stay_next homes s rank).placed.core_of vcpu None ≡ Some core
stands_next_staying homes tasks cores rank rest s vcpu core kept stands = elim (stays_or_moves homes s rank) [
  | inl (home, stays) ↦ ap (λ (t : Staying). get_or t.placed.core_of vcpu None) stays.is
      ∙ get_or-set_other s.placed.core_of rank.vcpu vcpu (Some home) None
      (not_next tasks cores rank (s.moving ++ rest) s.placed vcpu core
      (taken_first tasks cores s.moving rank rest s.placed kept.placing) stands)
      ∙ stands
  | inr moves ↦ ap (λ (t : Staying). get_or t.placed.core_of vcpu None) moves.is ∙ stands
]

-- until all were taken
stands_staying : (homes : List (Option ℕ)) (tasks : List (Option Periodic)) (cores : ℕ)
    (order : List ByDemand) (s : Staying) (vcpu core : ℕ) → All (IsRankIn tasks) order
    → StayingInvariant tasks cores order s → get_or s.placed.core_of vcpu None ≡ Some core
    → get_or (stay_all homes s order).placed.core_of vcpu None ≡ Some core
stands_staying homes tasks cores [] s vcpu core ranked kept stands = rw (stay_all-nil homes s) stands
stands_staying homes tasks cores (rank ∷ order) s vcpu core ranked kept stands =
    rw (stay_all-cons homes s rank order)
    (stands_staying homes tasks cores order (stay_next homes s rank) vcpu core
    (All-tail (IsRankIn tasks) rank order ranked)
    (keeps_either homes tasks cores rank order s (All-head (IsRankIn tasks) rank order ranked) kept)
    (stands_next_staying homes tasks cores rank order s vcpu core kept stands))

-- a step adds to the load of a core at most what the demand at it grows by
load_grows : (homes : List (Option ℕ)) (s : Staying) (rank : ByDemand) (core : ℕ)
    → get_or (stay_next homes s rank).placed.loads core 0
    ≤ get_or s.placed.loads core 0 + share_at homes core rank
load_grows homes s rank core = elim (stays_or_moves homes s rank) [
  | inl (home, stays) ↦
      (let step = ap (λ (t : Staying). get_or t.placed.loads core 0) stays.is in
      let there = stays.there in
      elim (cases_eq core home) [
        | inl e ↦
            (let new = get_or-set_at s.placed.loads home core (get_or s.placed.loads home 0 + rank.demand) 0 e
            there in
            let own = share_own homes core rank (stays.at ∙ ap Some (sym e)) in
            let old : get_or s.placed.loads core 0 ≡ get_or s.placed.loads home 0 =
            ap (λ c. get_or s.placed.loads c 0) e in
            omega arith)
        | inr ne ↦
            (let same = get_or-set_other s.placed.loads home core
            (get_or s.placed.loads home 0 + rank.demand) 0 ne in
            omega arith)
      ])
  | inr moves ↦ (let step = ap (λ (t : Staying). get_or t.placed.loads core 0) moves.is in omega arith)
]

-- a vCPU stays, or those before it and it overload its old home
stays_or_overloads : (homes : List (Option ℕ)) (tasks : List (Option Periodic)) (cores taken : ℕ)
    (before after : List ByDemand) (rank : ByDemand) (core : ℕ) (s : Staying)
    → core < cores → get_or homes rank.vcpu None ≡ Some core
    → All (IsRankIn tasks) (before ++ rank ∷ after)
    → StayingInvariant tasks cores (before ++ rank ∷ after) s
    → get_or s.placed.loads core 0 ≤ taken
    → (get_or (stay_all homes s (before ++ rank ∷ after)).placed.core_of rank.vcpu None ≡ Some core)
    ⊎ (ROUND < taken + staying_demand homes core (before ++ rank ∷ []))
stays_or_overloads homes tasks cores taken [] after rank core s there at ranked kept low =
    let cores_are = kept.placing.cores_are in
    let head = All-head (IsRankIn tasks) rank after ranked in
    let as_many = kept.placing.as_many in
    let known = head.known in
    elim (stays_or_moves homes s rank) [
      | inl (home, stays) ↦ inl (rw (stay_all-cons homes s rank after)
          (stands_staying homes tasks cores after (stay_next homes s rank) rank.vcpu core
          (All-tail (IsRankIn tasks) rank after ranked)
          (keeps_either homes tasks cores rank after s head kept)
          (ap (λ (t : Staying). get_or t.placed.core_of rank.vcpu None) stays.is
          ∙ get_or-set_at s.placed.core_of rank.vcpu rank.vcpu (Some home) None refl (omega arith)
          ∙ sym stays.at ∙ at)))
      | inr moves ↦ inr (let over = moves.over core at (omega arith) in
          let own = share_own homes core rank at in
          let one = demand_at-cons homes core rank [] in
          let none = demand_at-nil homes core in
          omega arith)
    ]
stays_or_overloads homes tasks cores taken (first ∷ before) after rank core s there at ranked kept low =
    let grows = load_grows homes s first core in
    let all = demand_at-cons homes core first (before ++ rank ∷ []) in
    let rest = stays_or_overloads homes tasks cores (taken + share_at homes core first) before after rank core
    (stay_next homes s first) there at (All-tail (IsRankIn tasks) first (before ++ rank ∷ after) ranked)
    (keeps_either homes tasks cores first (before ++ rank ∷ after) s
    (All-head (IsRankIn tasks) first (before ++ rank ∷ after) ranked) kept) (omega arith) in
    elim rest [
      | inl stays ↦ inl (rw (stay_all-cons homes s first (before ++ rank ∷ after)) stays)
      | inr over ↦ inr (omega arith)
    ]

-- a list by number has something at a number where it reads something
pub got_some : {X : Type 0} (xs : List (Option X)) (vcpu : ℕ) (x : X) → get_or xs vcpu None ≡ Some x
    → slice_get xs vcpu ≡ Some (Some x)
got_some [] vcpu x at = absurd (cc)
got_some (o ∷ xs) zero x at = ap Some at
got_some (o ∷ xs) (suc vcpu) x at = got_some xs vcpu x at

-- of a placement: a vCPU that stays is on its old home
stays_or_leaves : (homes : List (Option ℕ)) (tasks : List (Option Periodic)) (cores : ℕ) (placed : Placed)
    (before after : List ByDemand) (rank : ByDemand) (core : ℕ) → 1 ≤ cores
    → (is : IsStayingPlacement homes tasks cores placed) → is.order ≡ before ++ rank ∷ after
    → get_or homes rank.vcpu None ≡ Some core → core < cores
    → (slice_get placed.core_of rank.vcpu ≡ Some (Some core))
    ⊎ (ROUND < staying_demand homes core (before ++ rank ∷ []))
stays_or_leaves homes tasks cores placed before after rank core some is split at there =
    let order = is.order in
    let begin : Staying = record { placed = nothing_placed cores (length tasks); moving = [] } in
    let s = who_stays homes cores (length tasks) order in
    let ranked = all_ranked tasks order is.falling_order in
    let starts = staying_starts tasks cores order is.falling_order in
    let kept = kept_staying homes tasks cores order is.falling_order in
    let nothing : get_or (replicate {A = ℕ} cores 0) core 0 ≡ 0 = get_or-replicate cores core 0 0 there in
    let either = stays_or_overloads homes tasks cores 0 before after rank core begin there at
    (subst (All (IsRankIn tasks)) split ranked)
    (subst (λ l. StayingInvariant tasks cores l begin) split starts) (omega arith) in
    elim either [
      | inr over ↦ inr (omega arith)
      | inl stays ↦ inl (got_some placed.core_of rank.vcpu core
          (ap (λ (l : List (Option ℕ)). get_or l rank.vcpu None) is.core_of
          ∙ stands_still tasks cores s.moving s.placed rank.vcpu core some kept.ranked
          (moving_left homes tasks cores order is.falling_order)
          (ap (λ l. get_or (stay_all homes begin l).placed.core_of rank.vcpu None) split ∙ stays)))
    ]

-- what `place_staying` promises of a vCPU that leaves its old home
pub placement_leaves_for_need : (homes : List (Option ℕ)) (tasks : List (Option Periodic)) (cores : ℕ)
    (placed : Placed) → 1 ≤ cores → IsStayingPlacement homes tasks cores placed
    → LeaveForNeed homes tasks cores placed.core_of
placement_leaves_for_need homes tasks cores placed some is = record {
  order = is.order;
  falling_order = is.falling_order;
  need = λ before after rank core split at there.
      stays_or_leaves homes tasks cores placed before after rank core some is split
      (get_or_from_slice_get homes rank.vcpu (Some core) None at) there;
}

-- nothing, either way
nothing_of : (b : Bool) → ◌≡◌ {A = ℕ} (if b then 0 else 0) 0
nothing_of true = refl
nothing_of false = refl

-- without old homes there is no load
load_on-short : (core : ℕ) (tasks : List (Option Periodic)) → load_on core tasks [] ≡ 0
unfolding load_on
load_on-short core [] = refl
load_on-short core (task ∷ tasks) = refl

-- the first task's rank adds its share
first_rank : (homes : List (Option ℕ)) (core number : ℕ) (task : Option Periodic)
    (tasks : List (Option Periodic))
    → staying_demand homes core (ranks_from number (task ∷ tasks))
    ≡ share_on core task (get_or homes number None) + staying_demand homes core (ranks_from (number + 1) tasks)
first_rank homes core number None tasks =
    let skip = ap (staying_demand homes core) (ranks_from-none number tasks) in
    let none = nothing_of (is_on core (get_or homes number None)) in
    omega arith
first_rank homes core number (Some task) tasks =
    ap (staying_demand homes core) (ranks_from-some number task tasks)
    ∙ demand_at-cons homes core (rank_of number task) (ranks_from (number + 1) tasks)

-- without an old home it adds nothing
first_without : (homes : List (Option ℕ)) (core number : ℕ) (task : Option Periodic)
    (tasks : List (Option Periodic)) → get_or homes number None ≡ None
    → staying_demand homes core (ranks_from number (task ∷ tasks))
    ≡ staying_demand homes core (ranks_from (number + 1) tasks)
first_without homes core number task tasks none =
    let first = first_rank homes core number task tasks in
    let share = ap (share_on core task) none in
    omega arith

-- the demand at a core is the load that the old homes would give it
demand_at-ranks : (homes : List (Option ℕ)) (core number : ℕ) (tasks : List (Option Periodic))
    → staying_demand homes core (ranks_from number tasks) ≡ load_on core tasks (drop number homes)
demand_at-ranks homes core number [] =
    ap (staying_demand homes core) (ranks_from-nil number) ∙ demand_at-nil homes core
    ∙ sym (load_on-nil core (drop number homes))
demand_at-ranks homes core number (task ∷ tasks) = elim (cases_lt number (length homes)) [
  | inr past ↦ (let nothing = drop_of_length-le homes {i = number} past in
      let later = drop_of_length-le homes {i = number + 1} (omega arith) in
      let rest = demand_at-ranks homes core (number + 1) tasks in
      let none : get_or homes number None ≡ None = get_or_past homes number None past in
      first_without homes core number task tasks none
      ∙ rest ∙ ap (load_on core tasks) later ∙ load_on-short core tasks
      ∙ sym (ap (load_on core (task ∷ tasks)) nothing ∙ load_on-short core (task ∷ tasks)))
  | inl lt ↦ (let split : drop number homes ≡ get_or homes number None ∷ drop (number + 1) homes =
      drop-cons homes number None lt ∙ ap (λ n. get_or homes number None ∷ drop n homes) (sym (add-one number)) in
      let rest = demand_at-ranks homes core (number + 1) tasks in
      let all = ap (load_on core (task ∷ tasks)) split
      ∙ load_on-cons core task tasks (get_or homes number None) (drop (number + 1) homes) in
      let first = first_rank homes core number task tasks in
      omega arith)
]

-- a vCPU is in a list of ranks, with others before and after it
record Between (vcpu : ℕ) (order : List ByDemand) : Type 0 where
  pub before : List ByDemand
  pub rank : ByDemand
  pub after : List ByDemand
  pub split : order ≡ before ++ rank ∷ after
  pub same_vcpu : rank.vcpu ≡ vcpu

-- one that has a turn does
between : (vcpu : ℕ) (order : List ByDemand) → 1 ≤ turns vcpu order → Between vcpu order
between vcpu [] some = absurd (let none = turns-nil vcpu in omega arith)
between vcpu (rank ∷ order) some = elim (cases_eq rank.vcpu vcpu) [
  | inl e ↦ record { before = []; rank = rank; after = order; split = refl; same_vcpu = e }
  | inr ne ↦ (let none = same-zero rank.vcpu vcpu ne in
      let turn = turns-cons vcpu rank order in
      let rest = between vcpu order (omega arith) in
      record {
        before = rank ∷ rest.before;
        rank = rest.rank;
        after = rest.after;
        split = ap (λ l. rank ∷ l) rest.split;
        same_vcpu = rest.same_vcpu;
      })
]

-- what `place_staying` promises where the vCPUs fit their old home
pub placement_stays : (homes : List (Option ℕ)) (tasks : List (Option Periodic)) (cores : ℕ)
    (placed : Placed) → 1 ≤ cores → IsStayingPlacement homes tasks cores placed
    → StayWhereAllFit homes tasks cores placed.core_of
placement_stays homes tasks cores placed some is = λ core there fits vcpu admitted at.
    (let order = is.order in
    let turn = turns-permutation vcpu (ranks_from 0 tasks) order is.falling_order.admitted in
    let once = turns_from vcpu 0 vcpu tasks (omega arith) in
    let one : has vcpu tasks ≡ 1 = ap (λ o. one_if (is_some o))
    (get_or_from_slice_get tasks vcpu (Some admitted.0) None admitted.1) in
    let found = between vcpu order (omega arith) in
    let before = found.before in
    let rank = found.rank in
    let after = found.after in
    let split = found.split in
    let same = found.same_vcpu in
    let home : get_or homes rank.vcpu None ≡ Some core = ap (λ v. get_or homes v None) same
    ∙ get_or_from_slice_get homes vcpu (Some core) None at in
    elim (stays_or_leaves homes tasks cores placed before after rank core some is split home there) [
      | inl stays ↦ sym (ap (slice_get placed.core_of) same) ∙ stays
      | inr over ↦ absurd (let all = demand_at-order homes core tasks order is.falling_order in
          let load = demand_at-ranks homes core 0 tasks in
          let cut = ap (staying_demand homes core) split in
          let two = demand_at-append homes core before (rank ∷ after) in
          let three = demand_at-append homes core before (rank ∷ []) in
          let four = demand_at-cons homes core rank after in
          let five = demand_at-cons homes core rank [] in
          let six = demand_at-nil homes core in
          omega arith)
    ])
