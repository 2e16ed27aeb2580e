-- Who stays at an old home, and what every step of it keeps.
use Rattle.std.proofs.Common.{◌≡◌, ℕ, suc, ◌+◌, ◌<◌, ◌≤◌, leb, List, [], ◌∷◌, ◌++◌, length, get_or, drop, Option, None, Some, inl, inr, refl, sym, ap, subst, ◌∙◌, arith, append-nil, append_assoc, add-one, drop-cons}
use Rattle.std.specs.Prelude.{All, ◌⊎◌}
use Rattle.std.proofs.Math.ListN.{drop_of_length-le}
use Rattle.std.proofs.lemmas.Bool.{cases_Bool, cases_lt, leb-true, le-leb, le-ltb, lt-ltb}
use Rattle.std.proofs.lemmas.List.Elements.{All-append, All-cons, All-head, All-nil, All-tail}
use Rattle.tab_core.specs.declared.TheConstants.{ROUND}
use Rattle.tab_core.specs.declared.periodic.Periodic.{Periodic}
use Rattle.worst_fit.specs.declared.by_demand.ByDemand.{ByDemand}
use Rattle.worst_fit.specs.Order.{IsFallingOrder}
use Rattle.worst_fit.specs.Placement.{PartialPlacement, Staying, home_with_room, nothing_placed, place_moving, stay_all, stay_at, stay_next, who_stays}
use Rattle.worst_fit.proofs.Counts.{turns, turns-cons}
use Rattle.worst_fit.proofs.PlacingInvariant.{IsRankIn, PlacingInvariant, all_ranked, keeps_all, keeps_on, same_turns, starts}

-- opens `stay_all` by one step, for files that don't unfold it
pub stay_all-cons : (homes : List (Option ℕ)) (s : Staying) (rank : ByDemand) (order : List ByDemand)
    → stay_all homes s (rank ∷ order) ≡ stay_all homes (stay_next homes s rank) order
unfolding stay_all
stay_all-cons homes s rank order = refl

-- the end of `stay_all`
pub stay_all-nil : (homes : List (Option ℕ)) (s : Staying) → stay_all homes s [] ≡ s
unfolding stay_all
stay_all-nil homes s = refl

-- the rank at k stays or moves, and those after it are left
pub stay_all-next : (homes : List (Option ℕ)) (order : List ByDemand) (k : ℕ) (rank : ByDemand)
    (s t all : Staying) → k < length order → rank ≡ get_or order k rank → t ≡ stay_next homes s rank
    → stay_all homes s (drop k order) ≡ all → stay_all homes t (drop (k + 1) order) ≡ all
stay_all-next homes order k rank s t all lt at step h =
    let split : drop k order ≡ rank ∷ drop (k + 1) order =
    drop-cons order k rank lt ∙ ap (λ r. r ∷ drop (suc k) order) (sym at)
    ∙ ap (λ n. rank ∷ drop n order) (sym (add-one k)) in
    rw step (sym (ap (stay_all homes s) split ∙ stay_all-cons homes s rank (drop (k + 1) order)) ∙ h)

-- no rank is left
pub stay_all-end : (homes : List (Option ℕ)) (order : List ByDemand) (k : ℕ) (s all : Staying)
    → length order ≤ k → stay_all homes s (drop k order) ≡ all → s ≡ all
stay_all-end homes order k s all end h =
    sym (ap (stay_all homes s) (drop_of_length-le order {i = k} end) ∙ stay_all-nil homes s) ∙ h

-- the vCPU of this rank stays at this home
pub record Stays (homes : List (Option ℕ)) (s : Staying) (rank : ByDemand) (home : ℕ) : Type 0 where
  pub at : get_or homes rank.vcpu None ≡ Some home
  pub there : home < length s.placed.loads
  pub room : get_or s.placed.loads home 0 + rank.demand ≤ ROUND
  pub is : stay_next homes s rank ≡ stay_at s rank (Some home)

-- it moves, since it has no old home or that has no room for it
pub record Moves (homes : List (Option ℕ)) (s : Staying) (rank : ByDemand) : Type 0 where
  pub over : (home : ℕ) → get_or homes rank.vcpu None ≡ Some home → home < length s.placed.loads
      → ROUND < get_or s.placed.loads home 0 + rank.demand
  pub is : stay_next homes s rank ≡ stay_at s rank None

-- the home has room
with_room : (loads : List ℕ) (takes : ℕ) (home : ℕ) → home < length loads
    → get_or loads home 0 + takes ≤ ROUND → home_with_room loads takes (Some home) ≡ Some home
with_room loads takes home lt fits = rw (lt-ltb _ _ lt) (rw (le-leb _ _ fits) refl)

-- it is no core
beyond : (loads : List ℕ) (takes : ℕ) (home : ℕ) → length loads ≤ home
    → home_with_room loads takes (Some home) ≡ None
beyond loads takes home past = rw (le-ltb _ _ past) refl

-- it is full
without_room : (loads : List ℕ) (takes : ℕ) (home : ℕ) → home < length loads
    → ROUND < get_or loads home 0 + takes → home_with_room loads takes (Some home) ≡ None
without_room loads takes home lt over = rw (lt-ltb _ _ lt)
    (elim (cases_Bool (leb (get_or loads home 0 + takes) ROUND)) [
      | inl fits ↦ (let le = leb-true _ _ fits in absurd (omega arith))
      | inr full ↦ rw full refl
    ])

-- the step, where the old home is known
moves_without : (homes : List (Option ℕ)) (s : Staying) (rank : ByDemand)
    → get_or homes rank.vcpu None ≡ None → Moves homes s rank
moves_without homes s rank none = record {
  over = λ home at lt. absurd (cc);
  is = ap (λ h. stay_at s rank (home_with_room s.placed.loads rank.demand h)) none;
}

-- the step at an old home
stays_or_moves_at : (homes : List (Option ℕ)) (s : Staying) (rank : ByDemand) (home : ℕ)
    → get_or homes rank.vcpu None ≡ Some home
    → ((h : ℕ) × Stays homes s rank h) ⊎ Moves homes s rank
stays_or_moves_at homes s rank home at =
    let step : stay_next homes s rank ≡ stay_at s rank (home_with_room s.placed.loads rank.demand (Some home)) =
    ap (λ h. stay_at s rank (home_with_room s.placed.loads rank.demand h)) at in
    let same = λ (other : ℕ). λ (at' : get_or homes rank.vcpu None ≡ Some other).
    (let e : other ≡ home = cc in e) in
    elim (cases_lt home (length s.placed.loads)) [
      | inr past ↦ inr (record {
        over = λ other at' lt. (let e = same other at' in absurd (omega arith));
        is = step ∙ ap (stay_at s rank) (beyond s.placed.loads rank.demand home past);
      })
      | inl lt ↦ elim (cases_lt ROUND (get_or s.placed.loads home 0 + rank.demand)) [
        | inl over ↦ inr (record {
          over = λ other at' lt'.
              subst (λ h. ROUND < get_or s.placed.loads h 0 + rank.demand) (sym (same other at')) over;
          is = step ∙ ap (stay_at s rank) (without_room s.placed.loads rank.demand home lt over);
        })
        | inr room ↦ inl (
          home,
          record {
            at = at;
            there = lt;
            room = room;
            is = step ∙ ap (stay_at s rank) (with_room s.placed.loads rank.demand home lt room);
          },
        )
      ]
    ]

-- the next vCPU stays or moves, by its old home
stays_or_moves_by : (homes : List (Option ℕ)) (s : Staying) (rank : ByDemand) (home : Option ℕ)
    → get_or homes rank.vcpu None ≡ home → ((h : ℕ) × Stays homes s rank h) ⊎ Moves homes s rank
stays_or_moves_by homes s rank None at = inr (moves_without homes s rank at)
stays_or_moves_by homes s rank (Some home) at = stays_or_moves_at homes s rank home at

-- the next vCPU stays or moves
pub stays_or_moves : (homes : List (Option ℕ)) (s : Staying) (rank : ByDemand)
    → ((h : ℕ) × Stays homes s rank h) ⊎ Moves homes s rank
stays_or_moves homes s rank = stays_or_moves_by homes s rank (get_or homes rank.vcpu None) refl

-- what holds after each step, with these ranks still to take
pub record StayingInvariant (tasks : List (Option Periodic)) (cores : ℕ) (rest : List ByDemand)
    (s : Staying) : Type 0 where
  pub placing : PlacingInvariant tasks cores (s.moving ++ rest) s.placed
  pub ranked : All (IsRankIn tasks) s.moving

-- a rank between two lists has its turn as one before them
turns_between : (vcpu : ℕ) (a : List ByDemand) (rank : ByDemand) (b : List ByDemand)
    → turns vcpu (rank ∷ (a ++ b)) ≡ turns vcpu (a ++ rank ∷ b)
turns_between vcpu [] rank b = refl
turns_between vcpu (x ∷ a) rank b =
    let rest = turns_between vcpu a rank b in
    let one = turns-cons vcpu rank (x ∷ (a ++ b)) in
    let two = turns-cons vcpu x (a ++ b) in
    let three = turns-cons vcpu x (a ++ rank ∷ b) in
    let four = turns-cons vcpu rank (a ++ b) in
    omega arith

-- the next to take is first of those to place
pub taken_first : (tasks : List (Option Periodic)) (cores : ℕ) (moving : List ByDemand) (rank : ByDemand)
    (rest : List ByDemand) (p : PartialPlacement)
    → PlacingInvariant tasks cores (moving ++ rank ∷ rest) p
    → PlacingInvariant tasks cores (rank ∷ (moving ++ rest)) p
taken_first tasks cores moving rank rest p kept =
    same_turns tasks cores (moving ++ rank ∷ rest) (rank ∷ (moving ++ rest)) p
    (λ vcpu. turns_between vcpu moving rank rest) kept

-- a vCPU stays
keeps_staying : (homes : List (Option ℕ)) (tasks : List (Option Periodic)) (cores : ℕ) (rank : ByDemand)
    (rest : List ByDemand) (s : Staying) (home : ℕ) → IsRankIn tasks rank → Stays homes s rank home
    → StayingInvariant tasks cores (rank ∷ rest) s
    → StayingInvariant tasks cores rest (stay_at s rank (Some home))
keeps_staying homes tasks cores rank rest s home ranked stays kept =
    let cores_are = kept.placing.cores_are in
    let there = stays.there in
    record {
      placing = keeps_on tasks cores rank (s.moving ++ rest) s.placed home
          (get_or s.placed.loads home 0 + rank.demand) (omega arith) ranked refl stays.room
          (taken_first tasks cores s.moving rank rest s.placed kept.placing);
      ranked = kept.ranked;
    }

-- a vCPU moves
keeps_moving : (tasks : List (Option Periodic)) (cores : ℕ) (rank : ByDemand)
    (rest : List ByDemand) (s : Staying) → IsRankIn tasks rank
    → StayingInvariant tasks cores (rank ∷ rest) s
    → StayingInvariant tasks cores rest (stay_at s rank None)
keeps_moving tasks cores rank rest s ranked kept = record {
  placing = subst (λ l. PlacingInvariant tasks cores l s.placed)
      (sym (append_assoc s.moving (rank ∷ []) rest)) kept.placing;
  ranked = All-append (IsRankIn tasks) s.moving (rank ∷ []) kept.ranked
      (All-cons (IsRankIn tasks) rank [] ranked (All-nil (IsRankIn tasks)));
}

-- a step keeps the invariant
pub keeps_either : (homes : List (Option ℕ)) (tasks : List (Option Periodic)) (cores : ℕ) (rank : ByDemand)
    (rest : List ByDemand) (s : Staying) → IsRankIn tasks rank
    → StayingInvariant tasks cores (rank ∷ rest) s
    → StayingInvariant tasks cores rest (stay_next homes s rank)
keeps_either homes tasks cores rank rest s ranked kept = elim (stays_or_moves homes s rank) [
  | inl (home, stays) ↦ subst (StayingInvariant tasks cores rest) (sym stays.is)
      (keeps_staying homes tasks cores rank rest s home ranked stays kept)
  | inr moves ↦ subst (StayingInvariant tasks cores rest) (sym moves.is)
      (keeps_moving tasks cores rank rest s ranked kept)
]

-- all steps of staying keep the invariant
pub keeps_all_staying : (homes : List (Option ℕ)) (tasks : List (Option Periodic)) (cores : ℕ)
    (order : List ByDemand) (s : Staying) → All (IsRankIn tasks) order
    → StayingInvariant tasks cores order s
    → StayingInvariant tasks cores [] (stay_all homes s order)
keeps_all_staying homes tasks cores [] s ranked kept = rw (stay_all-nil homes s) kept
keeps_all_staying homes tasks cores (rank ∷ order) s ranked kept =
    rw (stay_all-cons homes s rank order)
    (keeps_all_staying homes tasks cores order (stay_next homes s rank)
    (All-tail (IsRankIn tasks) rank order ranked)
    (keeps_either homes tasks cores rank order s (All-head (IsRankIn tasks) rank order ranked) kept))

-- the invariant holds before the first step
pub staying_starts : (tasks : List (Option Periodic)) (cores : ℕ) (order : List ByDemand)
    → IsFallingOrder tasks order
    → StayingInvariant tasks cores order
    (record { placed = nothing_placed cores (length tasks); moving = [] })
staying_starts tasks cores order falling_order = record {
  placing = starts tasks cores order falling_order;
  ranked = All-nil (IsRankIn tasks);
}

-- what holds when all were taken
pub kept_staying : (homes : List (Option ℕ)) (tasks : List (Option Periodic)) (cores : ℕ)
    (order : List ByDemand) → IsFallingOrder tasks order
    → StayingInvariant tasks cores [] (who_stays homes cores (length tasks) order)
kept_staying homes tasks cores order falling_order =
    keeps_all_staying homes tasks cores order
    (record { placed = nothing_placed cores (length tasks); moving = [] })
    (all_ranked tasks order falling_order) (staying_starts tasks cores order falling_order)

-- what is left to place once all were taken
pub moving_left : (homes : List (Option ℕ)) (tasks : List (Option Periodic)) (cores : ℕ)
    (order : List ByDemand) → IsFallingOrder tasks order
    → PlacingInvariant tasks cores (who_stays homes cores (length tasks) order).moving
    (who_stays homes cores (length tasks) order).placed
moving_left homes tasks cores order falling_order =
    let s = who_stays homes cores (length tasks) order in
    subst (λ l. PlacingInvariant tasks cores l s.placed) (append-nil s.moving)
    (kept_staying homes tasks cores order falling_order).placing

-- what holds when all were placed
pub kept_all : (homes : List (Option ℕ)) (tasks : List (Option Periodic)) (cores : ℕ)
    (order : List ByDemand) → 1 ≤ cores → IsFallingOrder tasks order
    → PlacingInvariant tasks cores [] (place_moving (who_stays homes cores (length tasks) order))
kept_all homes tasks cores order some falling_order =
    let s = who_stays homes cores (length tasks) order in
    keeps_all tasks cores s.moving s.placed some
    (kept_staying homes tasks cores order falling_order).ranked
    (moving_left homes tasks cores order falling_order)

-- where none has an old home all move, so the placement begins with empty cores
pub none_stays : (homes : List (Option ℕ)) (s : Staying) (order : List ByDemand)
    → ((vcpu : ℕ) → get_or homes vcpu None ≡ None)
    → stay_all homes s order ≡ (record { placed = s.placed; moving = s.moving ++ order })
none_stays homes s [] none = stay_all-nil homes s
    ∙ ap (λ l. let t : Staying = record { placed = s.placed; moving = l } in t) (sym (append-nil s.moving))
none_stays homes s (rank ∷ order) none = stay_all-cons homes s rank order
    ∙ ap (λ t. stay_all homes t order) (moves_without homes s rank (none rank.vcpu)).is
    ∙ none_stays homes (stay_at s rank None) order none
    ∙ ap (λ l. let t : Staying = record { placed = s.placed; moving = l } in t)
    (append_assoc s.moving (rank ∷ []) order)
