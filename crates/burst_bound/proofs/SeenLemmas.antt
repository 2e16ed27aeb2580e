-- When an event is seen: on one core, on all, and that it is within two lags of its tick.
use Rattle.std.proofs.Common.{◌≡◌, ℕ, zero, suc, ◌+◌, ◌*◌, ◌<◌, ◌≤◌, ◌⊎◌, inl, inr, max, List, [], ◌∷◌, length, Some, refl, ap, subst, arith}
use Rattle.std.specs.Prelude.{slice_get}
use Rattle.std.proofs.lemmas.Bool.{cases_lt}
use Rattle.std.proofs.lemmas.Option.{slice_get_within}
use Rattle.tab_core.specs.Timelines.{AreContiguous}
use Rattle.tab_core.specs.declared.TheConstants.{ROUND}
use Rattle.tab_core.specs.declared.stint.Stint.{Stint}
use Rattle.table_form.specs.Running.Courses.{CourseView, IsCourse, tick_at}
use Rattle.table_form.specs.Running.Invariant.{StateInvariant}
use Rattle.table_form.specs.Running.State.{State, CoreState, IsCore}
use Rattle.run_promises.proofs.BusyLemmas.{is_busy}
use Rattle.burst_bound.specs.Bursts.{IsSeenFrom, IsSeenAt}
use Rattle.burst_bound.specs.Inside.Seeing.{AreInOrder, IsSeenBelow, SeesFrom}
use Rattle.burst_bound.proofs.LeastLemmas.{least_of}

-- ---- one core

-- no stint of a chain ends before the chain begins
ends_after : (from to : ℕ) (ss : List Stint) (k : ℕ) (t : Stint) → AreContiguous from ss to
    → ((i : ℕ) (u : Stint) → slice_get ss i ≡ Some u → u.from < u.end) → slice_get ss k ≡ Some t
    → from ≤ t.end
ends_after from to [] k t chain ticks h = absurd cc
ends_after from to (s ∷ ss) zero t chain ticks h =
    let e : s ≡ t = cc in
    let q = ap (λ (u : Stint). u.end) e in
    omega (arith, ticks 0 s refl, chain.0)
ends_after from to (s ∷ ss) (suc k) t chain ticks h =
    omega (arith, ticks 0 s refl, chain.0, ends_after s.end to ss k t chain.1 (λ i u g. ticks (suc i) u g) h)

-- the ends of a chain never fall
ends_rise : (from to : ℕ) (ss : List Stint) (j k : ℕ) (s t : Stint) → AreContiguous from ss to
    → ((i : ℕ) (u : Stint) → slice_get ss i ≡ Some u → u.from < u.end) → j ≤ k
    → slice_get ss j ≡ Some s → slice_get ss k ≡ Some t → s.end ≤ t.end
ends_rise from to [] j k s t chain ticks le g h = absurd cc
ends_rise from to (u ∷ us) zero zero s t chain ticks le g h =
    let e : s ≡ t = cc in
    omega (arith, ap (λ (v : Stint). v.end) e)
ends_rise from to (u ∷ us) zero (suc k) s t chain ticks le g h =
    let e : u ≡ s = cc in
    let q = ap (λ (v : Stint). v.end) e in
    omega (arith, ends_after u.end to us k t chain.1 (λ i v r. ticks (suc i) v r) h)
ends_rise from to (u ∷ us) (suc j) zero s t chain ticks le g h = absurd (omega arith)
ends_rise from to (u ∷ us) (suc j) (suc k) s t chain ticks le g h =
    ends_rise u.end to us j k s t chain.1 (λ i v r. ticks (suc i) v r) (omega arith) g h

-- the stints of a core of a run are in order
pub core_in_order : (course : CourseView) (rounds : ℕ) (s : State) (c : ℕ) (core : CoreState)
    → StateInvariant course rounds s → IsCore s c core → AreInOrder core.stints
core_in_order course rounds s c core kept at =
    let line = (kept.cores c core at).timeline in
    record {
      ends = λ j k a b le g h. ends_rise 0 core.clock core.stints j k a b line.contiguous
          (λ i u r. (line.each i u r).some_ticks) le g h;
      risen = (kept.cores c core at).stints.risen;
    }

-- what is seen from a tick on is seen from later on
pub sees_later : (event x y : ℕ) (stints : List Stint) → SeesFrom event x stints → x ≤ y
    → SeesFrom event y stints
sees_later event x y stints sees le = λ k st at beyond. sees k st at (omega arith)

-- ---- all cores

-- before the first core
pub seen_none : (s : State) (event : ℕ) → IsSeenBelow s 0 event 0
seen_none s event = record {
  sees = λ c core lt at. absurd (omega arith);
  least = λ y all. omega arith;
}

-- one core more, of which each stint beyond `here` has seen the event
pub seen_more : (s : State) (n event x here : ℕ) (core : CoreState) → IsSeenBelow s n event x → IsCore s n core
    → SeesFrom event here core.stints → ((y : ℕ) → SeesFrom event y core.stints → here ≤ y)
    → IsSeenBelow s (n + 1) event (max x here)
seen_more s n event x here core below at sees least = record {
  sees = λ c other lt is. (elim (cases_lt c n) [
    | inl before ↦ sees_later event x (max x here) other.stints (below.sees c other before is) (omega arith)
    | inr last ↦
        let number : c ≡ n = omega arith in
        let same : other ≡ core = the_same s c n core other number at is in
        subst (λ (k : CoreState). SeesFrom event (max x here) k.stints) (sym' same)
        (sees_later event here (max x here) core.stints sees (omega arith))
  ]);
  least = λ y all. (let one = below.least y (λ c other lt is. all c other (omega arith) is) in
      let two = least y (all n core (omega arith) at) in
      omega arith);
}
  where
    sym' : {a b : CoreState} → a ≡ b → b ≡ a
    sym' e = cc

    the_same : (s : State) (c n : ℕ) (core other : CoreState) → c ≡ n → slice_get s.cores n ≡ Some core
        → slice_get s.cores c ≡ Some other → other ≡ core
    the_same s c n core other e g h = cc

-- a tick from which on each core's stints have seen the event is one from which on it is seen
pub seen_by_all : (s : State) (event x : ℕ)
    → ((c : ℕ) (core : CoreState) → IsCore s c core → SeesFrom event x core.stints) → IsSeenFrom s event x
seen_by_all s event x all =
    λ c y core st at covers low. all c core at covers.place st covers.at (let going = covers.going in omega arith)

-- from a tick on from which the event is seen each core's stints have seen it
pub all_see : (course : CourseView) (rounds : ℕ) (s : State) (event x : ℕ) → StateInvariant course rounds s
    → IsSeenFrom s event x → (c : ℕ) (core : CoreState) → IsCore s c core → SeesFrom event x core.stints
all_see course rounds s event x kept seen c core at k st listed beyond =
    let some = ((kept.cores c core at).timeline.each k st listed).some_ticks in
    seen c (max x st.from) core st at
    (record { place = k; at = listed; begun = omega arith; going = omega arith }) (omega arith)

-- the least for all cores, where it lies in the run
pub seen_in_run : (course : CourseView) (rounds : ℕ) (s : State) (event x : ℕ) → StateInvariant course rounds s
    → IsSeenBelow s course.cores event x → x < rounds * ROUND → IsSeenAt rounds s event x
seen_in_run course rounds s event x kept below lt = record {
  in_run = lt;
  seen = seen_by_all s event x (λ c core at. below.sees c core
      (let small = slice_get_within s.cores c core at in omega (arith, kept.size)) at);
  least = λ y seen. below.least y (λ c core small at. all_see course rounds s event y kept seen c core at);
}

-- where the least tick for all cores isn't in the run there is none
pub not_seen_in_run : (course : CourseView) (rounds : ℕ) (s : State) (event x y : ℕ)
    → StateInvariant course rounds s → IsSeenBelow s course.cores event x → rounds * ROUND ≤ x
    → IsSeenAt rounds s event y → ⊥
not_seen_in_run course rounds s event x y kept below le at =
    let least = below.least y (λ c core small is. all_see course rounds s event y kept at.seen c core is) in
    omega (arith, at.in_run)

-- ---- two lags

-- what can be tested of each element can be tested of the list
test_all : {X : Type 0} (P : X → Type 0) → ((x : X) → P x ⊎ (P x → ⊥)) → (xs : List X)
    → ((k : ℕ) (x : X) → slice_get xs k ≡ Some x → P x)
    ⊎ (((k : ℕ) (x : X) → slice_get xs k ≡ Some x → P x) → ⊥)
test_all P test [] = inl (λ k x at. absurd cc)
test_all P test (y ∷ ys) = elim (test y) [
  | inl here ↦ elim (test_all P test ys) [
    | inl rest ↦ inl (λ k x at. (each P y ys here rest k x at))
    | inr none ↦ inr (λ all. none (λ k x at. all (suc k) x at))
  ]
  | inr not_here ↦ inr (λ all. not_here (all 0 y refl))
]
  where
    each : {X : Type 0} (P : X → Type 0) (y : X) (ys : List X) → P y
        → ((k : ℕ) (x : X) → slice_get ys k ≡ Some x → P x) → (k : ℕ) (x : X)
        → slice_get (y ∷ ys) k ≡ Some x → P x
    each P y ys here rest zero x at = (let e : y ≡ x = cc in subst P e here)
    each P y ys here rest (suc k) x at = rest k x at

-- whether a stint that goes beyond the tick has seen the event can be tested
test_stint : (event x : ℕ) (st : Stint) → (x < st.end → event < st.seen) ⊎ ((x < st.end → event < st.seen) → ⊥)
test_stint event x st = elim (cases_lt x st.end) [
  | inl beyond ↦ elim (cases_lt event st.seen) [
    | inl seen ↦ inl (λ h. seen)
    | inr not_seen ↦ inr (λ f. (let lt = f beyond in absurd (omega arith)))
  ]
  | inr past ↦ inl (λ h. absurd (omega arith))
]

-- whether each stint of each core beyond the tick has seen the event can be tested
test_seen : (event x : ℕ) (s : State)
    → ((c : ℕ) (core : CoreState) → slice_get s.cores c ≡ Some core → SeesFrom event x core.stints)
    ⊎ (((c : ℕ) (core : CoreState) → slice_get s.cores c ≡ Some core → SeesFrom event x core.stints) → ⊥)
test_seen event x s = test_all (λ (core : CoreState). SeesFrom event x core.stints)
    (λ core. test_all (λ (st : Stint). x < st.end → event < st.seen) (test_stint event x) core.stints) s.cores

-- the law: two lags after its tick an event is seen by all cores
pub seen_early : (course : CourseView) (rounds event : ℕ) (s : State) → IsCourse course
    → StateInvariant course rounds s → event < length course.ticks
    → tick_at course event + 2 * course.lag < rounds * ROUND
    → (seen : ℕ) × IsSeenAt rounds s event seen × (seen ≤ tick_at course event + 2 * course.lag)
seen_early course rounds event s ok kept lt early =
    let busy = is_busy course rounds s ok kept in
    let there : IsSeenFrom s event (tick_at course event + 2 * course.lag) =
    λ c y core st at covers low. busy.fresh c y event core st at covers lt low in
    let least = least_of (IsSeenFrom s event) test (tick_at course event + 2 * course.lag) there in (
      least.0,
      record { in_run = omega (arith, least.1, early); seen = least.2; least = least.3 },
      least.1,
    )
  where
    test : (x : ℕ) → IsSeenFrom s event x ⊎ (IsSeenFrom s event x → ⊥)
    test x = elim (test_seen event x s) [
      | inl yes_all ↦ inl (seen_by_all s event x yes_all)
      | inr not_all ↦ inr (λ seen. not_all (all_see course rounds s event x kept seen))
    ]
