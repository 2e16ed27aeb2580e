-- A view of all parts of a run, read as a state, keeps the invariant of a run.
use Rattle.std.proofs.Common.{◌≡◌, ℕ, suc, ◌+◌, ◌*◌, ◌/◌, ◌<◌, ◌≤◌, List, length, Some, ap, sym, subst, ◌∙◌, arith}
use Rattle.std.specs.Prelude.{slice_get, take}
use Rattle.std.proofs.lemmas.List.Elements.{All-get_or}
use Rattle.std.proofs.lemmas.List.FromFn.{length-map-range_with_len}
use Rattle.std.proofs.lemmas.List.{length-map}
use Rattle.std.proofs.lemmas.Option.{slice_get_within}
use Rattle.tab_core.specs.declared.TheConstants.{ROUND}
use Rattle.tab_core.specs.declared.entry.Entry.{Entry}
use Rattle.tab_core.specs.declared.stint.Stint.{Stint}
use Rattle.tab_core.proofs.Lists.{element_at, same}
use Rattle.table_form.specs.Running.Courses.{CourseView, tick_at}
use Rattle.table_form.specs.Running.Invariant.{CoreInvariant, SightInvariant, StateInvariant, StintInvariant}
use Rattle.table_form.specs.Promises.Fresh.{IsFresh}
use Rattle.table_form.specs.Promises.OneTable.{HasOneTable, HasOneWinner}
use Rattle.table_form.specs.Running.State.{CoreState, IsCore}
use Rattle.round_words.specs.declared.view.Part.{Part}
use Rattle.round_words.specs.declared.view.View.{View}
use Rattle.round_words.specs.Views.{controller, part}
use Rattle.round_words.specs.Rule.{CoversEarlier, FloorsUpTo, IsCorePart}
use Rattle.round_words.specs.Shown.{HoldsCore, IsSoleWinner, KeepsFloors}
use Rattle.dispatch_core.specs.Parts.{IsPartOf}
use Rattle.run_state.specs.Readings.{core_parts, core_state, decided_by, seen_by, state_of}
use Rattle.run_state.specs.RunViews.{IsRunView}
use Rattle.run_state.proofs.DecidedLemmas.{decided_has, has_decided}
use Rattle.run_state.proofs.Lists.{at_place, in_map, in_numbers, of_map, of_numbers}
use Rattle.run_state.proofs.SightLemmas.{last_passes, seen_last}

-- the floors that the controller posted
abbrev floors_of : View → List ℕ
floors_of v = (part v controller).floors

-- the count of each round
abbrev pub counts_of : View → List ℕ
counts_of v = decided_by (core_parts v)

-- a core of the state is one of the view
pub core_is : (course : CourseView) (v : View) (c : ℕ) (core : CoreState) → IsCore (state_of course v) c core
    → (c < v.cores) × (core ≡ core_state course (part v c))
core_is course v c core at =
    let found = of_map (core_state course) (core_parts v) c core at in
    let place = of_numbers (part v) v.cores c found.0 found.1 in
    (place.0, found.2 ∙ ap (core_state course) place.1)

-- a core of the view is one of the state
pub is_core : (course : CourseView) (v : View) (c : ℕ) → c < v.cores
    → IsCore (state_of course v) c (core_state course (part v c))
is_core course v c lt =
    in_map (core_state course) (core_parts v) c (part v c) (in_numbers (part v) v.cores c lt)

-- what the board's rule and the core's actor say of the core's part
pub record OfCore (course : CourseView) (rounds : ℕ) (v : View) (c : ℕ) : Type 0 where
  pub core : HoldsCore v c
  pub own : IsCorePart (part v c)
  pub floors : KeepsFloors (floors_of v) (part v c)
  pub agrees : IsPartOf course rounds c (part v c)

-- they say it of each core
pub of_core : (course : CourseView) (rounds : ℕ) (v : View) (c : ℕ) → IsRunView course rounds v → c < v.cores
    → OfCore course rounds v c
of_core course rounds v c run lt =
    let core : HoldsCore v c = (lt, run.all.cores c lt) in
    record {
      core = core;
      own = run.shown.cores c core;
      floors = run.shown.floors run.all.controller c core;
      agrees = run.cores c lt;
    }

-- the count of a round is that of an entry of some core
record CountOf (v : View) (r d : ℕ) : Type 0 where
  c : ℕ
  within : c < v.cores
  entry : Entry
  at : slice_get (part v c).entries r ≡ Some entry
  used : entry.used ≡ d

-- where there is a count
count_of : (v : View) (r d : ℕ) → slice_get (counts_of v) r ≡ Some d → CountOf v r d
count_of v r d h =
    let found = decided_has (core_parts v) r d h in
    let place = of_numbers (part v) v.cores found.0 found.1 found.3 in
    let is : found.1 ≡ part v found.0 = place.1 in
    record {
      c = found.0;
      within = place.0;
      entry = found.2;
      at = subst (λ (p : Part). slice_get p.entries r ≡ Some found.2) is found.4;
      used = found.5;
    }

-- for `entry_count`
pub some_count : (a b : ℕ) → a ≡ b → Some a ≡ Some b
some_count a b e = ap Some e

module _ (course : CourseView) (rounds : ℕ) (v : View) (run : IsRunView course rounds v) where
  -- each entry has its round's count
  pub entry_count : (c r : ℕ) (e : Entry) → c < v.cores → slice_get (part v c).entries r ≡ Some e
      → slice_get (counts_of v) r ≡ Some e.used
  entry_count c r e lt at =
      let found = has_decided (core_parts v) c r (part v c) e (in_numbers (part v) v.cores c lt) at in
      let count = count_of v r found.0 found.1 in
      let mine = of_core course rounds v c run lt in
      let theirs = of_core course rounds v count.c run count.within in
      let one : count.entry.used ≡ e.used =
      run.shown.one_count count.c c r count.entry e theirs.core mine.core
      (count.at, theirs.own.timeline.numbered r count.entry count.at)
      (at, mine.own.timeline.numbered r e at) in
      found.1 ∙ some_count found.0 e.used (sym count.used ∙ one)

  -- what came before a tick by the floors came at most the lag after it
  none_beyond : (count x : ℕ) → count ≤ length (floors_of v) → FloorsUpTo (floors_of v) count x
      → (i : ℕ) → i < count → tick_at course i ≤ x + course.lag
  none_beyond count x few before i lt =
      let floor = run.floors.each i (omega arith) in
      let low = before i lt in
      omega (arith, floor, low)

  -- an entry had seen only posted events
  entry_seen : (c r : ℕ) (e : Entry) → c < v.cores → slice_get (part v c).entries r ≡ Some e
      → e.seen ≤ length (floors_of v)
  entry_seen c r e lt at =
      let mine = of_core course rounds v c run lt in
      (at_place (λ (x : Entry). (x.seen ≤ length (floors_of v)) × (x.used ≤ length (floors_of v)))
      (part v c).entries r e at mine.floors.fits.counts.entries).0

  -- what an entry had seen was fresh at its round's start
  entry_fresh : (c r : ℕ) (e : Entry) → c < v.cores → slice_get (part v c).entries r ≡ Some e
      → IsFresh course e.seen (r * ROUND)
  entry_fresh c r e lt at =
      let mine = of_core course rounds v c run lt in
      let before = at_place (λ (x : Entry). FloorsUpTo (floors_of v) x.seen (x.round * ROUND))
      (part v c).entries r e at mine.floors.fits.entered in
      subst (λ (k : ℕ). IsFresh course e.seen (k * ROUND)) (mine.own.timeline.numbered r e at) (record {
        has = mine.agrees.timely.entered r e at;
        none_beyond = none_beyond e.seen (e.round * ROUND) (entry_seen c r e lt at) before;
      })

  -- a stint's seen count was posted, and fresh
  stint_kept : (c k : ℕ) (s : Stint) → c < v.cores → slice_get (part v c).stints k ≡ Some s
      → StintInvariant course (length (floors_of v)) c (take k (part v c).stints) s
  stint_kept c k s lt at =
      let mine = of_core course rounds v c run lt in
      let seen = (at_place (λ (x : Stint). (x.seen ≤ length (floors_of v)) × (x.used ≤ length (floors_of v)))
      (part v c).stints k s at mine.floors.fits.counts.stints).0 in
      let before = at_place (λ (x : Stint). FloorsUpTo (floors_of v) x.seen x.from)
      (part v c).stints k s at mine.floors.fits.began in
      record {
        seen_posted = seen;
        fresh = record {
          has = mine.agrees.timely.began k s at;
          none_beyond = none_beyond s.seen s.from seen before;
        };
        dispatch = mine.agrees.dispatched k s at;
      }

  -- no posted event is more than the lag after a clock
  events_near : (c : ℕ) → c < v.cores → (i : ℕ) → i < length (floors_of v)
      → tick_at course i ≤ (part v c).clock + course.lag
  events_near c lt i below =
      let mine = of_core course rounds v c run lt in
      let floor = run.floors.each i below in
      let low = All-get_or (λ f. f ≤ (part v c).clock) (floors_of v) i 0 below mine.floors.low in
      omega (arith, floor, low)

  -- what a core has seen since its last stint is at least what it saw and used before
  sight_kept : (c n : ℕ) → c < v.cores → seen_by course (part v c).clock (part v c).sights ≡ Some n
      → SightInvariant course (length (floors_of v)) (counts_of v) (core_state course (part v c)) n
  sight_kept c n lt is =
      let p = part v c in
      let mine = of_core course rounds v c run lt in
      let last = seen_last course p.clock n p.sights is in
      let posted = last_passes (λ k. k ≤ length (floors_of v)) p.sights last.0
      mine.floors.fits.counts.sights in
      let few : n ≤ length (floors_of v) = omega (arith, posted, last.1) in
      let covers : CoversEarlier p n =
      subst (CoversEarlier p) last.1 (last_passes (CoversEarlier p) p.sights last.0 mine.own.sights) in
      record {
        seen_posted = few;
        fresh = record { has = last.2; none_beyond = λ i below. events_near c lt i (omega (arith, few)) };
        stints = λ k s at. at_place (λ (x : Stint). x.seen ≤ n) p.stints k s at covers.stints;
        counts = λ r d h past.
            let e = element_at p.entries r (omega (arith, mine.own.timeline.reach)) in
            let one : d ≡ e.0.used =
            same (slice_get (counts_of v) r) d e.0.used h (entry_count c r e.0 lt e.1) in
            let round = mine.own.timeline.numbered r e.0 e.1 in
            let most = at_place (λ (x : Entry). x.round * ROUND < p.clock → (x.seen ≤ n) × (x.used ≤ n))
            p.entries r e.0 e.1 covers.entries (omega (arith, round)) in
            omega (arith, one, most.1);
      }

  -- each core keeps the invariant of a core
  core_kept : (c : ℕ) → c < v.cores
      → CoreInvariant course rounds (length (floors_of v)) (counts_of v) c (core_state course (part v c))
  core_kept c lt =
      let mine = of_core course rounds v c run lt in
      record {
        timeline = mine.own.timeline;
        clock = record { in_run = mine.agrees.timely.in_run; events = events_near c lt };
        entries = record {
          few = mine.agrees.timely.in_rounds;
          seen_posted = λ r e at. entry_seen c r e lt at;
        };
        stints = record { each = λ k s at. stint_kept c k s lt at; risen = mine.agrees.timely.risen };
        sight = λ n is. sight_kept c n lt is;
      }

  -- one core won each round that has a count
  pub winner_of : (r d : ℕ) → slice_get (counts_of v) r ≡ Some d → (c : ℕ) × IsSoleWinner v r d c
  winner_of r d h =
      let count = count_of v r d h in
      let mine = of_core course rounds v count.c run count.within in
      let won = run.shown.one_winner run.all.cores count.c r count.entry mine.core
      (count.at, mine.own.timeline.numbered r count.entry count.at) in
      (won.0, subst (λ (n : ℕ). IsSoleWinner v r n won.0) count.used won.1)

  -- in the words of a state
  one_winner : (r d : ℕ) → slice_get (counts_of v) r ≡ Some d → HasOneWinner (state_of course v).cores r d
  one_winner r d h =
      let found = winner_of r d h in
      let w = found.1 in
      record {
        winner = found.0;
        won_by = record {
          core = core_state course (part v found.0);
          at = is_core course v found.0 w.core;
          entry = w.entry;
          entered = w.entered.0;
          won = w.won;
          seen = w.seen;
        };
        only = λ b core e at entered is.
            let place = core_is course v b core at in
            let at' = subst (λ (x : CoreState). slice_get x.entries r ≡ Some e) place.1 entered in
            let theirs = of_core course rounds v b run place.0 in
            w.only b e theirs.core (at', theirs.own.timeline.numbered r e at') is;
      }

  -- the winner of a round had seen what the round before used
  rises : (r a b : ℕ) → slice_get (counts_of v) r ≡ Some a → slice_get (counts_of v) (suc r) ≡ Some b → a ≤ b
  rises r a b h g =
      let found = winner_of (suc r) b g in
      let c = found.0 in
      let w = found.1 in
      let within = slice_get_within (part v c).entries (suc r) w.entry w.entered.0 in
      let e = element_at (part v c).entries r (omega arith) in
      let one : a ≡ e.0.used =
      same (slice_get (counts_of v) r) a e.0.used h (entry_count c r e.0 w.core e.1) in
      let above = (run.cores c w.core).timely.rising r (suc r) e.0 w.entry (omega arith) e.1 w.entered.0 in
      omega (arith, one, above, w.seen)

  -- all cores use one plan in a round
  one_table : HasOneTable (state_of course v)
  one_table = record {
    cores = λ c core at.
        let place = core_is course v c core at in
        let lt = place.0 in
        let mine = of_core course rounds v c run lt in
        record {
          entries = λ r e h.
              entry_count c r e lt (subst (λ (x : CoreState). slice_get x.entries r ≡ Some e) place.1 h);
          stints = λ k s h.
              let at' = subst (λ (x : CoreState). slice_get x.stints k ≡ Some s) place.1 h in
              let own = mine.own.timeline.each k s at' in
              entry_count c (s.from / ROUND) own.entry lt own.entered
              ∙ some_count own.entry.used s.used (sym own.used);
        };
    one_winner = one_winner;
    rises = rises;
  }

  -- the invariant of the state
  is_kept : StateInvariant course rounds (state_of course v)
  is_kept = record {
    size = length-map (core_parts v) (core_state course)
        ∙ (length-map-range_with_len (part v) 0 v.cores ∙ run.started.cores_are);
    table = one_table;
    cores = λ c core at.
        let place = core_is course v c core at in
        subst (CoreInvariant course rounds (length (floors_of v)) (counts_of v) c) (sym place.1)
        (core_kept c place.0);
    fresh = λ r d h.
        let found = winner_of r d h in
        let w = found.1 in
        subst (λ (n : ℕ). IsFresh course n (r * ROUND)) w.seen
        (entry_fresh found.0 r w.entry w.core w.entered.0);
    decided_posted = λ r d h.
        let found = winner_of r d h in
        let w = found.1 in
        let posted = entry_seen found.0 r w.entry w.core w.entered.0 in
        omega (arith, posted, w.seen);
    posted_most = run.floors.few;
    near = λ c d core other at at'.
        let mine = core_is course v c core at in
        let theirs = core_is course v d other at' in
        let near = run.shown.near c d (mine.0, run.all.cores c mine.0) (theirs.0, run.all.cores d theirs.0) in
        let clock = ap (λ (x : CoreState). x.clock) mine.1 in
        let clock' = ap (λ (x : CoreState). x.clock) theirs.1 in
        omega (arith, near, clock, clock', run.started.lag_is);
  }

-- the view of a run is kept
pub view_kept : (course : CourseView) (rounds : ℕ) (v : View) → IsRunView course rounds v
    → StateInvariant course rounds (state_of course v)
view_kept course rounds v run = is_kept course rounds v run
