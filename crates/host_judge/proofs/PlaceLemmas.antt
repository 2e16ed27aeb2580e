-- Times of running and waiting alone, and where they are in a trace.
use Rattle.std.proofs.Common.{arith, ◌≡◌, ℕ, zero, suc, ◌+◌, ◌-◌, ◌<◌, ◌≤◌, ◌==◌, ◌&&◌, Bool, true, false, if◌then◌else◌, List, [], ◌∷◌, ◌++◌, Option, Some, None, MatchOption, nat_lt, add-zero, add-suc, ap, refl, subst, sym, ◌∙◌, ⊎_elim}
use Rattle.std.proofs.lemmas.Bool.{cases_lt, eq-eqb, ne_eqb}
use Rattle.tab_core.specs.Sums.{total}
use Rattle.host_trace.specs.declared.mark.State.{State}
use Rattle.host_trace.specs.declared.mark.State.TheVariants.{Block, Run, Wait}
use Rattle.host_judge.specs.Courses.{IsSteady, StateCourse, is_in, time_before}
use Rattle.host_judge.specs.Windows.{is_runnable, runnable_before}
use Rattle.host_judge.specs.Inside.Placed.{ArePlaced, HasLeastPlace, HasPlaces, HasWindowsOf, IsCut, IsPlace, IsPlaceIfAny, IsPlacedOn, end_of_runs}
use Rattle.host_judge.specs.Inside.Windowed.{HasWindows, lesser_of, ran_by}
use Rattle.host_judge.specs.declared.least.Least.{Least}
use Rattle.host_judge.specs.declared.windows.Stretch.{Stretch}
use Rattle.host_judge.specs.declared.windows.Windows.{Windows}
use Rattle.host_judge.proofs.CourseLemmas.{total_ones, total_zeros}
use Rattle.host_judge.proofs.WindowLemmas.{bit, windows_begun}

-- ---- how long it has run and waited

pub count_more : (course : StateCourse) (from ns : ℕ)
    → (runnable_before course from ≤ runnable_before course (from + ns))
    × (runnable_before course (from + ns) ≤ runnable_before course from + ns)
count_more course from zero = rw add-zero (omega arith, omega arith)
count_more course from (suc ns) =
    let rest = count_more course from ns in
    let last = bit (is_runnable (course (from + ns))) in
    rw add-suc (omega (arith, rest.0), omega (arith, rest.1, last))

-- it never falls, and grows by no more than the time that passes
pub count_within : (course : StateCourse) (from to : ℕ) → from ≤ to
    → (runnable_before course from ≤ runnable_before course to)
    × (runnable_before course to ≤ runnable_before course from + (to - from))
count_within course from to order =
    let whole : from + (to - from) ≡ to = omega arith in
    let same : runnable_before course (from + (to - from)) ≡ runnable_before course to =
    ap (runnable_before course) whole in
    let more = count_more course from (to - from) in
    (omega (arith, same, more.0), omega (arith, same, more.1))

-- where a later count is greater, the time is later
pub count_order : (course : StateCourse) (one two : ℕ) → runnable_before course one < runnable_before course two
    → one < two
count_order course one two more = ⊎_elim
    (λ less. less)
    (λ other. (let low = count_within course two one other in absurd (omega (arith, low.0, more))))
    (cases_lt one two)

-- at the next ns
count_next : (course : StateCourse) (t : ℕ) → is_runnable (course t) ≡ true
    → runnable_before course (suc t) ≡ runnable_before course t + 1
count_next course t is = ap (λ b. runnable_before course t + (if b then 1 else 0)) is

-- a time of running or waiting before another has a lesser count
pub count_rises : (course : StateCourse) (one two : ℕ) → is_runnable (course one) ≡ true → one < two
    → runnable_before course one < runnable_before course two
count_rises course one two is order =
    let next = count_next course one is in
    let low = count_within course (suc one) two (omega arith) in
    omega (arith, next, low.0)

-- where the state stays the same
pub count_on : (course : StateCourse) (state : Option State) (from to : ℕ) → from ≤ to → is_runnable state ≡ true
    → IsSteady course state from to → runnable_before course to ≡ runnable_before course from + (to - from)
count_on course state from to order is held =
    let f : ℕ → ℕ = λ t. if is_runnable (course t) then 1 else 0 in
    let whole : from + (to - from) ≡ to = omega arith in
    let ones : (t : ℕ) → from ≤ t → t < from + (to - from) → f t ≡ 1 = λ t low high.
    ap (λ s. if is_runnable s then 1 else 0) (held.held t low (omega arith)) ∙ ap (λ b. if b then 1 else 0) is in
    sym (ap (total f) whole) ∙ total_ones f from (to - from) ones

pub count_not : (course : StateCourse) (state : Option State) (from to : ℕ) → from ≤ to → is_runnable state ≡ false
    → IsSteady course state from to → runnable_before course to ≡ runnable_before course from
count_not course state from to order isnt held =
    let f : ℕ → ℕ = λ t. if is_runnable (course t) then 1 else 0 in
    let whole : from + (to - from) ≡ to = omega arith in
    let zeros : (t : ℕ) → from ≤ t → t < from + (to - from) → f t ≡ 0 = λ t low high.
    ap (λ s. if is_runnable s then 1 else 0) (held.held t low (omega arith)) ∙ ap (λ b. if b then 1 else 0) isnt in
    sym (ap (total f) whole) ∙ total_zeros f from (to - from) zeros

-- a state counts where it is one of running and waiting
state_parts : (state : Option State)
    → (if is_runnable state then 1 else 0) ≡ (if is_in Run state then 1 else 0) + (if is_in Wait state then 1 else 0)
state_parts None = refl
state_parts (Some Run) = refl
state_parts (Some Wait) = refl
state_parts (Some Block) = refl

-- it is how long it ran and how long it waited
pub count_parts : (course : StateCourse) (time : ℕ)
    → runnable_before course time ≡ time_before course Run time + time_before course Wait time
count_parts course zero = refl
count_parts course (suc t) =
    let rest = count_parts course t in
    let last = state_parts (course t) in
    omega (arith, rest, last)

-- it runs for no more than it runs and waits
ran_part : (state : Option State) → (if is_in Run state then 1 else 0) ≤ (if is_runnable state then 1 else 0)
ran_part None = omega arith
ran_part (Some Run) = omega arith
ran_part (Some Wait) = omega arith
ran_part (Some Block) = omega arith

pub ran_few : (course : StateCourse) (from ns : ℕ)
    → ran_by course (from + ns) + runnable_before course from ≤ ran_by course from + runnable_before course (from + ns)
ran_few course from zero = rw add-zero (omega arith)
ran_few course from (suc ns) =
    let rest = ran_few course from ns in
    let last = ran_part (course (from + ns)) in
    rw add-suc (omega (arith, rest, last))

-- each count between two is that of a time between theirs
pub count_between : (course : StateCourse) (from ns place : ℕ) → runnable_before course from ≤ place
    → place ≤ runnable_before course (from + ns)
    → (t : ℕ) × (from ≤ t) × (t ≤ from + ns) × (runnable_before course t ≡ place)
count_between course from zero place low high =
    let same : runnable_before course (from + 0) ≡ runnable_before course from = ap (runnable_before course) (omega arith) in
    (from, omega arith, omega arith, omega (arith, same))
count_between course from (suc ns) place low high = ⊎_elim
    (λ last.
    let step : from + suc ns ≡ suc (from + ns) = omega arith in
    let same : runnable_before course (from + suc ns) ≡ runnable_before course (suc (from + ns)) =
    ap (runnable_before course) step in
    let grows = count_within course (from + ns) (suc (from + ns)) (omega arith) in
    (from + suc ns, omega arith, omega arith, omega (arith, same, grows.1, last, high)))
    (λ before.
    let found = count_between course from ns place low before in
    (found.0, found.1, omega (arith, found.2), found.3))
    (cases_lt (runnable_before course (from + ns)) place)

-- ---- what is left of a course

-- it holds of less too
pub cut_less : (course cut : StateCourse) (from to : ℕ) → from ≤ to → IsCut course to cut → IsCut course from cut
cut_less course cut from to order is = record { at = λ t low runnable. is.at t (omega arith) runnable }

-- it doesn't run where it isn't runnable
not_running : (state : Option State) → is_runnable state ≡ false → is_in Run state ≡ false
not_running None isnt = refl
not_running (Some Run) isnt = absurd (cc)
not_running (Some Wait) isnt = refl
not_running (Some Block) isnt = refl

ran_next : (course cut : StateCourse) (t : ℕ) (runnable : Bool) → is_runnable (course t) ≡ runnable
    → (is_runnable (course t) ≡ true → cut (runnable_before course t) ≡ course t)
    → ran_by cut (runnable_before course t) ≡ ran_by course t
    → ran_by cut (runnable_before course (suc t)) ≡ ran_by course (suc t)
ran_next course cut t true is at same =
    let next = count_next course t is in
    let step : runnable_before course t + 1 ≡ suc (runnable_before course t) = omega arith in
    let last : is_in Run (cut (runnable_before course t)) ≡ is_in Run (course t) = ap (is_in Run) (at is) in
    ap (ran_by cut) (next ∙ step)
    ∙ ap (λ b. ran_by cut (runnable_before course t) + (if b then 1 else 0)) last
    ∙ ap (λ n. n + (if is_in Run (course t) then 1 else 0)) same
ran_next course cut t false is at same =
    let one : ℕ → Bool → ℕ = λ n b. if b then n else 0 in
    let off : one 1 (is_runnable (course t)) ≡ 0 = ap (one 1) is in
    let stays : runnable_before course (suc t) ≡ runnable_before course t = omega (arith, off) in
    let none : one 1 (is_in Run (course t)) ≡ 0 = ap (one 1) (not_running (course t) is) in
    let here = ap (ran_by cut) stays in
    omega (arith, here, same, none)

-- how long it has run in it
pub cut_ran : (course cut : StateCourse) (time t : ℕ) → IsCut course time cut → t ≤ time
    → ran_by cut (runnable_before course t) ≡ ran_by course t
cut_ran course cut time zero is order = refl
cut_ran course cut time (suc t) is order =
    ran_next course cut t (is_runnable (course t)) refl (is.at t (omega arith))
    (cut_ran course cut time t is (omega arith))

-- where the state stays the same
pub cut_steady : (course cut : StateCourse) (state : Option State) (from to : ℕ) → from ≤ to → is_runnable state ≡ true
    → IsCut course to cut → IsSteady course state from to
    → IsSteady cut state (runnable_before course from) (runnable_before course from + (to - from))
cut_steady course cut state from to order runnable is held = record {
  held = λ r low high.
      (let t : ℕ = from + (r - runnable_before course from) in
      let below : t < to = omega (arith, low, high) in
      let part : IsSteady course state from t = record { held = λ s least most. held.held s least (omega (arith, below, most)) } in
      let count = count_on course state from t (omega arith) runnable part in
      let same : runnable_before course t ≡ r = omega (arith, count, low) in
      let here : course t ≡ state = held.held t (omega arith) below in
      ap cut (sym same) ∙ is.at t below (ap is_runnable here ∙ runnable) ∙ here);
}

-- there is one
cut_by : StateCourse → ℕ → StateCourse
cut_by course zero r = None
cut_by course (suc t) r = if is_runnable (course t) && (runnable_before course t == r) then course t else cut_by course t r

-- where one of two tests fails, and where both are passed
both_false : (one two : Bool) (here there : Option State) → two ≡ false
    → (if one && two then here else there) ≡ there
both_false true two here there is = ap (λ b. if b then here else there) is
both_false false two here there is = refl

both_true : (one two : Bool) (here there : Option State) → one ≡ true → two ≡ true
    → (if one && two then here else there) ≡ here
both_true true two here there is are = ap (λ b. if b then here else there) are
both_true false two here there is are = absurd (cc (is))

cut_at : (course : StateCourse) (time t : ℕ) → t < time → is_runnable (course t) ≡ true
    → cut_by course time (runnable_before course t) ≡ course t
unfolding cut_by
cut_at course zero t low is = absurd (omega (arith, low))
cut_at course (suc n) t low is = ⊎_elim
    (λ before.
    let rest = cut_at course n t before is in
    let more = count_rises course t n is before in
    let differs : (runnable_before course n == runnable_before course t) ≡ false =
    ne_eqb (runnable_before course n) (runnable_before course t) (λ same. omega (arith, same, more)) in
    both_false (is_runnable (course n)) (runnable_before course n == runnable_before course t) (course n)
    (cut_by course n (runnable_before course t)) differs ∙ rest)
    (λ last.
    let same : n ≡ t = omega arith in
    let equal : (runnable_before course n == runnable_before course t) ≡ true =
    eq-eqb (runnable_before course n) (runnable_before course t) (ap (runnable_before course) same) in
    let runs : is_runnable (course n) ≡ true = ap (λ k. is_runnable (course k)) same ∙ is in
    both_true (is_runnable (course n)) (runnable_before course n == runnable_before course t) (course n)
    (cut_by course n (runnable_before course t)) runs equal ∙ ap course same)
    (cases_lt t n)

pub some_cut : (course : StateCourse) (time : ℕ) → (cut : StateCourse) × IsCut course time cut
some_cut course time = (cut_by course time, record { at = λ t low is. cut_at course time t low is })

-- ---- where things are

-- where the state stays the same
pub placed_on : (course : StateCourse) (state : Option State) (at ns : ℕ) → is_runnable state ≡ true
    → IsSteady course state at (at + ns) → IsPlacedOn course at (runnable_before course at) ns
placed_on course state at ns is held = record {
  each = λ more low.
      (let part : IsSteady course state at (at + more) =
      record { held = λ s least most. held.held s least (omega (arith, most, low)) } in
      let count = count_on course state at (at + more) (omega arith) is part in
      record {
        runnable = ap is_runnable (held.held (at + more) (omega arith) (omega arith)) ∙ is;
        before = omega (arith, count);
      });
}

-- the first of these
pub placed_first : (course : StateCourse) (at place ns : ℕ) → 0 < ns → IsPlacedOn course at place ns
    → IsPlace course at place
placed_first course at place ns some is =
    let one : at + 0 ≡ at = omega arith in
    let two : place + 0 ≡ place = omega arith in
    subst (λ x. IsPlace course x place) one (subst (λ x. IsPlace course (at + 0) x) two (is.each 0 some))

-- the time of what comes next
pub next_place : (course : StateCourse) (place end : ℕ) (waits : Option ℕ) (at result : ℕ)
    → IsPlaceIfAny course place end waits → IsPlace course at end
    → MatchOption waits (result ≡ at) (λ begun. result ≡ begun) → IsPlace course result place
next_place course place end None at result is here same =
    subst (λ x. IsPlace course x place) (sym same) (subst (IsPlace course at) (sym is) here)
next_place course place end (Some begun) at result is here same = subst (λ x. IsPlace course x place) (sym same) is

-- one more stretch
pub ends_more : (since : ℕ) (runs : List Stretch) (one : Stretch) → end_of_runs since (runs ++ one ∷ []) ≡ one.to_ns
ends_more since [] one = refl
ends_more since (first ∷ rest) one = ends_more first.to_ns rest one

pub placed_more : (course : StateCourse) (since : ℕ) (runs : List Stretch) (one : Stretch) → ArePlaced course since runs
    → IsPlace course one.paused_ns (end_of_runs since runs)
    → IsPlacedOn course one.at_ns one.from_ns (one.to_ns - one.from_ns) → ArePlaced course since (runs ++ one ∷ [])
placed_more course since [] one are paused on = (paused, on, tt)
placed_more course since (first ∷ rest) one are paused on =
    (are.0, are.1, placed_more course first.to_ns rest one are.2 paused on)

-- after a time in which it runs
pub places_run : (course : StateCourse) (at from to : ℕ) (old pushed : Windows) (one : Stretch) → from < to
    → HasPlaces course from old → IsPlacedOn course at from (to - from)
    → MatchOption old.waits_at (one.paused_ns ≡ at) (λ begun. one.paused_ns ≡ begun) → one.at_ns ≡ at
    → one.from_ns ≡ from → one.to_ns ≡ to → pushed.pause ≡ old.pause → pushed.runs.items ≡ old.runs.items ++ one ∷ []
    → pushed.waits_at ≡ None → HasLeastPlace course pushed.least → HasPlaces course to pushed
places_run course at from to old pushed one order has on paused begins low high pauses runs waits least =
    let here : IsPlace course one.paused_ns (end_of_runs old.pause.since_ns old.runs.items) =
    next_place course (end_of_runs old.pause.since_ns old.runs.items) from old.waits_at at one.paused_ns has.waits
    (placed_first course at from (to - from) (omega arith) on) paused in
    record {
      runs = rw (pauses, runs)
          (placed_more course old.pause.since_ns old.runs.items one has.runs here (rw (begins, low, high) on));
      waits = rw (pauses, runs, waits) (ends_more old.pause.since_ns old.runs.items one ∙ high);
      least = least;
    }

-- after a wait
pub places_wait : (course : StateCourse) (at begun from to : ℕ) (old new : Windows) → from < to
    → HasPlaces course from old → IsPlacedOn course at from (to - from)
    → MatchOption old.waits_at (begun ≡ at) (λ held. begun ≡ held) → new.pause ≡ old.pause → new.runs ≡ old.runs
    → new.waits_at ≡ Some begun → new.least ≡ old.least → HasPlaces course to new
places_wait course at begun from to old new order has on same pauses runs waits least = record {
  runs = rw (pauses, runs) has.runs;
  waits = rw (pauses, runs, waits)
      (next_place course (end_of_runs old.pause.since_ns old.runs.items) from old.waits_at at begun has.waits
      (placed_first course at from (to - from) (omega arith) on) same);
  least = rw least has.least;
}

-- the first stretch is dropped
pub places_next : (course : StateCourse) (to : ℕ) (old new : Windows) (stretch : Stretch) → HasPlaces course to old
    → old.runs.items ≡ stretch ∷ new.runs.items → new.pause.since_ns ≡ stretch.to_ns → new.waits_at ≡ old.waits_at
    → new.least ≡ old.least → HasPlaces course to new
places_next course to old new stretch has is since waits least =
    let all : ArePlaced course old.pause.since_ns (stretch ∷ new.runs.items) = rw is at has.runs in
    let end : IsPlaceIfAny course (end_of_runs old.pause.since_ns (stretch ∷ new.runs.items)) to old.waits_at =
    rw is at has.waits in
    record {
      runs = rw since all.2;
      waits = rw (since, waits) end;
      least = rw least has.least;
    }

-- the time of the first pause, where a stretch follows
pub pause_before : (course : StateCourse) (to : ℕ) (windows : Windows) (stretch : Stretch) (rest : List Stretch)
    → HasPlaces course to windows → windows.runs.items ≡ stretch ∷ rest
    → IsPlace course stretch.paused_ns windows.pause.since_ns
pause_before course to windows stretch rest has is =
    let all : ArePlaced course windows.pause.since_ns (stretch ∷ rest) = rw is at has.runs in
    all.0

-- that where none does
pub pause_last : (course : StateCourse) (from at result : ℕ) (windows : Windows) → HasPlaces course from windows
    → IsPlace course at from → windows.runs.items ≡ []
    → MatchOption windows.waits_at (result ≡ at) (λ begun. result ≡ begun)
    → IsPlace course result windows.pause.since_ns
pause_last course from at result windows has here none same =
    let waits : IsPlaceIfAny course windows.pause.since_ns from windows.waits_at = rw none at has.waits in
    next_place course windows.pause.since_ns from windows.waits_at at result waits here same

-- that where the wait after the last stretch is known
pub pause_waits : (course : StateCourse) (to begun : ℕ) (windows : Windows) → HasPlaces course to windows
    → windows.runs.items ≡ [] → windows.waits_at ≡ Some begun → IsPlace course begun windows.pause.since_ns
pause_waits course to begun windows has none waits =
    let all : IsPlaceIfAny course (end_of_runs windows.pause.since_ns []) to (Some begun) =
    rw (none, waits) at has.waits in
    all

-- the time within the first stretch
pub within_run : (course : StateCourse) (to time : ℕ) (windows : Windows) (stretch : Stretch) (rest : List Stretch)
    → HasPlaces course to windows → windows.runs.items ≡ stretch ∷ rest → stretch.from_ns < time → time < stretch.to_ns
    → IsPlace course (stretch.at_ns + (time - stretch.from_ns)) time
within_run course to time windows stretch rest has is low high =
    let all : ArePlaced course windows.pause.since_ns (stretch ∷ rest) = rw is at has.runs in
    let same : stretch.from_ns + (time - stretch.from_ns) ≡ time = omega arith in
    subst (IsPlace course (stretch.at_ns + (time - stretch.from_ns))) same
    (all.1.each (time - stretch.from_ns) (omega arith))

-- the least of two
lesser_at : (course : StateCourse) (old one : Least) (less : Bool) → IsPlace course old.at_ns old.begin_ns
    → IsPlace course one.at_ns one.begin_ns → HasLeastPlace course (Some (if less then one else old))
lesser_at course old one true is has = has
lesser_at course old one false is has = is

pub lesser_placed : (course : StateCourse) (old : Option Least) (one : Least) → HasLeastPlace course old
    → IsPlace course one.at_ns one.begin_ns → HasLeastPlace course (lesser_of old one)
lesser_placed course None one is has = has
lesser_placed course (Some old) one is has = lesser_at course old one (nat_lt one.run_ns old.run_ns) is has

-- the least is another
pub places_least : (course : StateCourse) (to : ℕ) (old new : Windows) → HasPlaces course to old
    → new.pause ≡ old.pause → new.runs ≡ old.runs → new.waits_at ≡ old.waits_at → HasLeastPlace course new.least
    → HasPlaces course to new
places_least course to old new has pauses runs waits least = record {
  runs = rw (pauses, runs) has.runs;
  waits = rw (pauses, runs, waits) has.waits;
  least = least;
}

-- ---- what is kept

-- at the begin
pub windows_first : (course : StateCourse) (windows : Windows) → 0 < windows.window_ns
    → windows.pause.since_ns ≡ 0 → windows.pause.ran_ns ≡ 0 → windows.runs.items ≡ [] → windows.least ≡ None
    → windows.waits_at ≡ None → HasWindowsOf course 0 windows
windows_first course windows some since ran none least waits = record {
  counted = λ cut is. windows_begun cut windows some since ran none least;
  placed = record {
    runs = rw none tt;
    waits = rw (none, waits, since) refl;
    least = rw least tt;
  };
}

-- after a time of running or waiting
pub windows_on : (course : StateCourse) (state : Option State) (at ns from ran : ℕ) (old new : Windows)
    → is_runnable state ≡ true → HasWindowsOf course at old → from ≡ runnable_before course at
    → ran ≡ time_before course Run at → IsSteady course state at (at + ns)
    → ((cut : StateCourse) → HasWindows cut from old → ran ≡ time_before cut Run from
    → IsSteady cut state from (from + ns) → HasWindows cut (from + ns) new)
    → (HasPlaces course from old → IsPlacedOn course at from ns → HasPlaces course (from + ns) new)
    → HasWindowsOf course (at + ns) new
windows_on course state at ns from ran old new runnable has counts is held counted placed =
    let count = count_on course state at (at + ns) (omega arith) runnable held in
    let ends : from + ns ≡ runnable_before course (at + ns) = omega (arith, count, counts) in
    record {
      counted = λ cut one.
          (let less = cut_less course cut at (at + ns) (omega arith) one in
          let whole : HasWindows cut from old = subst (λ x. HasWindows cut x old) (sym counts) (has.counted cut less) in
          let same = cut_ran course cut at at less (omega arith) in
          let before : ran ≡ time_before cut Run from = is ∙ sym same ∙ ap (ran_by cut) (sym counts) in
          let steady = cut_steady course cut state at (at + ns) (omega arith) runnable one held in
          let span : runnable_before course at + (at + ns - at) ≡ from + ns = omega (arith, counts) in
          let on : IsSteady cut state from (from + ns) =
          subst (λ x. IsSteady cut state x (from + ns)) (sym counts)
          (subst (IsSteady cut state (runnable_before course at)) span steady) in
          subst (λ x. HasWindows cut x new) ends (counted cut whole before on));
      placed = subst (λ x. HasPlaces course x new) ends
          (placed (subst (λ x. HasPlaces course x old) (sym counts) has.placed)
          (subst (λ x. IsPlacedOn course at x ns) (sym counts) (placed_on course state at ns runnable held)));
    }

-- after another
pub windows_off : (course : StateCourse) (state : Option State) (at ns : ℕ) (windows : Windows)
    → is_runnable state ≡ false → HasWindowsOf course at windows → IsSteady course state at (at + ns)
    → HasWindowsOf course (at + ns) windows
windows_off course state at ns windows isnt has held =
    let same = count_not course state at (at + ns) (omega arith) isnt held in
    record {
      counted = λ cut one. subst (λ x. HasWindows cut x windows) (sym same)
          (has.counted cut (cut_less course cut at (at + ns) (omega arith) one));
      placed = subst (λ x. HasPlaces course x windows) (sym same) has.placed;
    }
