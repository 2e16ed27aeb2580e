-- The windows of a vCPU, and the stretches in which it runs, in ns of running and waiting alone.
use Rattle.std.proofs.Common.{arith, ◌≡◌, ℕ, zero, suc, ◌+◌, ◌-◌, ◌<◌, ◌≤◌, Bool, true, false, if◌then◌else◌, Bor, List, [], ◌∷◌, ◌++◌, Option, Some, None, MatchOption, drop, nat_lt, add-zero, add-suc, ap, refl, subst, sym, ◌∙◌, ⊎_elim}
use Rattle.std.specs.Option.{option_copied}
use Rattle.std.specs.Slice.{IsItemAt}
use Rattle.std.proofs.lemmas.Bool.{cases_lt, ltb-true, ltb-false}
use Rattle.host_trace.specs.declared.mark.State.{State}
use Rattle.host_trace.specs.declared.mark.State.TheVariants.{Run, Wait}
use Rattle.host_judge.specs.Courses.{IsSteady, StateCourse, is_in}
use Rattle.host_judge.specs.Inside.Windowed.{AreStretches, HasTrail, HasWindows, IsLeastRun, IsLeastSoFar, IsStart, IsStretch, lesser_of, ran_by, run_of}
use Rattle.host_judge.specs.declared.least.Least.{Least}
use Rattle.host_judge.specs.declared.windows.Start.{Start}
use Rattle.host_judge.specs.declared.windows.Stretch.{Stretch}
use Rattle.host_judge.specs.declared.windows.Windows.{Windows}
use Rattle.host_judge.proofs.CourseLemmas.{time_behind}

-- ---- how long it has run

pub bit : (b : Bool) → (if b then 1 else 0) ≤ 1
bit true = omega arith
bit false = omega arith

ran_more : (course : StateCourse) (from ns : ℕ) → ran_by course from ≤ ran_by course (from + ns)
ran_more course from zero = rw add-zero (omega arith)
ran_more course from (suc ns) = (let rest = ran_more course from ns in rw add-suc (omega (arith, rest)))

ran_most : (course : StateCourse) (from ns : ℕ) → ran_by course (from + ns) ≤ ran_by course from + ns
ran_most course from zero = rw add-zero (omega arith)
ran_most course from (suc ns) =
    let rest = ran_most course from ns in
    let last = bit (is_in Run (course (from + ns))) in
    rw add-suc (omega (arith, rest, last))

-- it never falls, and grows by no more than the time that passes
pub ran_within : (course : StateCourse) (from to : ℕ) → from ≤ to
    → (ran_by course from ≤ ran_by course to) × (ran_by course to ≤ ran_by course from + (to - from))
ran_within course from to order =
    let whole : from + (to - from) ≡ to = omega arith in
    let same : ran_by course (from + (to - from)) ≡ ran_by course to = ap (ran_by course) whole in
    let more = ran_more course from (to - from) in
    let most = ran_most course from (to - from) in
    (omega (arith, same, more), omega (arith, same, most))

-- where it runs
pub ran_on : (course : StateCourse) (from to : ℕ) → from ≤ to → IsSteady course (Some Run) from to
    → ran_by course to ≡ ran_by course from + (to - from)
ran_on course from to order held = time_behind course Run (Some Run) from to order held

-- where it doesn't
pub ran_not : (course : StateCourse) (state : Option State) (from to : ℕ) → from ≤ to → is_in Run state ≡ false
    → IsSteady course state from to → ran_by course to ≡ ran_by course from
ran_not course state from to order isnt held =
    let all = time_behind course Run state from to order held in
    let none = ap (λ b. if b then to - from else 0) isnt in
    omega (arith, all, none)

-- a part of a time in which the state stays the same
part : (course : StateCourse) (state : Option State) (from to low high : ℕ) → IsSteady course state from to → from ≤ low
    → high ≤ to → IsSteady course state low high
part course state from to low high held least most = record {
  held = λ t above below. held.held t (omega arith) (omega arith);
}

-- ---- stretches of running

-- within one
stretch_at : (course : StateCourse) (from : ℕ) (stretch : Stretch) (time : ℕ) → IsStretch course from stretch
    → stretch.from_ns ≤ time → time ≤ stretch.to_ns
    → ran_by course time ≡ stretch.ran_ns + (time - stretch.from_ns)
stretch_at course from stretch time is low high =
    let before = ran_within course stretch.from_ns time low in
    let behind = ran_within course time stretch.to_ns high in
    omega (arith, before.1, behind.1, is.ran, is.whole)

-- less had been run at each time before
stretch_first : (course : StateCourse) (from : ℕ) (stretch : Stretch) (time t : ℕ) → IsStretch course from stretch
    → stretch.from_ns < time → time ≤ stretch.to_ns → t < time
    → ran_by course t < stretch.ran_ns + (time - stretch.from_ns)
stretch_first course from stretch time t is low high before = ⊎_elim
    (λ earlier.
    let most = ran_within course t stretch.from_ns (omega arith) in
    omega (arith, most.0, is.ran))
    (λ within.
    let here = stretch_at course from stretch t is within (omega arith) in
    omega (arith, here))
    (cases_lt t stretch.from_ns)

-- one more stretch
pub stretches_more : (course : StateCourse) (from to later : ℕ) (runs : List Stretch) (one : Stretch)
    → one.from_ns ≡ to → one.to_ns ≡ later → one.ran_ns ≡ ran_by course to → to < later
    → ran_by course later ≡ ran_by course to + (later - to) → AreStretches course from to runs
    → AreStretches course from later (runs ++ one ∷ [])
stretches_more course from to later [] one begins ends ran order runs are = (
  record {
    behind = omega (arith, begins, are.0);
    idle = ap (ran_by course) begins ∙ are.1;
    some = omega (arith, begins, ends);
    ran = ran ∙ sym (ap (ran_by course) begins);
    whole = (let same = ap (ran_by course) ends in omega (arith, same, begins, ends, ran, runs));
  },
  (omega (arith, ends), sym (ap (ran_by course) ends)),
)
stretches_more course from to later (first ∷ rest) one begins ends ran order runs are =
    (are.0, stretches_more course first.to_ns to later rest one begins ends ran order runs are.1)

-- a later time up to which it doesn't run
pub stretches_idle : (course : StateCourse) (from to later : ℕ) (runs : List Stretch) → to ≤ later
    → ran_by course later ≡ ran_by course to → AreStretches course from to runs
    → AreStretches course from later runs
stretches_idle course from to later [] order idle are = (omega (arith, are.0), idle ∙ are.1)
stretches_idle course from to later (first ∷ rest) order idle are =
    (are.0, stretches_idle course first.to_ns to later rest order idle are.1)

-- the first of the stretches
pub first_is : (runs : List Stretch) (found : Option (Bor Stretch)) → IsItemAt runs 0 found
    → MatchOption (option_copied found) (runs ≡ []) (λ stretch. runs ≡ stretch ∷ drop 1 runs)
first_is [] None is = refl
first_is [] (Some one) is = absurd (omega (arith, is.3.0))
first_is (first ∷ rest) None is = absurd (omega (arith, is.3))
first_is (first ∷ rest) (Some one) is = ap (λ s. s ∷ rest) (sym is.1)

-- ---- since when it hasn't run

-- the pause began by then
since_before : (course : StateCourse) (to time : ℕ) (windows : Windows) → HasTrail course to time windows
    → windows.pause.since_ns ≤ time
since_before course to time windows has = ⊎_elim
    (λ later. has.before later)
    (λ first. omega arith)
    (cases_lt 0 windows.pause.since_ns)

-- no stretch is left
pub start_none : (course : StateCourse) (to time : ℕ) (windows : Windows) (start : Start) → time ≤ to
    → HasTrail course to time windows → windows.runs.items ≡ [] → start.since_ns ≡ windows.pause.since_ns
    → start.ran_ns ≡ windows.pause.ran_ns → IsStart course time start
start_none course to time windows start order has none since ran =
    let before = since_before course to time windows has in
    let last : AreStretches course windows.pause.since_ns to [] = rw none at has.stretches in
    let low = ran_within course windows.pause.since_ns time before in
    let high = ran_within course time to order in
    record {
      before = omega (arith, since, before);
      ran = ran ∙ has.ran ∙ sym (ap (ran_by course) since);
      idle = omega (arith, low.0, high.0, last.1, has.ran, ran);
      first = λ t below. (let less = has.first t (omega (arith, since, below)) in omega (arith, less, ran));
    }

-- the next begins later
pub start_before : (course : StateCourse) (to time : ℕ) (windows : Windows) (stretch : Stretch) (rest : List Stretch)
    (start : Start) → HasTrail course to time windows → windows.runs.items ≡ stretch ∷ rest → time ≤ stretch.from_ns
    → start.since_ns ≡ windows.pause.since_ns → start.ran_ns ≡ windows.pause.ran_ns → IsStart course time start
start_before course to time windows stretch rest start has is early since ran =
    let before = since_before course to time windows has in
    let all : AreStretches course windows.pause.since_ns to (stretch ∷ rest) = rw is at has.stretches in
    let low = ran_within course windows.pause.since_ns time before in
    let high = ran_within course time stretch.from_ns early in
    record {
      before = omega (arith, since, before);
      ran = ran ∙ has.ran ∙ sym (ap (ran_by course) since);
      idle = omega (arith, low.0, high.0, all.0.idle, has.ran, ran);
      first = λ t below. (let less = has.first t (omega (arith, since, below)) in omega (arith, less, ran));
    }

-- the next goes on at the time
pub start_within : (course : StateCourse) (to time : ℕ) (windows : Windows) (stretch : Stretch) (rest : List Stretch)
    (start : Start) → HasTrail course to time windows → windows.runs.items ≡ stretch ∷ rest
    → stretch.from_ns < time → time < stretch.to_ns → start.since_ns ≡ time
    → start.ran_ns ≡ stretch.ran_ns + (time - stretch.from_ns) → IsStart course time start
start_within course to time windows stretch rest start has is low high since ran =
    let all : AreStretches course windows.pause.since_ns to (stretch ∷ rest) = rw is at has.stretches in
    let here = stretch_at course windows.pause.since_ns stretch time all.0 (omega arith) (omega arith) in
    record {
      before = omega (arith, since);
      ran = ran ∙ sym here ∙ sym (ap (ran_by course) since);
      idle = here ∙ sym ran;
      first = λ t below.
          (let less = stretch_first course windows.pause.since_ns stretch time t all.0 low (omega arith)
          (omega (arith, since, below)) in
          omega (arith, less, ran));
    }

-- the next has ended by then
pub trail_next : (course : StateCourse) (to time : ℕ) (old new : Windows) (stretch : Stretch)
    → HasTrail course to time old → old.runs.items ≡ stretch ∷ new.runs.items → stretch.to_ns ≤ time
    → new.pause.since_ns ≡ stretch.to_ns
    → new.pause.ran_ns ≡ stretch.ran_ns + (stretch.to_ns - stretch.from_ns) → HasTrail course to time new
trail_next course to time old new stretch has is ended since ran =
    let all : AreStretches course old.pause.since_ns to (stretch ∷ new.runs.items) = rw is at has.stretches in
    record {
      before = λ above. omega (arith, since, ended);
      ran = ran ∙ sym all.0.whole ∙ sym (ap (ran_by course) since);
      first = λ t below.
          (let less = stretch_first course old.pause.since_ns stretch stretch.to_ns t all.0 all.0.some (omega arith)
          (omega (arith, since, below)) in
          omega (arith, less, ran));
      stretches = rw since all.1;
    }

-- ---- the least so far

-- a window that ends by a time and has no more than another
pub record HasLess (course : StateCourse) (window time other : ℕ) : Type 0 where
  pub start : ℕ
  pub is_one : start + window ≤ time
  pub most : run_of course window start ≤ run_of course window other

-- it stays, where each new window has at least what an old one has
pub least_stays : (course : StateCourse) (window from to : ℕ) (least : Option Least) → from ≤ to
    → IsLeastSoFar course window from least
    → ((s : ℕ) → s + window ≤ to → from < s + window → HasLess course window from s)
    → IsLeastSoFar course window to least
least_stays course window from to None order is old = ⊎_elim
    (λ few. few)
    (λ whole.
    let less = old (to - window) (omega arith) (omega (arith, is)) in
    absurd (let one = less.is_one in omega arith))
    (cases_lt to window)
least_stays course window from to (Some least) order is old = record {
  within = omega (arith, is.within);
  lowest = λ s one. ⊎_elim
      (λ later.
      (let less = old s one later in
      let low = is.lowest less.start less.is_one in
      omega (arith, low, less.most)))
      (λ within. is.lowest s within)
      (cases_lt from (s + window));
  first = λ s one before. is.first s (omega (arith, is.within)) before;
  run = is.run;
}

-- a new window that has less than all old ones
pub record IsNewLeast (course : StateCourse) (window from to : ℕ) (least : Least) : Type 0 where
  pub within : least.begin_ns + window ≤ to
  pub run : least.run_ns ≡ run_of course window least.begin_ns
  pub first : (s : ℕ) → s + window ≤ to → from < s + window → s < least.begin_ns
      → least.run_ns < run_of course window s

becomes_least : (course : StateCourse) (window from to : ℕ) (least : Least)
    → ((s : ℕ) → s + window ≤ from → least.run_ns < run_of course window s)
    → ((s : ℕ) → s + window ≤ to → from < s + window → least.run_ns ≤ run_of course window s)
    → IsNewLeast course window from to least → IsLeastRun course window to least
becomes_least course window from to least less low new = record {
  within = new.within;
  lowest = λ s one. ⊎_elim
      (λ later. (let more = low s one later in omega (arith, more, new.run)))
      (λ within. (let more = less s within in omega (arith, more, new.run)))
      (cases_lt from (s + window));
  first = λ s one before. ⊎_elim
      (λ later. (let more = new.first s one later before in omega (arith, more, new.run)))
      (λ within. (let more = less s within in omega (arith, more, new.run)))
      (cases_lt from (s + window));
  run = new.run;
}

lesser_by : (course : StateCourse) (window from to : ℕ) (old one : Least) (less : Bool) → from ≤ to
    → IsLeastRun course window from old → nat_lt one.run_ns old.run_ns ≡ less
    → ((s : ℕ) → s + window ≤ to → from < s + window → one.run_ns ≤ run_of course window s)
    → (((s : ℕ) → s + window ≤ from → one.run_ns < run_of course window s) → IsNewLeast course window from to one)
    → IsLeastRun course window to (if less then one else old)
lesser_by course window from to old one true order is test low new =
    let below : one.run_ns < old.run_ns = ltb-true one.run_ns old.run_ns test in
    let less : (s : ℕ) → s + window ≤ from → one.run_ns < run_of course window s = λ s within.
    (let all = is.lowest s within in omega (arith, all, is.run, below)) in
    becomes_least course window from to one less low (new less)
lesser_by course window from to old one false order is test low new =
    let above : old.run_ns ≤ one.run_ns = ltb-false one.run_ns old.run_ns test in
    least_stays course window from to (Some old) order is (λ s within later. record {
      start = old.begin_ns;
      is_one = is.within;
      most = (let more = low s within later in omega (arith, more, is.run, above));
    })

-- it is the lesser of it and a new window, if that has no more than each new one
pub least_more : (course : StateCourse) (window from to : ℕ) (old : Option Least) (one : Least) → from ≤ to
    → IsLeastSoFar course window from old
    → ((s : ℕ) → s + window ≤ to → from < s + window → one.run_ns ≤ run_of course window s)
    → (((s : ℕ) → s + window ≤ from → one.run_ns < run_of course window s) → IsNewLeast course window from to one)
    → IsLeastSoFar course window to (lesser_of old one)
least_more course window from to None one order is low new =
    let less : (s : ℕ) → s + window ≤ from → one.run_ns < run_of course window s = λ s within.
    absurd (omega (arith, is, within)) in
    becomes_least course window from to one less low (new less)
least_more course window from to (Some old) one order is low new =
    lesser_by course window from to old one (nat_lt one.run_ns old.run_ns) order is refl low new

-- ---- where it runs

-- a window that begins no earlier has no less
run_grows : (course : StateCourse) (from to window early late : ℕ) → IsSteady course (Some Run) from to → early ≤ late
    → from ≤ early + window → late + window ≤ to
    → run_of course window early ≤ run_of course window late
run_grows course from to window early late held order low high =
    let ends = ran_on course (early + window) (late + window) (omega arith)
    (part course (Some Run) from to (early + window) (late + window) held low high) in
    let begins = ran_within course early late order in
    let whole = ran_within course early (early + window) (omega arith) in
    omega (arith, ends, begins.1, whole.0)

-- an old window has no more than each new one
pub run_old : (course : StateCourse) (from to : ℕ) (windows : Windows) → from ≤ to → HasWindows course from windows
    → IsSteady course (Some Run) from to → windows.window_ns ≤ from
    → IsLeastSoFar course windows.window_ns to windows.least
run_old course from to windows order has held whole =
    least_stays course windows.window_ns from to windows.least order has.least
    (λ s one later. record {
      start = from - windows.window_ns;
      is_one = omega arith;
      most = run_grows course from to windows.window_ns (from - windows.window_ns) s held (omega arith) (omega arith)
          one;
    })

-- no window is whole
pub still_none : (course : StateCourse) (from to : ℕ) (windows : Windows) → from ≤ to → HasWindows course from windows
    → to < windows.window_ns → IsLeastSoFar course windows.window_ns to windows.least
still_none course from to windows order has few =
    least_stays course windows.window_ns from to windows.least order has.least
    (λ s one later. absurd (omega (arith, one)))

-- the first whole window
pub run_first : (course : StateCourse) (from to : ℕ) (windows : Windows) (one : Least) → from ≤ to
    → HasWindows course from windows → IsSteady course (Some Run) from to → from < windows.window_ns
    → windows.window_ns ≤ to
    → one.run_ns ≡ ran_by course from + (windows.window_ns - from) - windows.pause.ran_ns
    → one.begin_ns ≡ windows.pause.since_ns
    → IsLeastSoFar course windows.window_ns to (lesser_of windows.least one)
run_first course from to windows one order has held few whole is begins =
    let window : ℕ = windows.window_ns in
    let here : windows.pause.since_ns ≡ 0 = ⊎_elim
    (λ above. (let far = has.passed above in absurd (omega (arith, far, above))))
    (λ below. omega (arith, below))
    (cases_lt 0 windows.pause.since_ns) in
    let first : one.begin_ns ≡ 0 = begins ∙ here in
    let ran : windows.pause.ran_ns ≡ 0 = has.trail.ran ∙ ap (ran_by course) here in
    let end = ran_on course from window (omega arith)
    (part course (Some Run) from to from window held (omega arith) whole) in
    let zero_more : ran_by course (0 + window) ≡ ran_by course window = ap (ran_by course) (omega arith) in
    let value : one.run_ns ≡ run_of course window 0 = omega (arith, is, ran, end, zero_more) in
    least_more course window from to windows.least one order has.least
    (λ s within later.
    let more = run_grows course from to window 0 s held (omega arith) (omega arith) within in
    omega (arith, more, value))
    (λ less. record {
      within = omega (arith, first, whole);
      run = value ∙ ap (run_of course window) (sym first);
      first = λ s within later before. absurd (omega (arith, first, before));
    })

-- ---- where it waits

-- the last window
pub wait_last : (course : StateCourse) (from to ran : ℕ) (start : Start) (windows : Windows) (one : Least) → from < to
    → HasWindows course from windows → IsSteady course (Some Wait) from to
    → windows.window_ns ≤ to → IsStart course (to - windows.window_ns) start
    → ran ≡ ran_by course from → one.run_ns ≡ ran - start.ran_ns → one.begin_ns ≡ start.since_ns
    → IsLeastSoFar course windows.window_ns to (lesser_of windows.least one)
wait_last course from to ran start windows one order has held whole begun is value begins =
    let window : ℕ = windows.window_ns in
    let last = ran_not course (Some Wait) from to (omega arith) refl held in
    let within = ran_within course (to - window) to (omega arith) in
    let same : ran_by course one.begin_ns ≡ start.ran_ns = ap (ran_by course) begins ∙ sym begun.ran in
    least_more course window from to windows.least one (omega arith) has.least
    (λ s low later.
    let before = ran_within course s (to - window) (omega (arith, low)) in
    let ends = ran_not course (Some Wait) from (s + window) (omega arith) refl
    (part course (Some Wait) from to from (s + window) held (omega arith) low) in
    omega (arith, before.0, ends, begun.idle, is, value))
    (λ less.
    let reached : from ≤ one.begin_ns + window = ⊎_elim
    (λ early.
    (let more = less one.begin_ns (omega arith) in
    let most = ran_within course (one.begin_ns + window) from (omega arith) in
    absurd (omega (arith, more, most.0, same, is, value))))
    (λ behind. behind)
    (cases_lt (one.begin_ns + window) from) in
    let high : one.begin_ns + window ≤ to = omega (arith, begins, begun.before, whole) in
    let there = ran_not course (Some Wait) from (one.begin_ns + window) reached refl
    (part course (Some Wait) from to from (one.begin_ns + window) held (omega arith) high) in
    record {
      within = high;
      run = omega (arith, there, same, is, value);
      first = λ s low later before.
          (let fewer = begun.first s (omega (arith, before, begins)) in
          let ends = ran_not course (Some Wait) from (s + window) (omega arith) refl
          (part course (Some Wait) from to from (s + window) held (omega arith) low) in
          omega (arith, fewer, ends, begun.idle, within.0, last, is, value));
    })

-- ---- what is kept

-- at the begin
pub windows_begun : (course : StateCourse) (windows : Windows) → 0 < windows.window_ns
    → windows.pause.since_ns ≡ 0 → windows.pause.ran_ns ≡ 0 → windows.runs.items ≡ [] → windows.least ≡ None
    → HasWindows course 0 windows
windows_begun course windows some since ran none least = record {
  passed = λ above. absurd (omega (arith, above, since));
  trail = record {
    before = λ above. omega (arith, since);
    ran = ran ∙ sym (ap (ran_by course) since);
    first = λ t high. absurd (omega (arith, high, since));
    stretches = rw (none, since) (omega arith, refl);
  };
  least = rw least some;
}

-- after more time
pub windows_more : (course : StateCourse) (to : ℕ) (old new : Windows) → new.window_ns ≡ old.window_ns
    → HasTrail course to (to - old.window_ns) new → (0 < new.pause.since_ns → old.window_ns ≤ to)
    → IsLeastSoFar course old.window_ns to new.least → HasWindows course to new
windows_more course to old new window trail long least = record {
  passed = λ above.
      (let by = trail.before above in
      let whole = long above in
      omega (arith, by, whole, window));
  trail = record {
    before = λ above. (let by = trail.before above in omega (arith, by));
    ran = trail.ran;
    first = trail.first;
    stretches = trail.stretches;
  };
  least = rw window least;
}

-- a later time up to which it doesn't run
trail_idle : (course : StateCourse) (from to time later : ℕ) (windows : Windows) → from ≤ to
    → ran_by course to ≡ ran_by course from → HasTrail course from time windows → time ≤ later
    → HasTrail course to later windows
trail_idle course from to time later windows order idle has low = record {
  before = λ above. (let by = has.before above in omega arith);
  ran = has.ran;
  first = has.first;
  stretches = stretches_idle course windows.pause.since_ns from to windows.runs.items order idle has.stretches;
}

-- the pause began by the begin of the window that ends at a later time
trail_by : (course : StateCourse) (from to : ℕ) (windows : Windows) → from ≤ to → HasWindows course from windows
    → HasTrail course from (to - windows.window_ns) windows
trail_by course from to windows order has = record {
  before = λ above. (let by = has.passed above in omega arith);
  ran = has.trail.ran;
  first = has.trail.first;
  stretches = has.trail.stretches;
}

-- the trail of what has the same stretches
pub same_trail : (course : StateCourse) (to time : ℕ) (old new : Windows) → new.pause ≡ old.pause → new.runs ≡ old.runs
    → HasTrail course to time old → HasTrail course to time new
same_trail course to time old new paused runs has = record {
  before = rw paused has.before;
  ran = rw paused has.ran;
  first = rw paused has.first;
  stretches = rw (paused, runs) has.stretches;
}

-- no window is whole after a wait
pub wait_few : (course : StateCourse) (from to : ℕ) (old new : Windows) → from < to → HasWindows course from old
    → IsSteady course (Some Wait) from to → to < old.window_ns → new.window_ns ≡ old.window_ns
    → new.pause ≡ old.pause → new.runs ≡ old.runs → new.least ≡ old.least → HasWindows course to new
wait_few course from to old new order has held few window paused runs least =
    let idle = ran_not course (Some Wait) from to (omega arith) refl held in
    windows_more course to old new window
    (same_trail course to (to - old.window_ns) old new paused runs
    (trail_idle course from to (to - old.window_ns) (to - old.window_ns) old (omega arith) idle
    (trail_by course from to old (omega arith) has) (omega arith)))
    (λ above. (let by = has.passed (rw paused at above) in omega arith))
    (rw least (still_none course from to old (omega arith) has few))

-- after a wait
pub wait_more : (course : StateCourse) (from to ran : ℕ) (old begun passed new : Windows) (start : Start) (one : Least)
    → from < to → HasWindows course from old → IsSteady course (Some Wait) from to → ran ≡ ran_by course from
    → old.window_ns ≤ to → begun.pause ≡ old.pause → begun.runs ≡ old.runs → begun.least ≡ old.least
    → begun.window_ns ≡ old.window_ns → passed.window_ns ≡ begun.window_ns → passed.least ≡ begun.least
    → (HasTrail course to (to - old.window_ns) begun → HasTrail course to (to - old.window_ns) passed)
    → (HasTrail course to (to - old.window_ns) passed → IsStart course (to - old.window_ns) start)
    → one.run_ns ≡ ran - start.ran_ns → one.begin_ns ≡ start.since_ns
    → new.window_ns ≡ passed.window_ns → new.pause ≡ passed.pause → new.runs ≡ passed.runs
    → new.least ≡ lesser_of passed.least one → HasWindows course to new
wait_more course from to ran old begun passed new start one order has held is whole paused runs same width window kept
    dropped starts value begins wide pauses run least =
    let idle = ran_not course (Some Wait) from to (omega arith) refl held in
    let trail = dropped (same_trail course to (to - old.window_ns) old begun paused runs
    (trail_idle course from to (to - old.window_ns) (to - old.window_ns) old (omega arith) idle
    (trail_by course from to old (omega arith) has) (omega arith))) in
    windows_more course to old new (wide ∙ window ∙ width)
    (same_trail course to (to - old.window_ns) passed new pauses run trail)
    (λ above. whole)
    (rw (least, kept, same)
    (wait_last course from to ran start old one order has held whole (starts trail) is value begins))

-- after a time in which it runs
pub run_more : (course : StateCourse) (from to time : ℕ) (old pushed new : Windows) (one : Stretch) → from < to
    → HasWindows course from old → IsSteady course (Some Run) from to → one.ran_ns ≡ ran_by course from
    → one.from_ns ≡ from → one.to_ns ≡ to → pushed.window_ns ≡ old.window_ns
    → pushed.pause ≡ old.pause → pushed.runs.items ≡ old.runs.items ++ one ∷ []
    → new.window_ns ≡ pushed.window_ns → new.least ≡ pushed.least
    → time ≡ to - old.window_ns
    → (HasTrail course to time pushed → HasTrail course to time new)
    → IsLeastSoFar course old.window_ns to pushed.least → HasWindows course to new
run_more course from to time old pushed new one order has held ran begins ends window paused runs windows same is_time
    next least =
    let grown = ran_on course from to (omega arith) held in
    let before = trail_by course from to old (omega arith) has in
    let trail : HasTrail course to (to - old.window_ns) pushed = record {
      before = rw paused before.before;
      ran = rw paused before.ran;
      first = rw paused before.first;
      stretches = rw (paused, runs)
          (stretches_more course old.pause.since_ns from to old.runs.items one begins ends ran order grown
          before.stretches);
    } in
    let before_time : HasTrail course to time pushed = rw is_time trail in
    let after_time = next before_time in
    let after : HasTrail course to (to - old.window_ns) new =
    subst (λ x. HasTrail course to x new) is_time after_time in
    windows_more course to old new (windows ∙ window) after
    (λ above. (let by = after.before above in omega (arith, by, above)))
    (rw same least)
