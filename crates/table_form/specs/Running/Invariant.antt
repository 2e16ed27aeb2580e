-- What every step of a run keeps.
-- Source: the rules of this project.
use Rattle.std.specs.Prelude.{◌≡◌, ℕ, ◌+◌, ◌*◌, ◌<◌, ◌≤◌, List, Some, length, slice_get, take}
use Rattle.tab_core.specs.Timelines.{HasTimeline}
use Rattle.tab_core.specs.declared.TheConstants.{ROUND}
use Rattle.tab_core.specs.declared.entry.Entry.{Entry}
use Rattle.tab_core.specs.declared.stint.Stint.{Stint}
use Rattle.table_form.specs.Running.Choice.{IsDispatch}
use Rattle.table_form.specs.Running.Courses.{CourseView, tick_at}
use Rattle.table_form.specs.Promises.OneTable.{HasOneTable}
use Rattle.table_form.specs.Running.State.{State, CoreState, IsCore}
use Rattle.table_form.specs.Promises.Fresh.{IsFresh}

-- a clock is within the run, and no posted event is more than the lag later
pub record ClockInvariant (course : CourseView) (rounds posted clock : ℕ) : Type 0 where
  pub in_run : clock ≤ rounds * ROUND
  pub events : (i : ℕ) → i < posted → tick_at course i ≤ clock + course.lag

-- a core has at most one entry for each round of the run, and had seen only posted events in each
pub record EntriesInvariant (rounds posted : ℕ) (entries : List Entry) : Type 0 where
  pub few : length entries ≤ rounds
  pub seen_posted : (r : ℕ) (e : Entry) → slice_get entries r ≡ Some e → e.seen ≤ posted

-- a stint's seen count was posted, and fresh as it began; it runs whom the rules choose, as long as
-- they say
pub record StintInvariant (course : CourseView) (posted c : ℕ) (earlier : List Stint) (s : Stint) : Type 0 where
  pub seen_posted : s.seen ≤ posted
  pub fresh : IsFresh course s.seen s.from
  pub dispatch : IsDispatch course c earlier s

-- each stint of a core is as above, and their seen counts never fall
pub record StintsInvariant (course : CourseView) (posted c : ℕ) (stints : List Stint) : Type 0 where
  pub each : (k : ℕ) (s : Stint) → slice_get stints k ≡ Some s
      → StintInvariant course posted c (take k stints) s
  pub risen : (j k : ℕ) (s t : Stint) → j ≤ k → slice_get stints j ≡ Some s
      → slice_get stints k ≡ Some t → s.seen ≤ t.seen

-- a count seen since the last stint was posted, is fresh for the clock, and at least what the core's
-- stints saw and what the rounds before its clock's used
pub record SightInvariant (course : CourseView) (posted : ℕ) (decided : List ℕ) (core : CoreState)
    (n : ℕ) : Type 0 where
  pub seen_posted : n ≤ posted
  pub fresh : IsFresh course n core.clock
  pub stints : (k : ℕ) (s : Stint) → slice_get core.stints k ≡ Some s → s.seen ≤ n
  pub counts : (r d : ℕ) → slice_get decided r ≡ Some d → (r + 1) * ROUND ≤ core.clock → d ≤ n

-- what is kept of one core: its time without a gap, its clock, entries, stints and last sight
pub record CoreInvariant (course : CourseView) (rounds posted : ℕ) (decided : List ℕ) (c : ℕ)
    (core : CoreState) : Type 0 where
  pub timeline : HasTimeline core.clock core.entries core.stints
  pub clock : ClockInvariant course rounds posted core.clock
  pub entries : EntriesInvariant rounds posted core.entries
  pub stints : StintsInvariant course posted c core.stints
  pub sight : (n : ℕ) → core.seen ≡ Some n → SightInvariant course posted decided core n

-- what is kept of the whole: all cores use one plan in a round, whose count was posted and is fresh
-- at the round's start; what is kept of each core; and clocks that are at most the lag apart
pub record StateInvariant (course : CourseView) (rounds : ℕ) (s : State) : Type 0 where
  pub size : length s.cores ≡ course.cores
  pub table : HasOneTable s
  pub cores : (c : ℕ) (core : CoreState) → IsCore s c core → CoreInvariant course rounds s.posted s.decided c core
  pub fresh : (r d : ℕ) → slice_get s.decided r ≡ Some d → IsFresh course d (r * ROUND)
  pub decided_posted : (r d : ℕ) → slice_get s.decided r ≡ Some d → d ≤ s.posted
  pub posted_most : s.posted ≤ length course.ticks
  pub near : (c d : ℕ) (core other : CoreState) → IsCore s c core → IsCore s d other
      → core.clock ≤ other.clock + course.lag
