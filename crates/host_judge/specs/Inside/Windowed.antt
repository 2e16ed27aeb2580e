-- What is kept of a vCPU's windows: the least of them, and the stretches in which it ran of late. Times are in ns of
-- running and waiting alone, so the course of what it does has no other state.
use Rattle.std.specs.Prelude.{◌≡◌, ℕ, ◌+◌, ◌-◌, ◌<◌, ◌≤◌, nat_lt, if◌then◌else◌, List, [], ◌∷◌, Option, Some, None, MatchOption}
use Rattle.host_trace.specs.declared.mark.State.TheVariants.{Run}
use Rattle.host_judge.specs.Courses.{StateCourse, time_before}
use Rattle.host_judge.specs.declared.least.Least.{Least}
use Rattle.host_judge.specs.declared.windows.Start.{Start}
use Rattle.host_judge.specs.declared.windows.Stretch.{Stretch}
use Rattle.host_judge.specs.declared.windows.Windows.{Windows}

-- how long it has run before a time
abbrev pub ran_by : StateCourse → ℕ → ℕ
ran_by cut time = time_before cut Run time

-- how long it runs in the window that begins at a time
abbrev pub run_of : StateCourse → ℕ → ℕ → ℕ
run_of cut window start = ran_by cut (start + window) - ran_by cut start

-- the first of the windows that end by a time and have the least, and what it has
pub record IsLeastRun (cut : StateCourse) (window time : ℕ) (least : Least) : Type 0 where
  pub within : least.begin_ns + window ≤ time
  pub lowest : (s : ℕ) → s + window ≤ time → run_of cut window least.begin_ns ≤ run_of cut window s
  pub first : (s : ℕ) → s + window ≤ time → s < least.begin_ns → run_of cut window least.begin_ns < run_of cut window s
  pub run : least.run_ns ≡ run_of cut window least.begin_ns

-- that, or none where no window ends by then
abbrev pub IsLeastSoFar : StateCourse → ℕ → ℕ → Option Least → Type 0
IsLeastSoFar cut window time least = MatchOption least (time < window) (IsLeastRun cut window time)

-- the lesser of the least and a window
abbrev pub lesser_of : Option Least → Least → Option Least
lesser_of None window = Some window
lesser_of (Some least) window = Some (if nat_lt window.run_ns least.run_ns then window else least)

-- a stretch of running, before which it hasn't run since a time
pub record IsStretch (cut : StateCourse) (from : ℕ) (stretch : Stretch) : Type 0 where
  pub behind : from ≤ stretch.from_ns
  pub idle : ran_by cut stretch.from_ns ≡ ran_by cut from
  pub some : stretch.from_ns < stretch.to_ns
  pub ran : stretch.ran_ns ≡ ran_by cut stretch.from_ns
  pub whole : ran_by cut stretch.to_ns ≡ stretch.ran_ns + (stretch.to_ns - stretch.from_ns)

-- the stretches in which it ran from a time to another
abbrev pub AreStretches : StateCourse → ℕ → ℕ → List Stretch → Type 0
AreStretches cut from to [] = (from ≤ to) × (ran_by cut to ≡ ran_by cut from)
AreStretches cut from to (stretch ∷ rest) =
    IsStretch cut from stretch × AreStretches cut stretch.to_ns to rest

-- the first of the stretches ends after a time
abbrev pub IsAhead : ℕ → List Stretch → Type 0
IsAhead time [] = Unit {0}
IsAhead time (stretch ∷ rest) = time < stretch.to_ns

-- since then it doesn't run before a time, and at each time before that it had run less
pub record IsStart (cut : StateCourse) (time : ℕ) (start : Start) : Type 0 where
  pub before : start.since_ns ≤ time
  pub ran : start.ran_ns ≡ ran_by cut start.since_ns
  pub idle : ran_by cut time ≡ start.ran_ns
  pub first : (t : ℕ) → t < start.since_ns → ran_by cut t < start.ran_ns

-- the stretches up to a time since the pause, which began by another unless it is the first
pub record HasTrail (cut : StateCourse) (to time : ℕ) (windows : Windows) : Type 0 where
  pub before : 0 < windows.pause.since_ns → windows.pause.since_ns ≤ time
  pub ran : windows.pause.ran_ns ≡ ran_by cut windows.pause.since_ns
  pub first : (t : ℕ) → t < windows.pause.since_ns → ran_by cut t < windows.pause.ran_ns
  pub stretches : AreStretches cut windows.pause.since_ns to windows.runs.items

-- all windows that end by a time are counted
pub record HasWindows (cut : StateCourse) (time : ℕ) (windows : Windows) : Type 0 where
  pub passed : 0 < windows.pause.since_ns → windows.pause.since_ns + windows.window_ns ≤ time
  pub trail : HasTrail cut time time windows
  pub least : IsLeastSoFar cut windows.window_ns time windows.least
