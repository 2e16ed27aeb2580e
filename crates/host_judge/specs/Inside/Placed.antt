-- Where in a trace the stretches of running and waiting are that are kept of a vCPU, from which all else is cut out.
use Rattle.std.specs.Prelude.{◌≡◌, ℕ, ◌+◌, ◌-◌, ◌<◌, true, List, [], ◌∷◌, Option, Some, None, MatchOption}
use Rattle.host_judge.specs.Courses.{StateCourse}
use Rattle.host_judge.specs.Inside.Windowed.{HasWindows}
use Rattle.host_judge.specs.Windows.{is_runnable, runnable_before}
use Rattle.host_judge.specs.declared.least.Least.{Least}
use Rattle.host_judge.specs.declared.windows.Stretch.{Stretch}
use Rattle.host_judge.specs.declared.windows.Windows.{Windows}

-- a course without what is neither running nor waiting: each ns of these has in it the place of their count before
pub record IsCut (course : StateCourse) (time : ℕ) (cut : StateCourse) : Type 0 where
  pub at : (t : ℕ) → t < time → is_runnable (course t) ≡ true → cut (runnable_before course t) ≡ course t

-- at a time a vCPU runs or waits, and so long had it done so before
pub record IsPlace (course : StateCourse) (time place : ℕ) : Type 0 where
  pub runnable : is_runnable (course time) ≡ true
  pub before : runnable_before course time ≡ place

-- the ns from a time on, as many as a count, are such places one after the other
pub record IsPlacedOn (course : StateCourse) (time place ns : ℕ) : Type 0 where
  pub each : (more : ℕ) → more < ns → IsPlace course (time + more) (place + more)

-- the times of the stretches after a pause that began at a place
abbrev pub ArePlaced : StateCourse → ℕ → List Stretch → Type 0
ArePlaced course since [] = Unit {0}
ArePlaced course since (stretch ∷ rest) = IsPlace course stretch.paused_ns since
    × IsPlacedOn course stretch.at_ns stretch.from_ns (stretch.to_ns - stretch.from_ns)
    × ArePlaced course stretch.to_ns rest

-- where the last of the stretches ends, before which a pause began at a place
abbrev pub end_of_runs : ℕ → List Stretch → ℕ
end_of_runs since [] = since
end_of_runs since (stretch ∷ rest) = end_of_runs stretch.to_ns rest

-- the time of the first ns that comes after the place; none where that is where all ends
abbrev pub IsPlaceIfAny : StateCourse → ℕ → ℕ → Option ℕ → Type 0
IsPlaceIfAny course place end time = MatchOption time (place ≡ end) (λ at. IsPlace course at place)

-- when the least window begins
abbrev pub HasLeastPlace : StateCourse → Option Least → Type 0
HasLeastPlace course None = Unit {0}
HasLeastPlace course (Some least) = IsPlace course least.at_ns least.begin_ns

-- the times of all that is kept, up to a place
pub record HasPlaces (course : StateCourse) (end : ℕ) (windows : Windows) : Type 0 where
  pub runs : ArePlaced course windows.pause.since_ns windows.runs.items
  pub waits : IsPlaceIfAny course (end_of_runs windows.pause.since_ns windows.runs.items) end windows.waits_at
  pub least : HasLeastPlace course windows.least

-- all windows that end by a time are counted, and it is known when those began that are kept
pub record HasWindowsOf (course : StateCourse) (time : ℕ) (windows : Windows) : Type 0 where
  pub counted : (cut : StateCourse) → IsCut course time cut → HasWindows cut (runnable_before course time) windows
  pub placed : HasPlaces course (runnable_before course time) windows
