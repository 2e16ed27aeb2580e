-- Stretches of time that hold a window of running and waiting, and how long a vCPU runs in each. What it was blocked in
-- between is cut out.
-- Source: a reservation's share is that of CPU reserves (Mercer, Savage and Tokuda, "Processor capacity reserves", 1994):
-- a part of the time in which there is something to run.
use Rattle.std.specs.Prelude.{◌≡◌, ℕ, ◌+◌, ◌*◌, ◌/◌, ◌<◌, ◌≤◌, Bool, true, false, if◌then◌else◌, Option, Some, None, MatchOption}
use Rattle.tab_core.specs.Sums.{total}
use Rattle.tab_core.specs.declared.TheConstants.{WHOLE_PPM}
use Rattle.host_trace.specs.declared.mark.State.{State}
use Rattle.host_trace.specs.declared.mark.State.TheVariants.{Run, Wait, Block}
use Rattle.host_judge.specs.Courses.{StateCourse, time_between}
use Rattle.host_judge.specs.declared.report.LeastShare.{LeastShare}

-- a vCPU in this state runs or waits to run
abbrev pub is_runnable : Option State → Bool
is_runnable (Some Run) = true
is_runnable (Some Wait) = true
is_runnable (Some Block) = false
is_runnable None = false

-- how many of the ns before a time a vCPU runs or waits
abbrev pub runnable_before : StateCourse → ℕ → ℕ
runnable_before course time = total (λ t. if is_runnable (course t) then 1 else 0) time

-- the stretch from a time to another ends by a third and begins with running or waiting, of which it holds so many ns
pub record IsWindow (course : StateCourse) (window time start end : ℕ) : Type 0 where
  pub within : end ≤ time
  pub begins : is_runnable (course start) ≡ true
  pub holds : runnable_before course start + window ≡ runnable_before course end

-- how many ns a vCPU runs in the stretch
abbrev pub run_in : StateCourse → ℕ → ℕ → ℕ
run_in course start end = time_between course Run start end

-- no window that ends by a time has less, and each that begins earlier has more
pub record IsLeastWindow (course : StateCourse) (window time start end : ℕ) : Type 0 where
  pub is_one : IsWindow course window time start end
  pub least : (s e : ℕ) → IsWindow course window time s e → run_in course start end ≤ run_in course s e
  pub first : (s e : ℕ) → IsWindow course window time s e → s < start → run_in course start end < run_in course s e

-- the share of a window of which so much was run, in parts per million and rounded down
abbrev pub window_share : ℕ → ℕ → ℕ
window_share run window = run * WHOLE_PPM / window

-- the least share of all windows that end by a time, and when the first that has it begins
pub record IsLeastWindowShare (course : StateCourse) (window time : ℕ) (least : LeastShare) : Type 0 where
  pub end : ℕ
  pub start : IsLeastWindow course window time least.at_ns end
  pub share : least.share_ppm ≡ window_share (run_in course least.at_ns end) window

-- that, or none where there is no window
abbrev pub IsLeastWindowShareIfAny : StateCourse → ℕ → ℕ → Option LeastShare → Type 0
IsLeastWindowShareIfAny course window time least =
    MatchOption least ((s e : ℕ) → IsWindow course window time s e → ⊥) (IsLeastWindowShare course window time)
