-- What is kept of one vCPU: all before a time is counted.
use Rattle.std.specs.Prelude.{◌≡◌, ℕ, ◌+◌, ◌<◌, ◌≤◌, nat_le, if◌then◌else◌, List, Option, Some, None, MatchOption}
use Rattle.host_trace.specs.declared.mark.Mark.{Mark}
use Rattle.host_trace.specs.declared.mark.State.TheVariants as state
use Rattle.host_judge.specs.Courses.{IsSteady, StateCourse, time_before}
use Rattle.host_judge.specs.Inside.Placed.{HasWindowsOf}
use Rattle.host_judge.specs.Traces.{state_at, told_at}
use Rattle.host_judge.specs.Waits.{IsLongest, late_before, waited_until}
use Rattle.host_judge.specs.declared.report.LongestWait.{LongestWait}
use Rattle.host_judge.specs.declared.times.Times.{Times}
use Rattle.host_judge.specs.declared.tracker.Tracker.{Tracker}
use Rattle.host_judge.specs.declared.waits.Begun.{Begun}
use Rattle.host_judge.specs.declared.waits.Waits.{Waits}
use Rattle.host_judge.specs.declared.windows.Windows.{Windows}

-- the times in the states before a time
pub record HasTimes (course : StateCourse) (time : ℕ) (times : Times) : Type 0 where
  pub run : times.run_ns ≡ time_before course state.Run time
  pub wait : times.wait_ns ≡ time_before course state.Wait time
  pub block : times.block_ns ≡ time_before course state.Block time

-- the wait that goes on at a time, with the CPU that was named last when it began
pub record IsOngoingWait (course : StateCourse) (told : ℕ → Option ℕ) (time : ℕ) (begun : Begun) : Type 0 where
  pub some : begun.at_ns < time
  pub lasts : begun.at_ns + waited_until course time ≡ time
  pub cpu : begun.cpu ≡ told begun.at_ns

-- the wait that goes on at a time, if one does
abbrev pub IsCurrent : StateCourse → (ℕ → Option ℕ) → ℕ → Option Begun → Type 0
IsCurrent course told time begun = MatchOption begun (waited_until course time ≡ 0) (IsOngoingWait course told time)

-- the waits before a time
pub record HasWaits (course : StateCourse) (told : ℕ → Option ℕ) (time : ℕ) (waits : Waits) : Type 0 where
  pub current : IsCurrent course told time waits.current
  pub longest : IsLongest course told time waits.longest
  pub late : waits.late ≡ late_before course waits.latency_ns time

-- a wait goes on, or begins here with this CPU
abbrev pub BeginsOrGoesOn : Option Begun → ℕ → Option ℕ → Begun → Type 0
BeginsOrGoesOn current from cpu begun =
    MatchOption current ((begun.at_ns ≡ from) × (begun.cpu ≡ cpu)) (λ held. begun ≡ held)

-- the longer of a wait and the one that has gone on for so long
abbrev pub longer_of : Option LongestWait → Begun → ℕ → Option LongestWait
longer_of None begun ns = Some (record { ns = ns; at_ns = begun.at_ns; cpu = begun.cpu })
longer_of (Some wait) begun ns =
    if nat_le ns wait.ns then Some wait else Some (record { ns = ns; at_ns = begun.at_ns; cpu = begun.cpu })

-- all of one vCPU before a time
pub record HasSettled (course : StateCourse) (told : ℕ → Option ℕ) (time : ℕ) (times : Times) (waits : Waits)
    (windows : Windows) : Type 0 where
  pub in_states : HasTimes course time times
  pub in_waits : HasWaits course told time waits
  pub in_windows : HasWindowsOf course time windows

-- two functions of time agree before a time
pub record AgreeBefore {X : Type 0} (time : ℕ) (one two : ℕ → X) : Type 0 where
  pub agree : (t : ℕ) → t < time → one t ≡ two t

-- a vCPU has these marks: all before the last of them is counted, and from then on it does what that says
pub record IsTracked (marks : List Mark) (tracker : Tracker) : Type 0 where
  pub state : (t : ℕ) → tracker.since_ns ≤ t → state_at marks t ≡ tracker.state
  pub cpu : (t : ℕ) → tracker.since_ns ≤ t → told_at marks t ≡ tracker.cpu
  pub settled : (course : StateCourse) (told : ℕ → Option ℕ) → AgreeBefore tracker.since_ns course (state_at marks)
      → AgreeBefore tracker.since_ns told (told_at marks)
      → HasSettled course told tracker.since_ns tracker.times tracker.waits tracker.windows

-- counting goes on from the tracker's time to another
pub record CountsOn (old : Tracker) (to : ℕ) (new : Tracker) : Type 0 where
  pub counts : (course : StateCourse) (told : ℕ → Option ℕ)
      → HasSettled course told old.since_ns old.times old.waits old.windows → IsSteady course old.state old.since_ns to
      → (old.since_ns < to → told old.since_ns ≡ old.cpu) → HasSettled course told to new.times new.waits new.windows
