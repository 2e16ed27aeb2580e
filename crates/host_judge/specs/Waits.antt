-- Waits: how long a vCPU has been waiting at a time, its longest wait, and how many grew too long.
use Rattle.std.specs.Prelude.{◌≡◌, ℕ, ◌+◌, ◌<◌, ◌≤◌, ◌==◌, if◌then◌else◌, suc, zero, Option, MatchOption}
use Rattle.tab_core.specs.Sums.{total}
use Rattle.host_trace.specs.declared.mark.State.TheVariants.{Wait}
use Rattle.host_judge.specs.Courses.{StateCourse, is_in}
use Rattle.host_judge.specs.declared.report.LongestWait.{LongestWait}

-- how many ns a vCPU has been waiting without an end when a time comes
abbrev pub waited_until : StateCourse → ℕ → ℕ
waited_until course zero = 0
waited_until course (suc t) = if is_in Wait (course t) then waited_until course t + 1 else 0

-- how many waits before a time are longer than so many ns: each has its first ns beyond them once
abbrev pub late_before : StateCourse → ℕ → ℕ → ℕ
late_before course latency time = total (λ t. if waited_until course (suc t) == latency + 1 then 1 else 0) time

-- the wait is the longest before a time, and the first of those that are as long; its CPU is the one that was
-- named last when it began
pub record IsLongestWaitBefore (course : StateCourse) (told : ℕ → Option ℕ) (time : ℕ) (wait : LongestWait) : Type 0 where
  pub some : 0 < wait.ns
  pub within : wait.at_ns + wait.ns ≤ time
  pub lasts : waited_until course (wait.at_ns + wait.ns) ≡ wait.ns
  pub longest : (t : ℕ) → t ≤ time → waited_until course t ≤ wait.ns
  pub first : (t : ℕ) → t < wait.at_ns + wait.ns → waited_until course t < wait.ns
  pub cpu : wait.cpu ≡ told wait.at_ns

-- the longest wait before a time, or none where there is no wait
abbrev pub IsLongest : StateCourse → (ℕ → Option ℕ) → ℕ → Option LongestWait → Type 0
IsLongest course told time wait = MatchOption wait ((t : ℕ) → t ≤ time → waited_until course t ≡ 0)
    (IsLongestWaitBefore course told time)
