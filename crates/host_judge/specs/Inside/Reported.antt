-- What is reported of vCPUs, from what is kept of them.
use Rattle.std.specs.Prelude.{◌≡◌, ℕ, ◌==◌, Bool, true, if◌then◌else◌, nat_le, ◌≤◌, List, MatchOption, Option, Some, None, slice_get}
use Rattle.tab_core.specs.declared.reservation.Reservation.{Reservation}
use Rattle.tab_core.specs.declared.vcpu.Vcpu.{Vcpu}
use Rattle.host_trace.specs.declared.mark.Mark.{Mark}
use Rattle.host_judge.specs.Courses.{StateCourse}
use Rattle.host_judge.specs.Inside.Settled.{IsTracked}
use Rattle.host_judge.specs.Owed.{due}
use Rattle.host_judge.specs.Reports.{IsVcpuReport}
use Rattle.host_judge.specs.Traces.{state_at, told_at}
use Rattle.host_judge.specs.Windows.{IsLeastWindow, IsWindow, run_in, window_share}
use Rattle.host_judge.specs.declared.owed.Owed.{Owed}
use Rattle.host_judge.specs.declared.report.LeastShare.{LeastShare}
use Rattle.host_judge.specs.declared.report.LongestWait.{LongestWait}
use Rattle.host_judge.specs.declared.report.VcpuReport.{VcpuReport}
use Rattle.host_judge.specs.declared.tracker.Tracker.{Tracker}
use Rattle.host_judge.specs.declared.least.Least.{Least}

-- how long waits may be, and 0 where nothing is promised
abbrev pub latency_in : Option Reservation → ℕ
latency_in None = 0
latency_in (Some reservation) = reservation.latency_ns

-- that, and how long each window is
abbrev pub sold_terms : ℕ → Vcpu → ℕ × ℕ
sold_terms window vcpu = (latency_in vcpu.reservation, window)

-- a count, where something is promised
abbrev pub late_if : Option Reservation → ℕ → Option ℕ
late_if None late = None
late_if (Some reservation) late = Some late

-- whether a longest wait is within a latency
abbrev pub waits_kept : ℕ → Option LongestWait → Bool
waits_kept latency None = true
waits_kept latency (Some wait) = nat_le wait.ns latency

-- whether waits are as promised, of a vCPU of which so many ns are known
abbrev pub wait_answer : Option Reservation → ℕ → Option LongestWait → Option Bool
wait_answer None seen longest = Some true
wait_answer (Some reservation) seen longest =
    if seen == 0 then None else Some (waits_kept reservation.latency_ns longest)

-- whether the least run time of a window is as much as is owed
abbrev pub least_answer : ℕ → Option Least → Option Bool
least_answer due None = None
least_answer due (Some least) = if due == 0 then None else Some (nat_le due least.run_ns)

-- whether shares are as promised
abbrev pub share_answer : Option Owed → ℕ → Option Least → Option Bool
share_answer None window least = Some true
share_answer (Some owed) window least = least_answer (due owed window) least

-- no window runs for longer than it lasts
abbrev pub LeastFits : Option Least → ℕ → Type 0
LeastFits None window = Unit {0}
LeastFits (Some least) window = least.run_ns ≤ window

-- the share of the least run time
abbrev pub least_share : ℕ → Option Least → Option LeastShare
least_share window None = None
least_share window (Some least) =
    Some (record { share_ppm = window_share least.run_ns window; at_ns = least.at_ns })

-- whatever marks the vCPU has, this is reported of them
pub record IsReportBy (window : ℕ) (tracker : Tracker) (reservation : Option Reservation) (owed : Option Owed) (time : ℕ)
    (report : VcpuReport) : Type 0 where
  pub told : (marks : List Mark) → IsTracked marks tracker
      → IsVcpuReport reservation owed window (state_at marks) (told_at marks) time report

-- this is reported of each vCPU
abbrev pub AreReports : ℕ → List Tracker → List Vcpu → List (Option Owed) → ℕ → List VcpuReport → Type 0
AreReports window trackers vcpus owed time reports = (v : ℕ) (tracker : Tracker) (vcpu : Vcpu) (owes : Option Owed)
    (report : VcpuReport)
    → slice_get trackers v ≡ Some tracker → slice_get vcpus v ≡ Some vcpu → slice_get owed v ≡ Some owes
    → slice_get reports v ≡ Some report → IsReportBy window tracker vcpu.reservation owes time report

-- the first of the windows that have the least, if there is one, and what it has
pub record IsLeastOf (course : StateCourse) (window time : ℕ) (least : Least) : Type 0 where
  pub end : ℕ
  pub is : IsLeastWindow course window time least.at_ns end
  pub run : least.run_ns ≡ run_in course least.at_ns end

-- that, or none where there is no window
abbrev pub IsLeastIfAny : StateCourse → ℕ → ℕ → Option Least → Type 0
IsLeastIfAny course window time least = MatchOption least ((s e : ℕ) → IsWindow course window time s e → ⊥)
    (IsLeastOf course window time)
