-- What is reported of a host by its trace.
use Rattle.std.specs.Prelude.{◌≡◌, ℕ, ◌+◌, ◌<◌, ◌≤◌, ◌↔◌, [], Bool, true, IsTrue, List, length, Option, Some, None, slice_get}
use Rattle.tab_core.specs.declared.reservation.Reservation.{Reservation}
use Rattle.tab_core.specs.declared.vcpu.Vcpu.{Vcpu}
use Rattle.tab_words.specs.Lines.{lines_of}
use Rattle.host_trace.specs.TraceLines.{AreMarksOf, rows_from}
use Rattle.host_trace.specs.declared.mark.Mark.{Mark}
use Rattle.host_trace.specs.declared.mark.State.TheVariants as state
use Rattle.host_judge.specs.Clashes.{IsCountOf, falls, is_doubled, is_unknown, lines_where, shares_cpu}
use Rattle.host_judge.specs.Courses.{StateCourse, time_before}
use Rattle.host_judge.specs.Owed.{due}
use Rattle.host_judge.specs.Traces.{end_of, marks_of, state_at, told_at, trace_of}
use Rattle.host_judge.specs.Waits.{IsLongest, late_before, waited_until}
use Rattle.host_judge.specs.Windows.{IsLeastWindowShareIfAny, IsWindow, run_in, window_share}
use Rattle.host_judge.specs.declared.owed.Owed.{Owed}
use Rattle.host_judge.specs.declared.report.Report.{Report}
use Rattle.host_judge.specs.declared.report.VcpuReport.{VcpuReport}
use Rattle.vcpu_names.specs.Names.{names_of}

-- ---- waits

-- how many waits are longer than the latency, where one is promised
abbrev pub late_in : Option Reservation → StateCourse → ℕ → Option ℕ
late_in None course time = None
late_in (Some reservation) course time = Some (late_before course reservation.latency_ns time)

-- of how many ns before a time it is known what a vCPU does
abbrev pub seen_before : StateCourse → ℕ → ℕ
seen_before course time =
    time_before course state.Run time + time_before course state.Wait time + time_before course state.Block time

-- each wait is within a latency
abbrev pub KeepsWaits : ℕ → StateCourse → ℕ → Type 0
KeepsWaits latency course time = (t : ℕ) → t ≤ time → waited_until course t ≤ latency

-- whether the waits are as promised: yes where nothing is promised, not judged where nothing is known
abbrev pub IsWaitAnswer : Option Reservation → StateCourse → ℕ → Option Bool → Type 0
IsWaitAnswer None course time answer = answer ≡ Some true
IsWaitAnswer (Some reservation) course time None = seen_before course time ≡ 0
IsWaitAnswer (Some reservation) course time (Some kept) =
    (0 < seen_before course time) × (IsTrue kept ↔ KeepsWaits reservation.latency_ns course time)

-- ---- shares

-- something is owed of a window, and there is one
pub record IsShareJudged (owed : Owed) (window : ℕ) (course : StateCourse) (time : ℕ) : Type 0 where
  pub some : 0 < due owed window
  pub start : ℕ
  pub end : ℕ
  pub is_one : IsWindow course window time start end

-- the vCPU runs in each window for what is owed
abbrev pub KeepsShare : Owed → ℕ → StateCourse → ℕ → Type 0
KeepsShare owed window course time =
    (start end : ℕ) → IsWindow course window time start end → due owed window ≤ run_in course start end

-- whether the share is as promised: yes where nothing is owed, not judged where no window says it
abbrev pub IsShareAnswer : Option Owed → ℕ → StateCourse → ℕ → Option Bool → Type 0
IsShareAnswer None window course time answer = answer ≡ Some true
IsShareAnswer (Some owed) window course time None = IsShareJudged owed window course time → ⊥
IsShareAnswer (Some owed) window course time (Some kept) =
    IsShareJudged owed window course time × (IsTrue kept ↔ KeepsShare owed window course time)

-- the share of a window that is owed, in parts per million and rounded down
abbrev pub owed_share : Option Owed → ℕ → Option ℕ
owed_share None window = None
owed_share (Some owed) window = Some (window_share (due owed window) window)

-- ---- the whole

-- a vCPU of this reservation, which is owed so much, did this up to a time, with windows of so many ns, and so much of
-- its CPUs was named
pub record IsVcpuReport (reservation : Option Reservation) (owed : Option Owed) (window : ℕ) (course : StateCourse)
    (told : ℕ → Option ℕ) (time : ℕ) (report : VcpuReport) : Type 0 where
  pub run : report.run_ns ≡ time_before course state.Run time
  pub wait : report.wait_ns ≡ time_before course state.Wait time
  pub block : report.block_ns ≡ time_before course state.Block time
  pub longest : IsLongest course told time report.longest
  pub late : report.late ≡ late_in reservation course time
  pub least : IsLeastWindowShareIfAny course window time report.least
  pub owed_ppm : report.owed_ppm ≡ owed_share owed window
  pub waits : IsWaitAnswer reservation course time report.waits_kept
  pub share : IsShareAnswer owed window course time report.share_kept

-- the vCPUs have these marks, and are owed so much
pub record IsReportOfMarks (window : ℕ) (vcpus : List Vcpu) (owed : List (Option Owed)) (marks : List Mark)
    (report : Report) : Type 0 where
  pub ends : report.end_ns ≡ end_of marks
  pub lasts : report.window_ns ≡ window
  pub falling : IsCountOf (lines_where falls [] marks) report.falls
  pub unknown : IsCountOf (lines_where is_unknown [] (trace_of marks)) report.unknown
  pub shared : IsCountOf (lines_where shares_cpu [] marks) report.shared
  pub doubled : IsCountOf (lines_where is_doubled [] marks) report.doubled
  pub many : length report.vcpus.items ≡ length vcpus
  pub each : (v : ℕ) (vcpu : Vcpu) (owes : Option Owed) (one : VcpuReport) → slice_get vcpus v ≡ Some vcpu
      → slice_get owed v ≡ Some owes → slice_get report.vcpus.items v ≡ Some one
      → IsVcpuReport vcpu.reservation owes window (state_at (marks_of v (trace_of marks)))
      (told_at (marks_of v (trace_of marks))) (end_of marks) one

-- the bytes are a trace of which this is reported
pub record IsJudgementOf (window : ℕ) (vcpus : List Vcpu) (owed : List (Option Owed)) (bytes : List ℕ) (report : Report)
    : Type 0 where
  pub marks : List Mark
  pub said : AreMarksOf (names_of vcpus) (rows_from 1 (lines_of bytes)) marks
  pub told : IsReportOfMarks window vcpus owed marks report
