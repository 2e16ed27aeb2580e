-- What is kept of a trace.
use Rattle.std.specs.Prelude.{◌≡◌, ℕ, [], List, Some, slice_get}
use Rattle.host_trace.specs.declared.mark.Mark.{Mark}
use Rattle.host_judge.specs.Clashes.{IsCountOf, falls, is_unknown, lines_where}
use Rattle.host_judge.specs.Inside.Clashed.{HasClashes}
use Rattle.host_judge.specs.Inside.Settled.{IsTracked}
use Rattle.host_judge.specs.Traces.{end_of, marks_of, trace_of}
use Rattle.host_judge.specs.declared.judge.Judge.{Judge}
use Rattle.host_judge.specs.declared.tracker.Tracker.{Tracker}

-- how long a vCPU's waits may be, and how long each window is
abbrev pub terms_of : Tracker → ℕ × ℕ
terms_of tracker = (tracker.waits.latency_ns, tracker.windows.window_ns)

-- the marks have been taken
pub record HasJudged (marks : List Mark) (judge : Judge) : Type 0 where
  pub end_ns : judge.end_ns ≡ end_of marks
  pub falls : IsCountOf (lines_where falls [] marks) judge.falls
  pub unknown : IsCountOf (lines_where is_unknown [] (trace_of marks)) judge.unknown
  pub clashes : HasClashes marks judge.clashes
  pub each : (vcpu : ℕ) (tracker : Tracker) → slice_get judge.trackers.items vcpu ≡ Some tracker
      → IsTracked (marks_of vcpu (trace_of marks)) tracker
