-- The stretches of time in which the vCPUs of a trace run on its CPUs.
-- Source: a stretch is a run of sched(7): from the switch to a task up to the next switch, here by the lines of a vCPU.
use Rattle.std.specs.Prelude.{◌≡◌, ℕ, ◌-◌, ◌<◌, ◌≤◌, ◌==◌, Bool, false, if◌then◌else◌, fold, List, [], ◌∷◌, ◌++◌, max, nat_lt, Option, Some, None}
use Rattle.host_trace.specs.declared.mark.Mark.{Mark}
use Rattle.host_trace.specs.declared.mark.State.{State}
use Rattle.host_trace.specs.declared.mark.State.TheVariants.{Run}
use Rattle.view_trace.specs.Drawable.{last_time}
use Rattle.view_trace.specs.declared.stints.TraceStint.{TraceStint}

-- ---- times

-- the time of the first line that says something, and 0 where there is none
abbrev pub trace_begin : List Mark → ℕ
trace_begin [] = 0
trace_begin (mark ∷ marks) = mark.time_ns

-- the time of the last line that says something, and 0 where there is none
abbrev pub end_of_trace : List Mark → ℕ
end_of_trace marks = last_time 0 marks

-- how long the trace lasts
abbrev pub trace_span : List Mark → ℕ
trace_span marks = end_of_trace marks - trace_begin marks

-- ---- stretches

-- whether a line that may name a vCPU names this one
abbrev pub is_of : ℕ → Option ℕ → Bool
is_of vcpu None = false
is_of vcpu (Some other) = other == vcpu

-- when the first of the marks of a vCPU is, or the end where it has none
abbrev pub next_time : ℕ → List Mark → ℕ → ℕ
next_time end [] vcpu = end
next_time end (mark ∷ marks) vcpu = if is_of vcpu mark.vcpu then mark.time_ns else next_time end marks vcpu

-- the stretch from a mark up to a time, if its vCPU runs there and it has a nanosecond
abbrev pub stint_in : ℕ → ℕ → State → Option ℕ → Option ℕ → ℕ → List TraceStint
stint_in line from Run (Some vcpu) (Some cpu) end =
    if nat_lt from end
    then (record { line = line; vcpu = vcpu; cpu = cpu; from_ns = from; end_ns = end }) ∷ []
    else []
stint_in line from _ _ _ end = []

-- the stretch from a mark up to a time, if there is one
abbrev pub stint_at : Mark → ℕ → List TraceStint
stint_at mark end = stint_in mark.line mark.time_ns mark.state mark.vcpu mark.cpu end

-- when the vCPU of a mark has its next
abbrev pub next_of : ℕ → List Mark → Option ℕ → ℕ
next_of end marks None = end
next_of end marks (Some vcpu) = next_time end marks vcpu

-- the stretches of marks up to the end: from each up to the next of its vCPU
abbrev pub stints_up_to : ℕ → List Mark → List TraceStint
stints_up_to end [] = []
stints_up_to end (mark ∷ marks) = stint_at mark (next_of end marks mark.vcpu) ++ stints_up_to end marks

-- the stretches of a whole trace, up to its last line
abbrev pub trace_stints : List Mark → List TraceStint
trace_stints marks = stints_up_to (end_of_trace marks) marks

-- ---- two on one CPU

-- when the last of the stints on a CPU ends, and 0 where there is none
abbrev pub end_on : ℕ → List TraceStint → ℕ
end_on cpu stints = fold (λ end stint. if stint.cpu == cpu then max end stint.end_ns else end) 0 stints

-- after these stints each begins once all that are before it on its CPU have ended
abbrev pub AreClear : List TraceStint → List TraceStint → Type 0
AreClear before [] = Unit {0}
AreClear before (stint ∷ stints) =
    (end_on stint.cpu before ≤ stint.from_ns) × AreClear (before ++ stint ∷ []) stints

-- the first that begins before is from the line of this number on
pub record IsStintClash (stints : List TraceStint) (line : ℕ) : Type 0 where
  pub front : List TraceStint
  pub stint : TraceStint
  pub back : List TraceStint
  pub whole : stints ≡ front ++ stint ∷ back
  pub clear : AreClear [] front
  pub taken : stint.from_ns < end_on stint.cpu front
  pub at : stint.line ≡ line
