-- What is shown of a host's trace, and why another isn't drawn.
use Rattle.std.specs.Prelude.{◌≡◌, ℕ, ◌-◌, ◌/◌, ◌<◌, ◌≤◌, ◌^◌, ◌==◌, All, Bool, true, false, if◌then◌else◌, find, List, [], ◌∷◌, ◌++◌, map, nat_lt, Option, Some, None}
use Rattle.std.specs.List.{list_any}
use Rattle.script_doc.specs.Statements.{is_skipped}
use Rattle.host_trace.specs.TraceLines.{trace_rows}
use Rattle.host_trace.specs.declared.mark.Mark.{Mark}
use Rattle.view_doc.specs.declared.view.Stretch.{Stretch}
use Rattle.view_doc.specs.declared.view.Use.TheVariants.{Slot}
use Rattle.view_trace.specs.Drawable.{AreDrawable, IsFirstUndrawn}
use Rattle.view_trace.specs.Stints.{AreClear, IsStintClash, trace_begin, trace_span, trace_stints}
use Rattle.view_trace.specs.declared.fault.TraceFault.{TraceFault}
use Rattle.view_trace.specs.declared.fault.TraceFault.TheVariants.{BadLine, Shared, TooLong, Short, NoMemory}
use Rattle.view_trace.specs.declared.trace.HostTrace.{HostTrace}
use Rattle.view_trace.specs.declared.stints.TraceStint.{TraceStint}

-- the first of the lines that says something has a comma
abbrev pub is_host_trace : List (List ℕ) → Bool
is_host_trace [] = false
is_host_trace (line ∷ lines) = if is_skipped line then is_host_trace lines else list_any (λ byte. byte == 44) line

-- ---- ticks

-- so many ns have less than 2^32 ticks of this many ns
abbrev pub fits : ℕ → ℕ → Bool
fits span tick = nat_lt (span / tick) (2 ^ 32)

-- how many ns a tick has where so many are drawn: the least power of ten that serves
abbrev pub trace_tick : ℕ → Option ℕ
trace_tick span = find (fits span) (1 ∷ 10 ∷ 100 ∷ 1000 ∷ 10000 ∷ [])

-- a stint as ticks from a time on, in a slot of its vCPU
abbrev pub stretch_of : ℕ → ℕ → TraceStint → Stretch
stretch_of begin tick stint = record {
  core = stint.cpu;
  from = (stint.from_ns - begin) / tick;
  end = (stint.end_ns - begin) / tick;
  used = 0;
  seen = 0;
  by = Slot stint.vcpu;
}

-- each has a tick
abbrev pub AreLasting : List Stretch → Type 0
AreLasting stretches = All (λ stretch. stretch.from < stretch.end) stretches

-- ---- what is shown

-- marks of vCPUs of these names are shown so: each stint is, and no two of a CPU overlap
pub record ShowsMarks (names : List (List ℕ)) (marks : List Mark) (trace : HostTrace) : Type 0 where
  pub cores : trace.view.cores ≡ 0
  pub run : trace.view.is_run ≡ true
  pub named : trace.view.names.items ≡ names
  pub tasks : trace.view.tasks.items ≡ []
  pub slots : trace.view.slots.items ≡ []
  pub entries : trace.view.entries.items ≡ []
  pub clear : AreClear [] (trace_stints marks)
  pub tick : trace_tick (trace_span marks) ≡ Some trace.tick_ns
  pub stints : trace.view.stints.items ≡ map (stretch_of (trace_begin marks) trace.tick_ns) (trace_stints marks)
  pub lasting : AreLasting trace.view.stints.items
  pub ends : trace.end ≡ trace_span marks / trace.tick_ns

-- the bytes are a trace that is shown so
pub record IsDrawn (bytes : List ℕ) (trace : HostTrace) : Type 0 where
  pub names : List (List ℕ)
  pub marks : List Mark
  pub drawable : AreDrawable names (trace_rows bytes) marks
  pub shows : ShowsMarks names marks trace

-- ---- why it isn't

-- a stint has no tick of its own
abbrev pub IsShortStint : ℕ → ℕ → TraceStint → Type 0
IsShortStint begin tick stint = (stretch_of begin tick stint).end ≤ (stretch_of begin tick stint).from

-- the first stint that has none is from the line of this number on
pub record IsFirstShortStint (begin tick : ℕ) (stints : List TraceStint) (line : ℕ) : Type 0 where
  pub front : List TraceStint
  pub stint : TraceStint
  pub back : List TraceStint
  pub whole : stints ≡ front ++ stint ∷ back
  pub lasting : AreLasting (map (stretch_of begin tick) front)
  pub short : IsShortStint begin tick stint
  pub at : stint.line ≡ line

-- each line can be drawn, and this holds of what they say
pub record IsOfMarks (bytes : List ℕ) (holds : List Mark → Type 0) : Type 0 where
  pub names : List (List ℕ)
  pub marks : List Mark
  pub drawable : AreDrawable names (trace_rows bytes) marks
  pub fault : holds marks

-- no two on a CPU overlap, and the trace is too long for ticks
pub record HasNoTick (marks : List Mark) : Type 0 where
  pub clear : AreClear [] (trace_stints marks)
  pub ticks : trace_tick (trace_span marks) ≡ None

-- no two on a CPU overlap, a tick is so long, and a stint is shorter
pub record HasShort (marks : List Mark) (line tick : ℕ) : Type 0 where
  pub clear : AreClear [] (trace_stints marks)
  pub ticks : trace_tick (trace_span marks) ≡ Some tick
  pub first : IsFirstShortStint (trace_begin marks) tick (trace_stints marks) line

-- why the bytes aren't drawn
abbrev pub HasTraceFault : List ℕ → TraceFault → Type 0
HasTraceFault bytes (BadLine line cause) = IsFirstUndrawn (trace_rows bytes) line cause
HasTraceFault bytes (Shared line) = IsOfMarks bytes (λ marks. IsStintClash (trace_stints marks) line)
HasTraceFault bytes TooLong = IsOfMarks bytes HasNoTick
HasTraceFault bytes (Short line tick) = IsOfMarks bytes (λ marks. HasShort marks line tick)
HasTraceFault bytes NoMemory = Unit {0}
