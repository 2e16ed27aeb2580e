-- The trace of a run as the trace of a host.
-- Source: the forms of both texts, which are this project's own. A vCPU that doesn't run is taken to wait, since the
-- stints of a run don't say when a vCPU is blocked.
use Rattle.std.specs.Prelude.{ℕ, ◌+◌, ◌*◌, ◌++◌, Bool, true, false, if◌then◌else◌, List, [], ◌∷◌, flat_map, Some, None}
use Rattle.std.specs.List.Sorted.{IsNonDecreasingBy, IsPermutation}
use Rattle.host_trace.specs.declared.mark.State.{State}
use Rattle.host_trace.specs.declared.mark.State.TheVariants.{Run, Wait}
use Rattle.trace_text.specs.TraceTexts.{trace_head, trace_line}
use Rattle.vcpu_names.specs.Names.{name_at}
use Rattle.view_doc.specs.declared.view.Stretch.{Stretch}
use Rattle.view_doc.specs.declared.view.Use.{Use}
use Rattle.view_doc.specs.declared.view.Use.TheVariants.{Idle, Slot, Shared}
use Rattle.view_report.specs.declared.said.VcpuRan.{VcpuRan}
use Rattle.run_trace.specs.declared.turn.Turn.{Turn}

-- ---- where vCPUs begin to run and stop

-- the turns of a vCPU that runs in a stint: it begins where the stint begins, and stops where that ends
abbrev pub turns_between : Stretch → ℕ → List Turn
turns_between s vcpu =
    record { tick = s.from; vcpu = vcpu; core = s.core; begins = true }
    ∷ record { tick = s.end; vcpu = vcpu; core = s.core; begins = false } ∷ []

-- the turns of whoever has a stint; if nobody has it there is none
abbrev pub turns_by : Stretch → Use → List Turn
turns_by s Idle = []
turns_by s (Slot vcpu) = turns_between s vcpu
turns_by s (Shared vcpu) = turns_between s vcpu

-- the turns of a stint
abbrev pub turns_of : Stretch → List Turn
turns_of s = turns_by s s.by

-- the place of a turn in the order of time: of one tick, a vCPU that stops is before one that begins
abbrev pub turn_place : Turn → ℕ
turn_place turn = turn.tick * 2 + (if turn.begins then 1 else 0)

-- these are the turns of all stints, in the order of time
pub record AreTurnsOf (stints : List Stretch) (turns : List Turn) : Type 0 where
  pub same : IsPermutation (flat_map turns_of stints) turns
  pub rise : IsNonDecreasingBy turn_place turns

-- ---- lines

-- the line by which a vCPU of the report waits from the start
abbrev pub waits_line : VcpuRan → List ℕ
waits_line ran = trace_line 0 ran.name.now Wait None

-- a vCPU that begins runs, and one that stops waits
abbrev pub turn_state : Bool → State
turn_state true = Run
turn_state false = Wait

-- the line of a turn
abbrev pub turn_line : List (List ℕ) → ℕ → Turn → List ℕ
turn_line names tick_ns turn =
    trace_line (turn.tick * tick_ns) (name_at names turn.vcpu) (turn_state turn.begins) (Some turn.core)

-- the text of a run: the head, then each vCPU of the report waits, then the turns of the vCPUs of these names
abbrev pub run_text : List VcpuRan → List (List ℕ) → ℕ → List Turn → List ℕ
run_text vcpus names tick_ns turns =
    trace_head ++ (flat_map waits_line vcpus ++ flat_map (turn_line names tick_ns) turns)
