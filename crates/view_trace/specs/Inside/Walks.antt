-- What is kept of marks over which a walk has gone, from the last one back, and of stints that become ticks.
use Rattle.std.specs.Prelude.{◌≡◌, ℕ, ◌-◌, ◌/◌, ◌<◌, ◌^◌, List, length, reverse, slice_index}
use Rattle.tab_core.specs.declared.TheConstants.{MAX_VCPUS}
use Rattle.host_trace.specs.declared.mark.Mark.{Mark}
use Rattle.view_trace.specs.Stints.{next_time, stints_up_to}
use Rattle.view_trace.specs.Traces.{IsFirstShortStint}
use Rattle.view_trace.specs.declared.fault.TraceFault.{TraceFault}
use Rattle.view_trace.specs.declared.fault.TraceFault.TheVariants.{BadLine, Shared, TooLong, Short, NoMemory}
use Rattle.view_trace.specs.declared.stints.TraceStint.{TraceStint}

-- when each vCPU has its first mark of these, and the stretches of these marks, the last one first
pub record HasWalked (end : ℕ) (marks : List Mark) (next : List ℕ) (stints : List TraceStint) : Type 0 where
  pub size : length next ≡ MAX_VCPUS
  pub times : (v : ℕ) → v < MAX_VCPUS → slice_index next v ≡ next_time end marks v
  pub walked : stints ≡ reverse (stints_up_to end marks)

-- the stint's ticks can be counted
abbrev pub IsStintCountable : ℕ → ℕ → TraceStint → Type 0
IsStintCountable begin tick stint =
    ((stint.from_ns - begin) / tick < 2 ^ 32) × ((stint.end_ns - begin) / tick < 2 ^ 32)

-- a stint has no tick of this length of its own, or memory ran out
abbrev pub IsShortFault : ℕ → ℕ → List TraceStint → TraceFault → Type 0
IsShortFault begin tick stints (Short line ns) = (ns ≡ tick) × IsFirstShortStint begin tick stints line
IsShortFault begin tick stints NoMemory = Unit {0}
IsShortFault begin tick stints (BadLine line cause) = ⊥
IsShortFault begin tick stints (Shared line) = ⊥
IsShortFault begin tick stints TooLong = ⊥
