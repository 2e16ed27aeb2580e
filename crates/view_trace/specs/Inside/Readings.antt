-- What is kept of a trace whose lines are read.
use Rattle.std.specs.Prelude.{◌≡◌, ℕ, All, List}
use Rattle.host_trace.specs.TraceLines.{TraceRow, trace_rows}
use Rattle.host_trace.specs.declared.mark.Mark.{Mark}
use Rattle.view_trace.specs.Drawable.{AreDrawable, AreRising, CantFollow, IsFirstUndrawn, IsPlacedMark, last_time}
use Rattle.view_trace.specs.Stints.{IsStintClash, trace_stints}
use Rattle.view_trace.specs.Traces.{HasNoTick, HasShort}
use Rattle.view_trace.specs.declared.fault.TraceFault.{TraceFault}
use Rattle.view_trace.specs.declared.fault.TraceFault.TheVariants.{BadLine, Shared, TooLong, Short, NoMemory}
use Rattle.view_trace.specs.declared.reading.Reading.{Reading}

-- these rows were read
pub record HasReadRows (rows : List TraceRow) (reading : Reading) : Type 0 where
  pub drawable : AreDrawable reading.names.items rows reading.marks.items
  pub time : reading.time_ns ≡ last_time 0 reading.marks.items

-- all of a text was
abbrev pub HasReadAll : List ℕ → Reading → Type 0
HasReadAll bytes reading = HasReadRows (trace_rows bytes) reading

-- the line of this number can't be drawn after these rows, or memory ran out
abbrev pub IsRowFault : List TraceRow → ℕ → List ℕ → TraceFault → Type 0
IsRowFault rows number text (BadLine line cause) = (line ≡ number) × CantFollow rows text cause
IsRowFault rows number text NoMemory = Unit {0}
IsRowFault rows number text (Shared line) = ⊥
IsRowFault rows number text TooLong = ⊥
IsRowFault rows number text (Short line tick) = ⊥

-- a line of the text can't be drawn, or memory ran out
abbrev pub IsReadingFault : List ℕ → TraceFault → Type 0
IsReadingFault bytes (BadLine line cause) = IsFirstUndrawn (trace_rows bytes) line cause
IsReadingFault bytes NoMemory = Unit {0}
IsReadingFault bytes (Shared line) = ⊥
IsReadingFault bytes TooLong = ⊥
IsReadingFault bytes (Short line tick) = ⊥

-- marks that each can be drawn after those before it, and the time of the last
pub record AreReadMarks (marks : List Mark) (time : ℕ) : Type 0 where
  pub rising : AreRising 0 marks
  pub placed : All IsPlacedMark marks
  pub ends : time ≡ last_time 0 marks

-- why such marks aren't drawn together, or memory ran out
abbrev pub IsMarksFault : List Mark → TraceFault → Type 0
IsMarksFault marks (Shared line) = IsStintClash (trace_stints marks) line
IsMarksFault marks TooLong = HasNoTick marks
IsMarksFault marks (Short line tick) = HasShort marks line tick
IsMarksFault marks NoMemory = Unit {0}
IsMarksFault marks (BadLine line cause) = ⊥
