-- What the marks of a text show is what the text shows.
use Rattle.std.proofs.Common.{ℕ, Err, IfErr, IfOk, List, Ok, Result}
use Rattle.view_trace.specs.Inside.Readings.{HasReadAll, IsMarksFault, IsReadingFault}
use Rattle.view_trace.specs.Traces.{HasTraceFault, IsDrawn, ShowsMarks}
use Rattle.view_trace.specs.declared.fault.TraceFault.{TraceFault}
use Rattle.view_trace.specs.declared.fault.TraceFault.TheVariants.{BadLine, Shared, TooLong, Short, NoMemory}
use Rattle.view_trace.specs.declared.trace.HostTrace.{HostTrace}
use Rattle.view_trace.specs.declared.reading.Reading.{Reading}

-- marks that were read are shown
pub text_drawn : (bytes : List ℕ) (reading : Reading) (trace : HostTrace) → HasReadAll bytes reading
    → ShowsMarks reading.names.items reading.marks.items trace → IsDrawn bytes trace
text_drawn bytes reading trace read shows = record {
  names = reading.names.items;
  marks = reading.marks.items;
  drawable = read.drawable;
  shows = shows;
}

-- marks that were read aren't
pub text_fault : (bytes : List ℕ) (reading : Reading) (fault : TraceFault) → HasReadAll bytes reading
    → IsMarksFault reading.marks.items fault → HasTraceFault bytes fault
text_fault bytes reading (Shared line) read wrong =
    record { names = reading.names.items; marks = reading.marks.items; drawable = read.drawable; fault = wrong }
text_fault bytes reading TooLong read wrong =
    record { names = reading.names.items; marks = reading.marks.items; drawable = read.drawable; fault = wrong }
text_fault bytes reading (Short line tick) read wrong =
    record { names = reading.names.items; marks = reading.marks.items; drawable = read.drawable; fault = wrong }
text_fault bytes reading NoMemory read wrong = tt
text_fault bytes reading (BadLine line cause) read wrong = absurd wrong

-- a line isn't
pub line_fault : (bytes : List ℕ) (fault : TraceFault) → IsReadingFault bytes fault → HasTraceFault bytes fault
line_fault bytes (BadLine line cause) wrong = wrong
line_fault bytes NoMemory wrong = tt
line_fault bytes (Shared line) wrong = absurd wrong
line_fault bytes TooLong wrong = absurd wrong
line_fault bytes (Short line tick) wrong = absurd wrong

-- ---- of what a call answers

pub shows_drawn : (bytes : List ℕ) (reading : Reading) (result : Result HostTrace TraceFault)
    → HasReadAll bytes reading → IfOk result (ShowsMarks reading.names.items reading.marks.items)
    → IfOk result (IsDrawn bytes)
shows_drawn bytes reading (Ok trace) read shows = text_drawn bytes reading trace read shows
shows_drawn bytes reading (Err fault) read shows = tt

pub shows_fault : (bytes : List ℕ) (reading : Reading) (result : Result HostTrace TraceFault)
    → HasReadAll bytes reading → IfErr result (IsMarksFault reading.marks.items) → IfErr result (HasTraceFault bytes)
shows_fault bytes reading (Ok trace) read wrong = tt
shows_fault bytes reading (Err fault) read wrong = text_fault bytes reading fault read wrong
