-- What writing a part of a page does to a sink.
use Rattle.std.specs.Prelude.{ℕ, List, Result, Ok, Err}
use Rattle.tab_io.specs.Sinks.{IsLeft, Writes}
use Rattle.tab_io.specs.Views.{SinkView}
use Rattle.tab_io.specs.declared.sink.WriteFault.{WriteFault}
use Rattle.view_lanes.specs.declared.fault.ChartFault.{ChartFault}
use Rattle.view_lanes.specs.declared.fault.ChartFault.TheVariants as fault

-- a prefix of the text was written, and no write failed
pub record Fronted (old new : SinkView) (text : List ℕ) : Type 0 where
  pub left : List ℕ
  pub is : IsLeft old new text left

-- all of the text was written; or a prefix of it, since the sink failed or memory ran out
abbrev pub WritesPart : SinkView → SinkView → List ℕ → Result (Unit {0}) ChartFault → Type 0
WritesPart old new text (Ok u) = Writes {U = Unit {0}} old new text (Ok u)
WritesPart old new text (Err fault.Write) = Writes {U = Unit {0}} old new text (Err (record {}))
WritesPart old new text (Err fault.NoMemory) = Fronted old new text
WritesPart old new text (Err fault.Nothing) = ⊥

-- what a write answers, as a part does
abbrev pub part_result : Result (Unit {0}) WriteFault → Result (Unit {0}) ChartFault
part_result (Ok u) = Ok u
part_result (Err f) = Err fault.Write
