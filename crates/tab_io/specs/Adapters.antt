-- What contracts see of the adapters over std's readers and writers.
use Rattle.std.specs.Prelude.{ℕ, List, Option, None, false}
use Rattle.tab_io.specs.Views.{SourceView, SinkView}
use Rattle.tab_io.specs.declared.source.StdSource.{StdSource}
use Rattle.tab_io.specs.declared.sink.StdSink.{StdSink}

-- how often the reader failed, and no content
abbrev pub reader_state : {R : Type 0} → StdSource R → SourceView
reader_state s = record { rest = None; sound = false; faults = s.faults }

-- how often the reader failed, with the bytes that the reader itself tells
abbrev pub reader_told : {R : Type 0} → (R → Option (List ℕ)) → StdSource R → SourceView
reader_told remaining s = record { rest = remaining s.inner; sound = false; faults = s.faults }

-- how often the writer failed, and no content
abbrev pub writer_state : {W : Type 0} → StdSink W → SinkView
writer_state s = record { taken = None; settled = None; room = None; faults = s.faults }

-- how often the writer failed, with the bytes that the writer itself tells
abbrev pub writer_told : {W : Type 0} → (W → Option (List ℕ)) → StdSink W → SinkView
writer_told contents s = record {
  taken = contents s.inner;
  settled = None;
  room = None;
  faults = s.faults;
}
