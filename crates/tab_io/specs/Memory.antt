-- What the ends in memory hold.
use Rattle.std.specs.Prelude.{ℕ, ◌-◌, List, Some, drop, length, ◌==◌}
use Rattle.tab_io.specs.Views.{SourceView, SinkView}
use Rattle.tab_io.specs.declared.memory.MemSource.{MemSource}
use Rattle.tab_io.specs.declared.memory.MemSink.{MemSink}

-- ---- sources

-- the bytes that a source in memory still gives
abbrev pub bytes_left : MemSource → List ℕ
bytes_left s = drop s.at s.bytes.items

-- how often a source in memory was read, up to the last value of the count
abbrev pub reads_of : MemSource → ℕ
reads_of s = s.reads

-- the numbers of the reads that fail
abbrev pub fails_of : MemSource → List ℕ
fails_of s = s.fails.items

-- what contracts see of a source in memory: it tells its bytes, and is sound where no read is listed
abbrev pub source_state : MemSource → SourceView
source_state s = record {
  rest = Some (bytes_left s);
  sound = length (fails_of s) == 0;
  faults = s.faults;
}

-- ---- sinks

-- the bytes that a sink in memory took
abbrev pub bytes_taken : MemSink → List ℕ
bytes_taken s = s.bytes.items

-- how many bytes a sink in memory takes in all
abbrev pub room_of : MemSink → ℕ
room_of s = s.room

-- how many bytes a sink in memory still takes
abbrev pub room_left : MemSink → ℕ
room_left s = room_of s - length (bytes_taken s)

-- what contracts see of a sink in memory: it tells all
abbrev pub sink_state : MemSink → SinkView
sink_state s = record {
  taken = Some (bytes_taken s);
  settled = Some s.settled;
  room = Some (room_left s);
  faults = s.faults;
}
