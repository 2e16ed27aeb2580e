use Rattle.std.proofs.Common.{take, flat_map, Ok}
use Rattle.tab_io.specs.Sinks.{Writes}
use Rattle.view_export.specs.Chrome.{entry_event}
use Rattle.view_export.proofs.chrome.put_entries.Given as goal

-- the lines so far came
abbrev pub invariant-loop-entry : goal.invariant-loop-entry
invariant-loop-entry g l = Writes {U = Unit {0}} (g.K.Sink.state l.fn.sink) (g.K.Sink.state l.sink)
    (flat_map (entry_event l.tick_ns) (take l.entry-index l.entries)) (Ok (tt {0}))
