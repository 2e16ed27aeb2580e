use Rattle.std.proofs.Common.{Ok}
use Rattle.tab_io.specs.Sinks.{Writes}
use Rattle.tab_words.specs.Texts.{texts_below}
use Rattle.view_report.specs.RunJson.{array_item, change_json}
use Rattle.view_report.proofs.json.put_changes.Given as goal

-- the texts so far came
abbrev pub invariant-loop-number : goal.invariant-loop-number
invariant-loop-number g l = Writes {U = Unit {0}} (g.K.Sink.state l.fn.sink) (g.K.Sink.state l.sink)
    (texts_below (array_item (change_json l.tick_ns) l.changes) l.number) (Ok (tt {0}))
