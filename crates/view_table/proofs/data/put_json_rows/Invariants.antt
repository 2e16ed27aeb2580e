use Rattle.std.proofs.Common.{Ok, option_copied}
use Rattle.tab_io.specs.Sinks.{Writes}
use Rattle.tab_words.specs.Texts.{texts_below}
use Rattle.view_table.specs.Given.{is_refused}
use Rattle.view_table.specs.Data.{json_row}
use Rattle.view_table.proofs.data.put_json_rows.Given as goal

-- the texts so far came
abbrev pub invariant-loop-vcpu : goal.invariant-loop-vcpu
invariant-loop-vcpu g l = Writes {U = Unit {0}} (g.K.Sink.state l.fn.sink) (g.K.Sink.state l.sink)
    (texts_below (json_row (option_copied l.fn.host) (is_refused l.figures.refusal.items) l.tick_ns l.view) l.vcpu) (Ok (tt {0}))
