use Rattle.std.proofs.Common.{Ok}
use Rattle.tab_io.specs.Sinks.{Writes}
use Rattle.tab_words.specs.Texts.{texts_below}
use Rattle.std.proofs.Common.{option_copied}
use Rattle.view_table.specs.Given.{is_refused}
use Rattle.view_table.specs.Table.{table_row}
use Rattle.view_table.proofs.table.put_vcpus.Given as goal

-- the texts so far came
abbrev pub invariant-loop-vcpu : goal.invariant-loop-vcpu
invariant-loop-vcpu g l = Writes {U = Unit {0}} (g.K.Sink.state l.fn.sink) (g.K.Sink.state l.sink)
    (texts_below (table_row (option_copied l.fn.host) (is_refused l.figures.refusal.items) l.tick_ns l.width l.view.names.items l.view.tasks.items l.view.slots.items l.view.cores) l.vcpu) (Ok (tt {0}))
