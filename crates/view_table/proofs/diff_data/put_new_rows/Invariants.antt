use Rattle.std.proofs.Common.{Ok}
use Rattle.tab_io.specs.Sinks.{Writes}
use Rattle.tab_words.specs.Texts.{texts_below}
use Rattle.view_table.specs.DiffData.{new_row}
use Rattle.view_table.proofs.diff_data.put_new_rows.Given as goal

-- the texts so far came
abbrev pub invariant-loop-vcpu : goal.invariant-loop-vcpu
invariant-loop-vcpu g l = Writes {U = Unit {0}} (g.K.Sink.state l.fn.sink) (g.K.Sink.state l.sink)
    (texts_below (new_row l.style l.old l.new) l.vcpu) (Ok (tt {0}))
