use Rattle.std.proofs.Common.{Ok}
use Rattle.tab_io.specs.Sinks.{Writes}
use Rattle.tab_words.specs.Texts.{texts_below}
use Rattle.view_svg.specs.Columns.{column_box}
use Rattle.view_svg.proofs.columns.put_boxes.Given as goal

-- the texts so far came
abbrev pub invariant-loop-j : goal.invariant-loop-j
invariant-loop-j g l = Writes {U = Unit {0}} (g.K.Sink.state l.fn.sink) (g.K.Sink.state l.sink)
    (texts_below (column_box l.band l.bars l.v) l.j) (Ok (tt {0}))
