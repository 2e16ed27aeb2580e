use Rattle.std.proofs.Common.{Ok}
use Rattle.tab_io.specs.Sinks.{Writes}
use Rattle.tab_words.specs.Texts.{texts_below}
use Rattle.view_svg.specs.Lanes.{ground_box}
use Rattle.view_chart.proofs.picture.put_boxes.Given as goal

-- the texts so far came
abbrev pub invariant-loop-i : goal.invariant-loop-i
invariant-loop-i g l = Writes {U = Unit {0}} (g.K.Sink.state l.fn.sink) (g.K.Sink.state l.sink)
    (texts_below (ground_box l.high l.pitch) l.i) (Ok (tt {0}))
