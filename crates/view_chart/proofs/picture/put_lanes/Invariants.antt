use Rattle.std.proofs.Common.{Ok}
use Rattle.tab_io.specs.Sinks.{Writes}
use Rattle.tab_words.specs.Texts.{texts_below}
use Rattle.view_svg.specs.Drawings.{palette_view, vcpus_view}
use Rattle.view_chart.specs.Charts.{lane_at}
use Rattle.view_chart.proofs.picture.put_lanes.Given as goal

-- the texts so far came
abbrev pub invariant-loop-i : goal.invariant-loop-i
invariant-loop-i g l = Writes {U = Unit {0}} (g.K.Sink.state l.fn.sink) (g.K.Sink.state l.sink)
    (texts_below (lane_at l.frame l.first (vcpus_view l.vcpus) (palette_view l.palette) l.lanes) l.i) (Ok (tt {0}))
