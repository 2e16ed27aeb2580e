use Rattle.std.proofs.Common.{Ok}
use Rattle.tab_io.specs.Sinks.{Writes}
use Rattle.tab_words.specs.Texts.{texts_below}
use Rattle.view_svg.specs.Drawings.{palette_view}
use Rattle.view_svg.specs.Lanes.{vcpu_paths}
use Rattle.view_svg.proofs.lane.put_all_paths.Given as goal

-- the texts so far came
abbrev pub invariant-loop-v : goal.invariant-loop-v
invariant-loop-v g l = Writes {U = Unit {0}} (g.K.Sink.state l.fn.sink) (g.K.Sink.state l.sink)
    (texts_below (vcpu_paths l.band (palette_view l.palette) l.bars) l.v) (Ok (tt {0}))
