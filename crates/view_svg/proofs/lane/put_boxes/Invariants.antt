use Rattle.std.proofs.Common.{take, flat_map, Ok}
use Rattle.tab_io.specs.Sinks.{Writes}
use Rattle.view_svg.specs.Lanes.{box_of}
use Rattle.view_svg.proofs.lane.put_boxes.Given as goal

-- the texts so far came
abbrev pub invariant-loop-bar : goal.invariant-loop-bar
invariant-loop-bar g l = Writes {U = Unit {0}} (g.K.Sink.state l.fn.sink) (g.K.Sink.state l.sink)
    (flat_map (box_of l.band l.v l.shared) (take l.bar-index l.bars)) (Ok (tt {0}))
