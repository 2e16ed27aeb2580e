use Rattle.std.proofs.Common.{take, flat_map, Ok}
use Rattle.tab_io.specs.Sinks.{Writes}
use Rattle.fleet_place.specs.FleetText.{left_line}
use Rattle.fleet_place.proofs.write.put_left.Given as goal

-- the lines so far came
abbrev pub invariant-loop-vm : goal.invariant-loop-vm
invariant-loop-vm g l = Writes {U = Unit {0}} (g.K.Sink.state l.fn.sink) (g.K.Sink.state l.sink)
    (flat_map left_line (take l.vm-index l.left)) (Ok (tt {0}))
