use Rattle.std.proofs.Common.{take, flat_map, Ok}
use Rattle.tab_io.specs.Sinks.{Writes}
use Rattle.view_cells.specs.CellTexts.{cell_text}
use Rattle.view_cells.proofs.cells.put_cells.Given as goal

-- the texts so far came
abbrev pub invariant-loop-cell : goal.invariant-loop-cell
invariant-loop-cell g l = Writes {U = Unit {0}} (g.K.Sink.state l.fn.sink) (g.K.Sink.state l.sink)
    (flat_map cell_text (take l.cell-index l.cells)) (Ok (tt {0}))
