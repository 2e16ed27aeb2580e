use Rattle.std.proofs.Common.{Ok}
use Rattle.tab_io.specs.Sinks.{Writes}
use Rattle.tab_words.specs.Texts.{texts_below}
use Rattle.view_svg.specs.Drawings.{palette_view}
use Rattle.view_svg.specs.Columns.{column_path}
use Rattle.view_svg.specs.Inside.Filling.{AreTicksBelow}
use Rattle.view_svg.proofs.columns.put_columns.Given as goal

-- the paths so far came, and the ticks of the vCPUs so far are known
abbrev pub invariant-loop-v : goal.invariant-loop-v
invariant-loop-v g l = record {
  wrote : Writes {U = Unit {0}} (g.K.Sink.state l.fn.sink) (g.K.Sink.state l.sink)
      (texts_below (column_path l.band (palette_view l.palette) l.bars) l.v) (Ok (tt {0}));
  below : AreTicksBelow l.band.frame l.bars l.v l.ticks;
}
