use Rattle.std.proofs.Common.{Ok, ◌≤◌, length}
use Rattle.tab_io.specs.Sinks.{Writes}
use Rattle.tab_words.specs.Texts.{texts_below}
use Rattle.view_lanes.specs.Columns.{edge_of}
use Rattle.view_text.specs.Inside.Windows.{AreBefore}
use Rattle.view_text.specs.TextCharts.{cell_at}
use Rattle.view_text.proofs.text_chart.put_cells.Given as goal

-- the texts so far came, and the bars before the place have nothing in the columns that are left
abbrev pub invariant-loop-j : goal.invariant-loop-j
invariant-loop-j g l = record {
  wrote : Writes {U = Unit {0}} (g.K.Sink.state l.fn.sink) (g.K.Sink.state l.sink)
      (texts_below (cell_at l.frame l.columns l.vcpus l.bars) l.j) (Ok (tt {0}));
  within : l.start ≤ length l.bars;
  before : AreBefore (edge_of l.frame l.columns l.j) l.bars l.start;
}
