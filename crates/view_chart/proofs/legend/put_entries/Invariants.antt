use Rattle.std.proofs.Common.{Ok, ◌≡◌, ◌≤◌}
use Rattle.tab_io.specs.Sinks.{Writes}
use Rattle.tab_words.specs.Texts.{texts_below}
use Rattle.view_svg.specs.Drawings.{palette_view}
use Rattle.view_svg.specs.Keys.{count_below, has_lane}
use Rattle.view_chart.specs.Legends.{legend_entry_at}
use Rattle.view_chart.proofs.legend.put_entries.Given as goal

-- the texts so far came
abbrev pub invariant-loop-v : goal.invariant-loop-v
invariant-loop-v g l = record {
  wrote : Writes {U = Unit {0}} (g.K.Sink.state l.fn.sink) (g.K.Sink.state l.sink)
      (texts_below (legend_entry_at l.tick l.foot (palette_view l.palette) l.lanes) l.v) (Ok (tt {0}));
  place : l.place ≡ count_below (has_lane l.lanes) l.v;
  few : l.place ≤ l.v;
}
