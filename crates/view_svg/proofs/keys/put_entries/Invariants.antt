use Rattle.std.proofs.Common.{Ok, ◌≡◌, ◌≤◌}
use Rattle.tab_io.specs.Sinks.{Writes}
use Rattle.tab_words.specs.Texts.{texts_below}
use Rattle.view_svg.specs.Drawings.{palette_view}
use Rattle.view_svg.specs.Keys.{key_at, count_below, has_bar}
use Rattle.view_svg.proofs.keys.put_entries.Given as goal

-- the texts so far came
abbrev pub invariant-loop-v : goal.invariant-loop-v
invariant-loop-v g l = record {
  wrote : Writes {U = Unit {0}} (g.K.Sink.state l.fn.sink) (g.K.Sink.state l.sink)
      (texts_below (key_at l.band (palette_view l.palette) l.bars l.listed) l.v) (Ok (tt {0}));
  place : l.place ≡ count_below (has_bar l.bars) l.v;
  few : l.place ≤ l.v;
}
