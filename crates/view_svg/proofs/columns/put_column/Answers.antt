use Rattle.std.proofs.Common.{◌∙◌, sym}
use Rattle.view_svg.proofs.ColumnLemmas.{below_capped, ticks_more, ticks_same}
use Rattle.view_svg.proofs.columns.put_column.Goals as goal

pub returns-then-not-held-clause-below : goal.returns-then-not-held-clause-below
returns-then-not-held-clause-below g c = ticks_same c.args.band.now.frame c.args.v c.args.bars.now c.args.ticks.now
    (sym c.requires.held ∙ c.if-not-held.true) c.requires.below

pub add_bars-requires-clause-capped : goal.add_bars-requires-clause-capped
add_bars-requires-clause-capped g c =
    below_capped c.args.band.now.frame c.args.v c.args.bars.now c.args.ticks.now c.requires.below

pub put_titled-requires-clause-with : goal.put_titled-requires-clause-with
put_titled-requires-clause-with g c = ticks_more c.args.band.now.frame c.args.v c.args.bars.now c.args.ticks.now
    c.add_bars.new.ticks c.requires.below c.add_bars.ensures.added

pub returns-clause-below : goal.returns-clause-below
returns-clause-below g c = ticks_more c.args.band.now.frame c.args.v c.args.bars.now c.args.ticks.now
    c.add_bars.new.ticks c.requires.below c.add_bars.ensures.added
