use Rattle.std.proofs.Common.{◌≡◌, ◌∙◌, [], slice_index_or}
use Rattle.std.proofs.lemmas.List.{get_or_read}
use Rattle.view_chart.proofs.picture.put_lane_at.Goals as goal

pub returns : goal.returns
returns g c =
    let bars : c.bars.result.now ≡ slice_index_or c.args.lanes.now c.args.i [] =
    c.bars.ensures ∙ get_or_read c.args.lanes.now c.args.i c.index-lanes-i.result c.requires.there
    c.index-lanes-i.is [] in
    rw (c.from.ensures, c.band_at-band.ensures.value, bars) at c.put_lane.ensures
