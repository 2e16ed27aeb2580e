use Rattle.view_table.specs.DiffData.{json_side}
use Rattle.view_table.proofs.diff_data.put_json_side.Goals as goal

pub returns : goal.returns
unfolding json_side
returns g c = rw (
  ← c.share_of-share.ensures.value,
  ← c.period_piece-period.ensures,
  ← c.wait_or-ended.ensures,
  ← c.number_or-wait_piece.ensures,
  ← c.home_piece-home.ensures,
) c.put_pieces.ensures
