use Rattle.std.proofs.Common.{append-nil}
use Rattle.view_table.specs.DiffData.{csv_side}
use Rattle.view_table.proofs.diff_data.put_csv_side.Goals as goal

pub returns : goal.returns
unfolding csv_side
returns g c = rw (
  ← c.share_of-share.ensures.value,
  ← c.period_piece-period.ensures,
  ← c.wait_or-ended.ensures,
  ← c.number_or-wait_piece.ensures,
  ← c.home_piece-home.ensures,
) (rw append-nil at c.put_pieces.ensures)
