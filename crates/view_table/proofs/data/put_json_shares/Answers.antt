use Rattle.view_table.specs.Data.{json_shares}
use Rattle.view_table.proofs.data.put_json_shares.Goals as goal

pub returns : goal.returns
unfolding json_shares
returns g c = rw (
  ← c.of_round-share.ensures.value,
  ← c.share_or-asked_share.ensures,
  ← c.number_or-asked_piece.ensures,
) c.put_pieces.ensures
