use Rattle.view_table.specs.Data.{json_home}
use Rattle.view_table.proofs.data.put_json_home.Goals as goal

pub returns : goal.returns
unfolding json_home
returns g c = rw (
  ← c.json_kept-kept.ensures,
  ← c.home_piece-home.ensures,
) c.put_pieces.ensures
