use Rattle.view_table.specs.Data.{csv_home}
use Rattle.view_table.proofs.data.put_csv_home.Goals as goal

pub returns : goal.returns
unfolding csv_home
returns g c = rw (
  ← c.csv_kept-kept.ensures,
  ← c.home_piece-home.ensures,
) c.put_pieces.ensures
