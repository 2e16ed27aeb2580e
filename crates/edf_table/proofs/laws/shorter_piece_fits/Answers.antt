use Rattle.edf_table.proofs.Shorter.{shorter_fits}
use Rattle.edf_table.proofs.laws.shorter_piece_fits.Goals as goal

pub returns : goal.returns
returns c = shorter_fits
