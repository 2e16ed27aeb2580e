use Rattle.edf_table.proofs.LoadLemmas.{unsplit_fits}
use Rattle.edf_table.proofs.laws.unsplit_pieces_fit.Goals as goal

pub returns : goal.returns
returns c = unsplit_fits
