use Rattle.view_doc.proofs.LineLemmas.{no_core}
use Rattle.view_doc.proofs.line.behind_core.Goals as goal

pub returns-in_err-core : goal.returns-in_err-core
returns-in_err-core c = rw c.from_residual.ensures (no_core _ c.in_err-core.ensures)
