use Rattle.view_page.proofs.PartLemmas.{part_written}
use Rattle.view_page.proofs.part.put_text.Goals as goal

pub returns : goal.returns
returns g c = rw c.part_result.ensures (part_written _ _ _ _ c.write_all.ensures)
