use Rattle.sizes_doc.proofs.MeasureLemmas.{part_with}
use Rattle.sizes_doc.proofs.measure.part_of.Goals as goal

pub returns : goal.returns
returns c = part_with c.args.word.now c.in_unit.result c.in_default.ensures c.in_unit.ensures
