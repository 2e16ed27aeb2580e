use Rattle.sizes_doc.proofs.MeasureLemmas.{percentage_with}
use Rattle.sizes_doc.proofs.measure.percentage_of.Goals as goal

pub returns : goal.returns
returns c = percentage_with c.args.bytes.now c.pointed_of.result c.in_default.ensures c.pointed_of.ensures
