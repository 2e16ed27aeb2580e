use Rattle.sizes_doc.proofs.MeasureLemmas.{time_or_with}
use Rattle.sizes_doc.proofs.measure.read_time_or.Goals as goal

pub returns : goal.returns
returns c = time_or_with c.args.factor c.args.word.now c.read_time.result c.in_default.ensures c.read_time.ensures
