use Rattle.sizes_doc.proofs.MeasureLemmas.{time_in_with}
use Rattle.sizes_doc.proofs.measure.time_in.Goals as goal

pub returns : goal.returns
returns c = time_in_with c.args.unit.now c.args.factor c.args.word.now c.pointed_in.result c.in_default.ensures
    c.pointed_in.ensures
