use Rattle.sizes_doc.proofs.MeasureLemmas.{pointed_with}
use Rattle.sizes_doc.proofs.measure.pointed_in.Goals as goal

pub returns : goal.returns
returns c = pointed_with c.args.unit.now c.args.factor c.args.word.now c.in-Some.bytes.now c.pointed_of.result
    c.in-Some.ensures c.pointed_of.ensures
