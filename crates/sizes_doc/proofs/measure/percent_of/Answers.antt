use Rattle.sizes_doc.proofs.MeasureLemmas.{percent_with}
use Rattle.sizes_doc.proofs.measure.percent_of.Goals as goal

pub returns : goal.returns
returns c = percent_with c.args.word.now c.in-Some.bytes.now c.percentage_of.result c.in-Some.ensures
    c.percentage_of.ensures
