use Rattle.sizes_doc.proofs.MeasureLemmas.{time_with}
use Rattle.sizes_doc.proofs.measure.read_time.Goals as goal

pub returns : goal.returns
returns c = time_with c.args.word.now c.time_in-4.result c.in_default.ensures
    c.in_default-time_in.ensures c.in_default-time_in-2.ensures c.time_in-4.ensures
