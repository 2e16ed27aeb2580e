use Rattle.std.proofs.Common.{arith}
use Rattle.sizes_doc.specs.Sizes.{NoShare, NoShareUnit}
use Rattle.sizes_doc.proofs.MeasureLemmas.{share_above, share_zero}
use Rattle.sizes_doc.proofs.measure.share_of.Goals as goal

pub returns-in-Some-percentage_of-clause-part : goal.returns-in-Some-percentage_of-clause-part
returns-in-Some-percentage_of-clause-part c =
    NoShareUnit c.in-Some-percentage_of.ensures.value c.in-Some-percentage_of.ensures.is

pub returns-in-None-clause-part : goal.returns-in-None-clause-part
returns-in-None-clause-part c = NoShare c.in_default.ensures c.in-None.ensures

pub returns-then-ppm-eq0-clause-part : goal.returns-then-ppm-eq0-clause-part
returns-then-ppm-eq0-clause-part c = share_zero c.args.word.now c.in-Some.ppm c.in-Some.ensures (omega arith)

pub returns-then-ppm-from-clause-part : goal.returns-then-ppm-from-clause-part
returns-then-ppm-from-clause-part c = share_above c.args.word.now c.in-Some.ppm c.in-Some.ensures (omega arith)
