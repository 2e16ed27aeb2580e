use Rattle.std.proofs.Common.{arith}
use Rattle.sizes_doc.specs.Sizes.{NoTime, NoTimeUnit}
use Rattle.sizes_doc.proofs.MeasureLemmas.{latency_above}
use Rattle.sizes_doc.proofs.measure.latency_of.Goals as goal

pub returns-in-Some-in_unit-clause-part : goal.returns-in-Some-in_unit-clause-part
returns-in-Some-in_unit-clause-part c =
    NoTimeUnit c.in-Some-in_unit.ensures.value c.in-Some-in_unit.ensures.is

pub returns-in-None-clause-part : goal.returns-in-None-clause-part
returns-in-None-clause-part c = NoTime c.in_default.ensures c.in-None.ensures

pub returns-then-ns-gt-MAX_LATENCY_NS-clause-part : goal.returns-then-ns-gt-MAX_LATENCY_NS-clause-part
returns-then-ns-gt-MAX_LATENCY_NS-clause-part c =
    latency_above c.args.word.now c.in-Some.ns c.in-Some.ensures (omega arith)
