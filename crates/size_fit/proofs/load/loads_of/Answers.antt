use Rattle.std.proofs.Common.{ap, ◌∙◌, arith}
use Rattle.std.proofs.lemmas.List.{take_all}
use Rattle.size_fit.specs.Loads.{loads_of}
use Rattle.size_fit.proofs.LoadLemmas.{loads_next}
use Rattle.size_fit.proofs.load.loads_of.Goals as goal

pub loop-row-preserved : goal.loop-row-preserved
loop-row-preserved c = c.in_ok-push.ensures.items ∙ (rw c.load_of.ensures
    (loads_next c.args.rows.now c.loop-row.row-index c.loop-row.loads.items c.row-item.result c.loop-row-test.true
    c.row-item.is c.loop-row.invariant))

pub returns : goal.returns
returns c = c.loop-row.invariant ∙ ap loads_of (take_all c.loop-row.row-index c.args.rows.now (omega (arith, c.loop-row-test.false)))
