use Rattle.tableau_sim.proofs.FrameLemmas.{unsettled}
use Rattle.tableau_sim.proofs.output.settle.Goals as goal

pub returns-in-Failed : goal.returns-in-Failed
returns-in-Failed g c = λ before due writes same.
    let f = c.in-Failed.ensures in
    unsettled _ _ _ due _ c.in_default.field-0 writes c.in_default.is f.finished.1 f.works f.taken f.later
