use Rattle.fleet_place.proofs.stay.longest.Goals as goal

pub returns-then-branch-clause-fits : goal.returns-then-branch-clause-fits
returns-then-branch-clause-fits c = λ some. c.in_ok-is_fit.ensures.fits c.if-branch.true
