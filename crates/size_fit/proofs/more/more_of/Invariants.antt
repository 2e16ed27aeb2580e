use Rattle.std.proofs.Common.{◌-◌}
use Rattle.size_fit.proofs.MoreLemmas.{Between}
use Rattle.size_fit.proofs.more.more_of.Given as goal

-- what was tried so far
abbrev pub invariant-loop-fails : goal.invariant-loop-fails
invariant-loop-fails l = Between l.no_split l.host l.size l.fits l.fails

abbrev pub decreases-loop-fails : goal.decreases-loop-fails
decreases-loop-fails l = l.fails - l.fits
