-- the rows of the cores before this one were read and seen
use Rattle.tableau_sim.specs.Inside.Passing.{HavePassed}
use Rattle.tableau_sim.proofs.commands.check.passes.Given as goal

abbrev pub invariant-loop-core : goal.invariant-loop-core
invariant-loop-core l = HavePassed l.host l.tasks l.text l.core l.reader l.checks
