use Rattle.step_machine.specs.Inside.Worlds.{HaveFirstSlices}
use Rattle.step_machine.proofs.world.new_slices.Given as goal

abbrev pub invariant-loop-core : goal.invariant-loop-core
invariant-loop-core l = HaveFirstSlices l.course l.core l.slices.items
