use Rattle.std.proofs.Common.{◌≡◌}
use Rattle.view_cells.specs.Cells.{width_below}
use Rattle.vcpu_names.specs.Names.{names_of}
use Rattle.view_judge.proofs.cells.width_of.Given as goal

abbrev pub invariant-loop-vcpu : goal.invariant-loop-vcpu
invariant-loop-vcpu l = l.width ≡ width_below (names_of l.vcpus) l.vcpu-index
