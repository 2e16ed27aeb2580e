use Rattle.std.proofs.Common.{◌≡◌}
use Rattle.view_cells.specs.Cells.{width_below}
use Rattle.view_table.proofs.rows.width_of.Given as goal

abbrev pub invariant-loop-vcpu : goal.invariant-loop-vcpu
invariant-loop-vcpu l = l.width ≡ width_below l.names l.vcpu
