use Rattle.std.proofs.Common.{arith}
use Rattle.view_cells.proofs.WidthLemmas.{width_below-more, width_below-zero}
use Rattle.view_table.proofs.rows.width_of.Goals as goal

pub loop-vcpu-init : goal.loop-vcpu-init
loop-vcpu-init c = grind (arith, width_below-zero)

pub loop-vcpu-preserved : goal.loop-vcpu-preserved
loop-vcpu-preserved c = grind (arith, width_below-more)
