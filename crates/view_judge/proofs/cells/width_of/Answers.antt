use Rattle.std.proofs.Common.{◌≡◌, ◌∙◌, arith, sym}
use Rattle.view_cells.proofs.WidthLemmas.{width_below-more, width_below-zero}
use Rattle.vcpu_names.proofs.NamesLemmas.{name_here}
use Rattle.vcpu_names.specs.Names.{name_at, names_of}
use Rattle.view_judge.proofs.cells.width_of.Goals as goal

pub loop-vcpu-init : goal.loop-vcpu-init
loop-vcpu-init c = grind (arith, width_below-zero)

pub loop-vcpu-preserved : goal.loop-vcpu-preserved
loop-vcpu-preserved c =
    let name : name_at (names_of c.args.vcpus.now) c.loop-vcpu.vcpu-index ≡ c.bytes.result.now =
    name_here c.args.vcpus.now c.loop-vcpu.vcpu-index c.vcpu-item.result c.loop-vcpu-test.true c.vcpu-item.is
    ∙ sym c.bytes.ensures.same in
    grind (arith, width_below-more)
