use Rattle.std.proofs.Common.{◌∙◌}
use Rattle.sizes_doc.proofs.SizedLemmas.{machine_more}
use Rattle.sizes_doc.proofs.sized_host.push_size.Goals as goal

pub loop-machine-preserved : goal.loop-machine-preserved
loop-machine-preserved c = c.in_ok-push_machine.ensures.ok
    ∙ machine_more c.args.size.now c.loop-machine.machine c.args.vcpus.now.items c.loop-machine.vcpus.items
    c.loop-machine.invariant
