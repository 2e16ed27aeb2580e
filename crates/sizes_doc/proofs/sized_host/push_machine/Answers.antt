use Rattle.std.proofs.Common.{◌≡◌, [], ◌∷◌, ◌++◌, arith}
use Rattle.std.proofs.lemmas.Grind.{common_steps}
use Rattle.sizes_doc.proofs.SizedLemmas.{vcpu_more}
use Rattle.sizes_doc.proofs.sized_host.push_machine.Goals as goal

pub loop-number-preserved : goal.loop-number-preserved
loop-number-preserved c =
    let pushed : c.push.new.self.items ≡ c.loop-number.vcpus.items ++ c.in_ok-vcpu.vcpu ∷ [] =
    grind (arith, common_steps) in
    rw pushed (vcpu_more c.args.size.now c.args.machine c.loop-number.number c.args.vcpus.now.items
    c.loop-number.vcpus.items c.in_ok-vcpu.vcpu c.loop-number.invariant c.in_ok-vcpu.ensures.ok)
