use Rattle.std.proofs.Common.{rules}
use Rattle.advice.specs.Advice.{IsVcpuKeyText}
use Rattle.advice.specs.Inside.Again.{IsNoDocument}
use Rattle.advice.specs.Keys.{vcpu_key_text}
use Rattle.advice.proofs.AgainLemmas.{no_member_is_told}
use Rattle.advice.proofs.WritesLemmas.{tells_nothing}
use Rattle.advice.proofs.hosts.put_key_of_vcpu.Goals as goal

pub returns-in-None : goal.returns-in-None
returns-in-None g c =
    let none : IsNoDocument c.args.section.now = search rules in
    tells_nothing (IsVcpuKeyText c.args.section.now c.args.vcpu c.args.key) _
    (no_member_is_told c.args.section.now (λ members. vcpu_key_text c.args.section.now c.args.vcpu c.args.key members) none)
