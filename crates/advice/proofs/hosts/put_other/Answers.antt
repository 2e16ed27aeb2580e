use Rattle.std.proofs.Common.{rules}
use Rattle.advice.specs.Advice.{IsOtherText}
use Rattle.advice.specs.Inside.Again.{IsNoDocument}
use Rattle.advice.specs.Keys.{other_text}
use Rattle.advice.proofs.AgainLemmas.{no_member_is_told}
use Rattle.advice.proofs.WritesLemmas.{tells_nothing}
use Rattle.advice.proofs.hosts.put_other.Goals as goal

pub returns-in-None : goal.returns-in-None
returns-in-None g c =
    let none : IsNoDocument c.args.section.now = search rules in
    tells_nothing (IsOtherText c.args.section.now) _ (no_member_is_told c.args.section.now (λ members. other_text c.args.section.now members) none)
