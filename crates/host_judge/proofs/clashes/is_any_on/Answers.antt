use Rattle.std.proofs.Common.{◌≡◌, None, rules, sym, ◌∙◌}
use Rattle.host_judge.proofs.ClashLemmas.{none_on}
use Rattle.host_judge.proofs.clashes.is_any_on.Goals as goal

pub returns-else-is_some : goal.returns-else-is_some
returns-else-is_some c =
    let none : c.args.cpu ≡ None = search rules in
    rw none (c.if-is_some.false ∙ sym (none_on c.args.cpus.now))
