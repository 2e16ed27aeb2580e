use Rattle.std.proofs.Common.{◌∙◌, None, rules}
use Rattle.std.proofs.lemmas.List.{get_or_default}
use Rattle.host_judge.proofs.ClashLemmas.{clashes_known}
use Rattle.host_judge.proofs.clashes.Clashes.take.Goals as goal

pub returns-clause-taken : goal.returns-clause-taken
returns-clause-taken c = λ marks has.
    let cpus = c.args.self.now.cpus.items in
    let from = c.index-from.result.now in
    clashes_known marks c.args.mark.now c.args.self.now _ c.args.vcpu from c.cpu_of-to.result c.deref.result.now
    c.is_any_on.result c.are_cpus_two.result has c.requires.own c.requires.known
    (c.index-from.ensures ∙ get_or_default cpus c.args.vcpu from None c.requires.known) c.cpu_of-to.ensures
    (search rules) c.is_any_on.ensures c.are_cpus_two.ensures (search rules) c.counted_if-self.ensures.counted
    c.counted_if-self-2.ensures.counted
