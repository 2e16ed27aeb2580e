use Rattle.std.proofs.Common.{subst, sym, ◌∙◌}
use Rattle.fleet_place.specs.Inside.Memory.{KnowsRefusals}
use Rattle.fleet_place.proofs.TurnLemmas.{knows_none}
use Rattle.fleet_place.proofs.deal.deal.Goals as goal

pub deal_all-requires-clause-known : goal.deal_all-requires-clause-known
deal_all-requires-clause-known c =
    subst (KnowsRefusals c.args.policy.now c.args.hosts.now) (sym (c.deref_mut.ensures.value ∙ c.in_ok-refused.ensures))
    (knows_none c.args.policy.now c.args.hosts.now _)
