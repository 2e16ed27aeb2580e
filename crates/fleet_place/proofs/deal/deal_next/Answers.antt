use Rattle.std.proofs.Common.{subst, ◌∙◌}
use Rattle.std.specs.Prelude.{IfNone, IfSome}
use Rattle.fleet_place.specs.Deals.{IsBestHost, JoinsNone}
use Rattle.fleet_place.specs.Held.{Held}
use Rattle.fleet_place.proofs.TurnLemmas.{goes_to, left_alone}
use Rattle.fleet_place.proofs.deal.deal_next.Goals as goal

pub returns-in_ok-push_to-in-Some : goal.returns-in_ok-push_to-in-Some
returns-in_ok-push_to-in-Some c = goes_to c.args.policy.now c.args.vm.now c.args.hosts.now c.push_to.new.hosts
    c.args.left.now.items c.best_host.new.refused c.push_to.new.refused c.in-Some.number
    (subst (λ best. IfSome best (λ n. (held : Held) × IsBestHost c.args.policy.now c.args.hosts.now c.args.vm.now n held))
    c.in-Some.is c.in_ok-number.ensures.some)
    (c.in_ok-number.ensures.length ∙ c.requires.sizes) c.in_ok-number.ensures.knows
    c.in_ok-push_to-in-Some.ensures.hosts c.in_ok-push_to-in-Some.ensures.refused

pub returns-in_ok-push-in-None : goal.returns-in_ok-push-in-None
returns-in_ok-push-in-None c = left_alone c.args.policy.now c.args.vm.now c.args.hosts.now c.args.left.now.items
    c.push.new.self.items c.best_host.new.refused
    (subst (λ best. IfNone best (JoinsNone c.args.policy.now c.args.hosts.now c.args.vm.now)) c.in-None.is
    c.in_ok-number.ensures.none)
    (c.in_ok-number.ensures.length ∙ c.requires.sizes) c.in_ok-number.ensures.knows c.in_ok-push-in-None.ensures.items
