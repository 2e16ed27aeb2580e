use Rattle.std.proofs.Common.{map, map-id, sym, ap, ◌∙◌}
use Rattle.std.proofs.lemmas.Iterator.Adapters.{YieldsList-from_vec}
use Rattle.std.proofs.lemmas.Iterator.Consumers.{YieldsList-end}
use Rattle.crew_turns.specs.declared.player.Player.{Player}
use Rattle.live_plan.specs.Players.{MemberView}
use Rattle.live_plan.proofs.crew.actors_in.Goals as goal

pub returns : goal.returns
returns c =
    let gives = c.into_iter-player-iterator.ensures.into_iter_gives in
    let end = YieldsList-end (YieldsList-from_vec c.args.members.items gives.0 (gives.1 ∙ c.args.members.ok.0))
    c.loop-player.yielded _ c.loop-player.yielded_by _ c.next.new.self c.in-None.is c.next.ensures.steps in
    c.loop-player.invariant ∙ ap (map (λ (p : Player MemberView). p.actor.actor)) (sym (map-id c.loop-player.yielded) ∙ end.0)
