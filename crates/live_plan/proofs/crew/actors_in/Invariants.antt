use Rattle.std.proofs.Common.{◌≡◌, map}
use Rattle.crew_turns.specs.declared.player.Player.{Player}
use Rattle.live_plan.specs.Players.{MemberView}
use Rattle.live_plan.proofs.crew.actors_in.Given as goal

abbrev pub invariant-loop-player : goal.invariant-loop-player
invariant-loop-player l = l.actors.items ≡ map (λ (p : Player MemberView). p.actor.actor) l.yielded
