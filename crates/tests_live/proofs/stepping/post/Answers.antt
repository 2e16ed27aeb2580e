use Rattle.std.proofs.Common.{arith}
use Rattle.round_words.specs.Seats.{view_of}
use Rattle.round_words.specs.Views.{controller}
use Rattle.live_plan.proofs.PlayersLemmas.{live_others}
use Rattle.tests_live.proofs.stepping.post.Goals as goal

pub returns-clause-agrees : goal.returns-clause-agrees
returns-clause-agrees g c =
    live_others c.args.book.now c.args.actor.now.state (view_of c.args.seat.now) (view_of c.live_control_step.new.seat) controller
    c.requires.agrees c.live_control_step.ensures.changes (λ same. absurd (omega (arith, same, c.requires.first)))
