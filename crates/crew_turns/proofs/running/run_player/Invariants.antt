use Rattle.std.proofs.Common.{◌≡◌, ◌⊎◌, ◌<◌, ◌-◌}
use Rattle.round_words.specs.Changes.{ChangesOnly}
use Rattle.round_words.specs.Seats.{view_of, IsSeatOf}
use Rattle.crew_turns.specs.Going.{PartsGoOn}
use Rattle.crew_turns.proofs.running.run_player.Given as goal

abbrev pub invariant-running : goal.invariant-running
invariant-running g l = record {
  board : IsSeatOf l.fn.site.board.now l.seat;
  agrees : g.C.Stepper.kind.agrees l.player.actor (view_of l.seat);
  same : g.C.Stepper.kind.same l.fn.player.actor l.player.actor;
  changes : ChangesOnly (view_of l.fn.seat) (view_of l.seat) (g.C.Stepper.kind.number l.fn.player.actor);
  parts : PartsGoOn (view_of l.fn.seat) (view_of l.seat);
  clock : l.clock ≡ g.C.Stepper.kind.place l.player.actor;
  on : (g.C.Stepper.kind.place l.fn.player.actor < l.clock) ⊎ ((l.clock ≡ g.C.Stepper.kind.place l.fn.player.actor) × (view_of l.seat ≡ view_of l.fn.seat));
}

abbrev pub decreases-running : goal.decreases-running
decreases-running g l = 4294967296 - l.clock
