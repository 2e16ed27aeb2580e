use Rattle.std.proofs.Common.{refl, get_or}
use Rattle.std.specs.Prelude.{slice_set}
use Rattle.round_words.specs.Seats.{view_of}
use Rattle.crew_turns.proofs.RunLemmas.{RanOn, ran_on}
use Rattle.crew_turns.proofs.turning.run_core.Given.{Over}
use Rattle.crew_turns.proofs.turning.run_core.Goals as goal
use Rattle.crew_turns.proofs.turning.run_core.Goals.{After-run_player-reached}

-- what holds after the core ran on
ran : (g : Over) (c : After-run_player-reached g) → RanOn g.C.Stepper.kind c.args.cores.now c.args.core c.args.roster.now.ticks (view_of c.args.seat.now)
    (slice_set c.args.cores.now c.args.core c.run_player-reached.new.player) c.run_player-reached.result.clock (view_of c.run_player-reached.new.seat)
ran g c = ran_on g.C.Stepper.kind g.C.Stepper.lawful g.met.C.CoreStepper.is_short c.args.cores.now c.args.core (get_or c.args.cores.now c.args.core c.index-cores-core.result) c.index-cores-core.result (view_of c.args.seat.now) c.args.roster.now.ticks
    c.requires.cores c.requires.agree c.requires.ticks c.requires.core c.requires.on refl
    c.run_player-reached.new.player c.run_player-reached.result.clock (view_of c.run_player-reached.new.seat) c.run_player-reached.ensures.same c.run_player-reached.ensures.changes
    c.run_player-reached.ensures.agrees c.run_player-reached.ensures.parts c.run_player-reached.ensures.runs

pub returns-in-Waits : goal.returns-in-Waits
returns-in-Waits g c = (let r = ran g (goal.at.returns-in-Waits g c).After-run_player-reached in record {
  board = c.run_player-reached.ensures.board;
  cores = r.are;
  ticks = r.stays c.if-reached-roster.true;
  posting = refl;
  goes = r.goes;
  told = (refl, r.waits c.if-reached-roster.true);
})

pub returns-in-Moved : goal.returns-in-Moved
returns-in-Moved g c = (let r = ran g (goal.at.returns-in-Moved g c).After-run_player-reached in record {
  board = c.run_player-reached.ensures.board;
  cores = r.are;
  ticks = r.stays c.if-reached-roster.true;
  posting = refl;
  goes = r.goes;
  told = (refl, r.waits c.if-reached-roster.true);
})

pub returns : goal.returns
returns g c = (let r = ran g (goal.at.returns g c).After-run_player-reached in record {
  board = c.run_player-reached.ensures.board;
  cores = r.are;
  ticks = r.ticks_then;
  posting = refl;
  goes = r.goes;
  told = r.further c.if-reached-roster.false;
})
