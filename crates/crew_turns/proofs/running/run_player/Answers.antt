use Rattle.std.proofs.Common.{inl, inr, subst, arith}
use Rattle.round_words.specs.declared.view.View.{View}
use Rattle.round_words.specs.Changes.{ChangesOnly}
use Rattle.round_words.specs.Seats.{view_of}
use Rattle.round_words.proofs.ChangesLemmas.{changes_more}
use Rattle.crew_turns.proofs.GoingLemmas.{parts_more}
use Rattle.crew_turns.proofs.running.run_player.Goals as goal

pub running-preserved : goal.running-preserved
running-preserved g c =
    let laws = g.C.Stepper.lawful in
    let i = c.running.invariant in
    let e = c.step_player-turn.ensures in
    let u : View = view_of c.args.seat.now in
    let v : View = view_of c.running.seat in
    let w : View = view_of c.step_player-turn.new.seat in
    let number = laws.numbered c.args.player.now.actor c.running.player.actor i.same in
    record {
      board = e.board;
      agrees = e.agrees;
      same = laws.further c.args.player.now.actor c.running.player.actor c.step_player-turn.new.player.actor i.same e.same;
      changes = changes_more u v w (g.C.Stepper.kind.number c.args.player.now.actor) i.changes (subst (ChangesOnly v w) number e.changes);
      parts = parts_more u v w i.parts e.parts;
      clock = c.place-clock-in-Moved.ensures;
      on = inl (elim i.on [
        | inl further ↦ omega (arith, further, i.clock, c.in-Moved.ensures.told, c.place-clock-in-Moved.ensures)
        | inr here ↦ omega (arith, here.0, i.clock, c.in-Moved.ensures.told, c.place-clock-in-Moved.ensures)
      ]);
    }

pub returns-in-Waits-clause-same : goal.returns-in-Waits-clause-same
returns-in-Waits-clause-same g c =
    g.C.Stepper.lawful.further c.args.player.now.actor c.running.player.actor c.step_player-turn.new.player.actor c.running.invariant.same c.step_player-turn.ensures.same

pub returns-in-Ended-clause-same : goal.returns-in-Ended-clause-same
returns-in-Ended-clause-same g c =
    g.C.Stepper.lawful.further c.args.player.now.actor c.running.player.actor c.step_player-turn.new.player.actor c.running.invariant.same c.step_player-turn.ensures.same
