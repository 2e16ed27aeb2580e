use Rattle.std.proofs.Common.{inl, inr, arith}
use Rattle.round_words.specs.declared.view.View.{View}
use Rattle.round_words.specs.Seats.{view_of}
use Rattle.crew_turns.proofs.GoingLemmas.{actors_twice, parts_more}
use Rattle.crew_turns.proofs.TurnLemmas.{rest_since, same_twice}
use Rattle.crew_turns.proofs.driving.drive_all.Goals as goal

pub driving-preserved-in-Moved : goal.driving-preserved-in-Moved
driving-preserved-in-Moved g c =
    let i = c.driving.invariant in
    let e = c.turn.ensures in
    let v : View = view_of c.args.seat.now in
    let u : View = view_of c.driving.seat in
    let w : View = view_of c.turn.new.seat in
    record {
      board = e.board;
      agreed = e.agreed;
      ticks = e.ticks;
      posting = e.posting;
      same = same_twice g.C.Stepper.kind g.L.Stepper.kind g.C.Stepper.lawful g.L.Stepper.lawful c.args.cores.now c.driving.cores c.turn.new.cores c.args.lead.now c.driving.lead c.turn.new.lead i.same e.same;
      actors = actors_twice v u w i.actors e.actors;
      parts = parts_more v u w i.parts e.parts;
      few = omega arith;
      rests = inl (omega arith);
    }

pub driving-preserved : goal.driving-preserved
driving-preserved g c =
    let i = c.driving.invariant in
    let e = c.turn.ensures in
    let v : View = view_of c.args.seat.now in
    let u : View = view_of c.driving.seat in
    let w : View = view_of c.turn.new.seat in
    record {
      board = e.board;
      agreed = e.agreed;
      ticks = e.ticks;
      posting = e.posting;
      same = same_twice g.C.Stepper.kind g.L.Stepper.kind g.C.Stepper.lawful g.L.Stepper.lawful c.args.cores.now c.driving.cores c.turn.new.cores c.args.lead.now c.driving.lead c.turn.new.lead i.same e.same;
      actors = actors_twice v u w i.actors e.actors;
      parts = parts_more v u w i.parts e.parts;
      few = omega (arith, i.few);
      rests = inr (rest_since g.C.Stepper.kind g.L.Stepper.kind g.C.Stepper.lawful g.L.Stepper.lawful c.turn.new.cores c.turn.new.lead v u w i.parts c.in-Waits.ensures.told.1);
    }

pub returns-in-Stopped-clause-same : goal.returns-in-Stopped-clause-same
returns-in-Stopped-clause-same g c = same_twice g.C.Stepper.kind g.L.Stepper.kind g.C.Stepper.lawful g.L.Stepper.lawful c.args.cores.now c.driving.cores c.turn.new.cores c.args.lead.now c.driving.lead c.turn.new.lead c.driving.invariant.same c.turn.ensures.same

pub returns-in-Stopped-clause-rests : goal.returns-in-Stopped-clause-rests
returns-in-Stopped-clause-rests g c = rest_since g.C.Stepper.kind g.L.Stepper.kind g.C.Stepper.lawful g.L.Stepper.lawful c.turn.new.cores c.turn.new.lead (view_of c.args.seat.now) (view_of c.driving.seat) (view_of c.turn.new.seat) c.driving.invariant.parts c.in-Stopped.ensures.told.1

pub returns-in-Done-clause-same : goal.returns-in-Done-clause-same
returns-in-Done-clause-same g c = same_twice g.C.Stepper.kind g.L.Stepper.kind g.C.Stepper.lawful g.L.Stepper.lawful c.args.cores.now c.driving.cores c.turn.new.cores c.args.lead.now c.driving.lead c.turn.new.lead c.driving.invariant.same c.turn.ensures.same
