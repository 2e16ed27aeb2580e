use Rattle.round_words.specs.Seats.{view_of}
use Rattle.dispatch_core.specs.declared.answer.Ended.TheVariants.{Ran, Behind}
use Rattle.live_plan.proofs.SteppingLemmas.{agrees_by, end_by, waits_told}
use Rattle.live_plan.proofs.stepping.run.Goals as goal

pub returns-in-Ran-clause-agrees : goal.returns-in-Ran-clause-agrees
returns-in-Ran-clause-agrees g c =
    let way = c.args.way.now in
    let req = c.requires in
    let e = c.in-Ran.ensures in
    agrees_by c.args.book.now way.outline.now c.args.state.now (view_of c.args.seat.now) way.used way.table.now req.outline
    req.begun.within req.table req.agrees c.end_step.new.state (view_of c.end_step.new.seat) e.stands e.same.core (e.plans req.table.plan req.table.of)

pub returns-in-Ran-clause-told : goal.returns-in-Ran-clause-told
returns-in-Ran-clause-told g c =
    let way = c.args.way.now in
    let req = c.requires in
    let e = c.in-Ran.ensures in
    end_by c.args.book.now way.outline.now c.args.state.now (view_of c.args.seat.now) way.used way.table.now req.outline
    req.begun.within req.table req.agrees c.end_step.new.state (view_of c.end_step.new.seat) (Ran c.in-Ran.stint) e.goes (e.told req.table.plan req.table.of)

pub returns-in-Behind-clause-agrees : goal.returns-in-Behind-clause-agrees
returns-in-Behind-clause-agrees g c =
    let way = c.args.way.now in
    let req = c.requires in
    let e = c.in-Behind.ensures in
    agrees_by c.args.book.now way.outline.now c.args.state.now (view_of c.args.seat.now) way.used way.table.now req.outline
    req.begun.within req.table req.agrees c.end_step.new.state (view_of c.end_step.new.seat) e.stands e.same.core (e.plans req.table.plan req.table.of)

pub returns-in-Behind-clause-told : goal.returns-in-Behind-clause-told
returns-in-Behind-clause-told g c =
    let way = c.args.way.now in
    let req = c.requires in
    let e = c.in-Behind.ensures in
    let v = view_of c.args.seat.now in
    let w = view_of c.end_step.new.seat in
    waits_told c.args.book.now c.args.state.now.core c.args.seen way.used c.in-Behind.core c.in-Behind.tick v w
    (g.H.Shelf.state c.args.shelf.now) (g.H.Shelf.state c.wait.new.shelf) c.wait.result (record {
      end = end_by c.args.book.now way.outline.now c.args.state.now v way.used way.table.now req.outline req.begun.within req.table
          req.agrees c.end_step.new.state w (Behind c.in-Behind.core c.in-Behind.tick) e.goes (e.told req.table.plan req.table.of);
      still = e.waits;
    }) c.wait.ensures.told
