use Rattle.std.proofs.Common.{subst}
use Rattle.table_form.specs.Running.Outlines.{OutlineView}
use Rattle.round_words.specs.declared.view.View.{View}
use Rattle.round_words.specs.Seats.{view_of}
use Rattle.dispatch_core.specs.Told.{MakesSteps}
use Rattle.live_plan.proofs.SteppingLemmas.{agrees_by}
use Rattle.live_plan.proofs.stepping.run_by.Goals as goal

pub returns-clause-agrees : goal.returns-clause-agrees
returns-clause-agrees g c =
    let way = c.args.way.now in
    let req = c.requires in
    let e = c.run_on.ensures in
    agrees_by c.args.book.now way.outline.now c.args.state.now (view_of c.args.seat.now) way.used way.table.now req.outline
    req.within req.table req.agrees c.run_on.new.state (view_of c.run_on.new.seat) e.stands e.same.core (e.plans req.table.plan req.table.of)

pub returns-clause-told : goal.returns-clause-told
returns-clause-told g c =
    let state = c.args.state.now in
    let v : View = view_of c.args.seat.now in
    let w : View = view_of c.run_on.new.seat in
    let told = c.run_on.ensures.told in
    (told.count, subst (λ (o : OutlineView). MakesSteps o state.rounds state.core told.count v w) c.requires.outline told.steps)
