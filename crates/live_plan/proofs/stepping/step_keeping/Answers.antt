use Rattle.std.proofs.Common.{ℕ, refl, sym, subst}
use Rattle.table_form.specs.Running.Outlines.{OutlineView}
use Rattle.round_words.specs.Seats.{view_of}
use Rattle.dispatch_core.specs.declared.answer.Begun.TheVariants.{At, Behind}
use Rattle.dispatch_core.specs.States.{AgreesWithoutPlan, HasBegun}
use Rattle.dispatch_core.specs.Told.{BegunTold}
use Rattle.live_plan.specs.Actors.{IsLiveActorOf, LiveActorView, LiveAgrees, live_actor_view}
use Rattle.live_plan.specs.Inside.Finishing.{LiveFinishTold}
use Rattle.live_plan.specs.Inside.Keeping.{IsTableKept}
use Rattle.live_plan.specs.Told.{LiveTold}
use Rattle.live_plan.proofs.SteppingLemmas.{HasBegunFrom, actor_on, agrees_on, begin_waits, finish_told}
use Rattle.live_plan.proofs.stepping.step_keeping.Given.{Over}
use Rattle.live_plan.proofs.stepping.step_keeping.Goals as goal
use Rattle.live_plan.proofs.stepping.step_keeping.Goals.{After-begin_step}

-- the core agrees once the step has begun
agrees_begun : (g : Over) (c : After-begin_step g) → LiveAgrees c.args.book.now c.begin_step.new.state (view_of c.begin_step.new.seat)
agrees_begun g c =
    let e = c.begin_step.ensures in
    agrees_on c.args.book.now c.outline.result.now c.actor.inside.state c.begin_step.new.state (view_of c.args.seat.now) (view_of c.begin_step.new.seat) c.outline.ensures
    (subst (λ (a : LiveActorView). LiveAgrees c.args.book.now a.state (view_of c.args.seat.now)) (sym c.actor.view_is) c.requires.agrees) e.stands e.same.core (λ course live. e.plans course)

pub finish-requires : goal.finish-requires
finish-requires g c κs =
    let b = c.args.book.now in
    let new = c.begin_step.new.state in
    let e = c.in-At.ensures in
    let was : LiveActorView = live_actor_view c.actor.inside.state c.actor.inside.table c.actor.inside.taken in
    let of : IsLiveActorOf b was = subst (IsLiveActorOf b) (sym c.actor.view_is) c.requires.actor in
    let kept : IsTableKept b new.core c.args.kept.now = subst (λ (i : ℕ). IsTableKept b i c.args.kept.now) (sym e.same.core)
    (subst (λ (a : LiveActorView). IsTableKept b a.state.core c.args.kept.now) (sym c.actor.view_is) c.requires.kept) in
    let begun = subst (λ (o : OutlineView). HasBegun o new (view_of c.begin_step.new.seat) c.in-At.seen c.in-At.used) c.outline.ensures e.told.1 in
    let agrees = agrees_begun g (goal.at.finish-requires g c).After-begin_step in
    ((refl, tt), (e.board, (actor_on b was new of e.same.core, (agrees, (begun, (c.requires.shelf, kept))))))

pub returns-in-Finished-clause-agrees : goal.returns-in-Finished-clause-agrees
returns-in-Finished-clause-agrees g c = agrees_begun g (goal.at.returns-in-Finished-clause-agrees g c).After-begin_step

pub returns-in-Behind-clause-agrees : goal.returns-in-Behind-clause-agrees
returns-in-Behind-clause-agrees g c = agrees_begun g (goal.at.returns-in-Behind-clause-agrees g c).After-begin_step

pub returns-in-Behind-clause-told : goal.returns-in-Behind-clause-told
returns-in-Behind-clause-told g c =
    let b = c.args.book.now in
    let v = view_of c.args.seat.now in
    let w = view_of c.begin_step.new.seat in
    let s = g.H.Shelf.state c.args.shelf.now in
    let t = g.H.Shelf.state c.wait.new.shelf in
    let old = c.actor.inside.state in
    let begins = subst (λ (o : OutlineView). BegunTold o old.rounds old.core v (Behind c.in-Behind.seen c.in-Behind.tick) c.begin_step.new.state w) c.outline.ensures
    c.in-Behind.ensures.told in
    subst (λ (a : LiveActorView). LiveTold b a.state.rounds a.state.core v s c.wait.result w t) c.actor.view_is
    (begin_waits b old.rounds old.core c.in-Behind.seen c.in-Behind.tick v w s t c.begin_step.new.state c.wait.result begins c.wait.ensures.told)

pub returns-in-At-clause-told : goal.returns-in-At-clause-told
returns-in-At-clause-told g c =
    let b = c.args.book.now in
    let v = view_of c.args.seat.now in
    let u = view_of c.begin_step.new.seat in
    let w = view_of c.finish.new.seat in
    let s = g.H.Shelf.state c.args.shelf.now in
    let t = g.H.Shelf.state c.finish.new.shelf in
    let old = c.actor.inside.state in
    let seen = c.in-At.seen in
    let used = c.in-At.used in
    let e = c.in-At.ensures in
    let begins = subst (λ (o : OutlineView). BegunTold o old.rounds old.core v (At seen used) c.begin_step.new.state u) c.outline.ensures e.told in
    let from : HasBegunFrom b old.rounds old.core seen used v u c.begin_step.new.state = record {
      begins = begins.0;
      begun = begins.1;
      stands = subst (λ (o : OutlineView). AgreesWithoutPlan o c.begin_step.new.state u) c.outline.ensures e.stands;
      core = e.same.core;
      others = e.changes;
    } in
    let told = subst (λ (i : ℕ). LiveFinishTold b i seen used u s c.finish.result w t) e.same.core c.finish.ensures.told in
    subst (λ (a : LiveActorView). LiveTold b a.state.rounds a.state.core v s c.finish.result w t) c.actor.view_is
    (finish_told b old.rounds old.core seen used v u w s t c.begin_step.new.state c.finish.result from told)

pub returns-in-At-clause-kept : goal.returns-in-At-clause-kept
returns-in-At-clause-kept g c =
    subst (λ (a : LiveActorView). IsTableKept c.args.book.now a.state.core c.finish.new.kept) c.actor.view_is
    (subst (λ (i : ℕ). IsTableKept c.args.book.now i c.finish.new.kept) c.in-At.ensures.same.core c.finish.ensures.kept)
