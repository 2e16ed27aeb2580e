use Rattle.std.proofs.Common.{◌≡◌, ℕ, sym, ap, ◌∙◌, subst, arith}
use Rattle.table_form.specs.Running.Courses.{CourseView, FitsRounds, plan_after, plan_number_after}
use Rattle.round_words.specs.declared.view.View.{View}
use Rattle.round_words.specs.Seats.{view_of}
use Rattle.round_words.specs.Views.{part}
use Rattle.crew_turns.specs.Going.{PartsGoOn}
use Rattle.dispatch_core.specs.States.{ActorView, actor_view}
use Rattle.dispatch_core.proofs.StateLemmas.{agrees_ended}
use Rattle.core_workers.specs.Actors.{CoreAgrees}
use Rattle.core_workers.proofs.Causes.{steps_parts}
use Rattle.core_workers.proofs.member.MemberStepper.run_on.Goals as goal

pub returns-clause-agrees : goal.returns-clause-agrees
returns-clause-agrees g c =
    let course : CourseView = c.self.inside.course.now in
    let s = c.self.inside.state in
    let v : View = view_of c.args.seat.now in
    let used : ℕ = c.in-Some.used in
    let old : CoreAgrees (actor_view course s) v = subst (λ (x : ActorView). CoreAgrees x v) (sym c.self.view_is) c.requires.agrees in
    let of = c.self.invariant.0.each (plan_number_after course used) c.table_after-table.result.now c.table_after-table.ensures in
    let e = c.run_on.ensures in
    record {
      course_kept = old.course_kept;
      fits = subst (FitsRounds course) (sym e.same.rounds) old.fits;
      agrees = agrees_ended course c.outline-outline.result.now used s c.run_on.new.state v (view_of c.run_on.new.seat) c.outline-outline.ensures.outline
          old.agrees e.stands e.same.core (e.plans (plan_after course used) of);
    }

pub returns-clause-parts : goal.returns-clause-parts
returns-clause-parts g c =
    let told = c.run_on.ensures.told in
    steps_parts c.outline-outline.result.now c.self.inside.state.rounds c.self.inside.state.core told.count (view_of c.args.seat.now) (view_of c.run_on.new.seat) told.steps

pub returns-clause-place : goal.returns-clause-place
returns-clause-place g c =
    let a : ActorView = actor_view c.self.inside.course.now c.self.inside.state in
    let core : ℕ = a.state.core in
    let v : View = view_of c.args.seat.now in
    let w : View = view_of c.run_on.new.seat in
    let agrees : CoreAgrees a v = subst (λ (x : ActorView). CoreAgrees x v) (sym c.self.view_is) c.requires.agrees in
    let parts : PartsGoOn v w = returns-clause-parts g c in
    let e = c.run_on.ensures in
    let new : c.run_on.new.state.clock ≡ (part w core).clock = e.stands.clock ∙ ap (λ (k : ℕ). (part w k).clock) e.same.core in
    omega (arith, ap (λ (x : ActorView). x.state.clock) c.self.view_is, agrees.agrees.stands.clock, new, (parts core).clock)
