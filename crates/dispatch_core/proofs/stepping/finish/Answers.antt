use Rattle.std.proofs.Common.{refl}
use Rattle.table_form.specs.Running.Courses.{CourseView, plan_after, plan_number_after}
use Rattle.table_form.proofs.CourseLemmas.{in_course}
use Rattle.round_words.specs.Seats.{view_of}
use Rattle.round_words.specs.Views.{part}
use Rattle.dispatch_core.specs.declared.answer.Ended.TheVariants.{Ran, Behind}
use Rattle.dispatch_core.specs.States.{FollowsPlans}
use Rattle.dispatch_core.specs.Told.{EndTold}
use Rattle.dispatch_core.proofs.StateLemmas.{agrees_ended}
use Rattle.dispatch_core.proofs.stepping.finish.Goals as goal

pub returns-in-Ran : goal.returns-in-Ran
returns-in-Ran c =
    let course : CourseView = c.args.course.now in
    let s = c.args.state.now in
    let t = c.end_step.new.state in
    let v = view_of c.args.seat.now in
    let w = view_of c.end_step.new.seat in
    let of = c.requires.slices.each (plan_number_after course c.args.used) c.table_after.result.now c.table_after.ensures in
    let is = c.outline.ensures.outline in
    let e = c.in-Ran.ensures in
    record {
      board = e.board;
      agrees = agrees_ended course c.outline.result.now c.args.used s t v w is c.requires.agrees e.stands e.same.core (e.plans (plan_after course c.args.used) of);
      same = e.same;
      changes = e.changes;
      told = in_course course c.outline.result.now c.args.used (plan_after course c.args.used)
          (λ (x : CourseView). FollowsPlans x s (part v s.core) → EndTold x s.core v (Ran c.in-Ran.stint) w) is refl
          (e.told (plan_after course c.args.used) of) c.requires.agrees.plans;
    }

pub returns-in-Behind : goal.returns-in-Behind
returns-in-Behind c =
    let course : CourseView = c.args.course.now in
    let s = c.args.state.now in
    let t = c.end_step.new.state in
    let v = view_of c.args.seat.now in
    let w = view_of c.end_step.new.seat in
    let of = c.requires.slices.each (plan_number_after course c.args.used) c.table_after.result.now c.table_after.ensures in
    let is = c.outline.ensures.outline in
    let e = c.in-Behind.ensures in
    record {
      board = e.board;
      agrees = agrees_ended course c.outline.result.now c.args.used s t v w is c.requires.agrees e.stands e.same.core (e.plans (plan_after course c.args.used) of);
      same = e.same;
      changes = e.changes;
      told = in_course course c.outline.result.now c.args.used (plan_after course c.args.used)
          (λ (x : CourseView). FollowsPlans x s (part v s.core) → EndTold x s.core v (Behind c.in-Behind.core c.in-Behind.tick) w) is refl
          (e.told (plan_after course c.args.used) of) c.requires.agrees.plans;
    }
