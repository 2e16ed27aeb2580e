use Rattle.std.proofs.Common.{subst}
use Rattle.table_form.specs.Running.Courses.{CourseView, InEachCourse}
use Rattle.table_form.specs.Tables.Plans.{PlanView}
use Rattle.slice_table.specs.Slices.{IsTableOf}
use Rattle.round_words.specs.Seats.{view_of}
use Rattle.round_words.specs.Views.{part}
use Rattle.dispatch_core.specs.Inside.Logs.{log_view}
use Rattle.dispatch_core.specs.States.{FollowsPlans, StateView}
use Rattle.dispatch_core.specs.Told.{EndTold}
use Rattle.dispatch_core.proofs.stepping.end_step.Goals as goal

pub returns-clause-told : goal.returns-clause-told
returns-clause-told c =
    subst (λ (s : StateView). (plan : PlanView) → IsTableOf plan s.core c.args.way.now.table.now
    → InEachCourse c.args.way.now.outline.now c.args.way.now.used plan (λ (course : CourseView).
    FollowsPlans course s (part (view_of c.args.seat.now) s.core)
    → EndTold course s.core (view_of c.args.seat.now) c.end.result (view_of c.end.new.seat)))
    c.state.view_is c.end.ensures.told

pub returns-clause-plans : goal.returns-clause-plans
returns-clause-plans c =
    subst (λ (s : StateView). (plan : PlanView) → IsTableOf plan s.core c.args.way.now.table.now
    → InEachCourse c.args.way.now.outline.now c.args.way.now.used plan (λ (course : CourseView).
    FollowsPlans course s (part (view_of c.args.seat.now) s.core)
    → FollowsPlans course (log_view c.end.new.log) (part (view_of c.end.new.seat) s.core)))
    c.state.view_is c.end.ensures.plans
