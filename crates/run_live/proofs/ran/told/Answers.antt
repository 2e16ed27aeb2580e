use Rattle.std.proofs.Common.{◌≡◌, ℕ, List, None, sym, subst}
use Rattle.table_form.specs.Running.Courses.{CourseView, IsCourse}
use Rattle.table_form.specs.Running.Complete.{IsComplete}
use Rattle.plan_book.specs.Courses.{IsCourseOf}
use Rattle.round_words.specs.declared.view.View.{View}
use Rattle.round_words.specs.Seats.{view_of}
use Rattle.run_state.specs.Readings.{state_of}
use Rattle.trace_report.specs.RunReports.{IsReportOf}
use Rattle.live_plan.proofs.CoursesLemmas.{live_course}
use Rattle.live_plan.specs.Courses.{IsLiveCourse}
use Rattle.live_plan.specs.Actors.{LiveActorView}
use Rattle.live_plan.specs.Crews.{actors_of}
use Rattle.run_live.specs.Inside.Telling.{AreLiveRunAccounts, accounts_of, live_first_used}
use Rattle.run_live.proofs.LiveRunsLemmas.{are_told, ran_so_far, report_of}
use Rattle.run_live.proofs.ran.told.Goals as goal

pub tell-requires-clause-told : goal.tell-requires-clause-told
tell-requires-clause-told c =
    let actors = c.requires.ran in
    let r = actors.ran in
    let v : View = view_of c.args.seat.now in
    let b = c.args.live in
    let course : CourseView = c.course-course.result.now in
    let kept : IsCourse course = c.cores.ensures.kept in
    let of : IsCourseOf c.args.host.now c.args.script.now course =
    subst (IsCourseOf c.args.host.now c.args.script.now) (sym c.course-course.ensures) c.in_ok-book.ensures.book_is.course in
    let live : IsLiveCourse b course = live_course c.args.host.now c.args.script.now b course c.requires.live of kept.form in
    subst (λ (told : List LiveActorView). AreLiveRunAccounts course told c.args.rounds) (sym actors.are)
    (are_told b actors.crew v r.crew_of r.agree r.holds course live (r.kept course live) (r.complete course live) kept c.shown.ensures
    (r.counts course live) c.args.rounds r.rounds_are c.requires.few)

pub returns : goal.returns
returns c =
    let actors = c.requires.ran in
    let r = actors.ran in
    let crew = actors.crew in
    let v : View = view_of c.args.seat.now in
    let b = c.args.live in
    let room = c.in_ok-book.ensures in
    let course : CourseView = c.in_ok-book.book.course in
    let kept : IsCourse course = subst IsCourse c.course-course.ensures c.cores.ensures.kept in
    let live : IsLiveCourse b course = live_course c.args.host.now c.args.script.now b course c.requires.live room.book_is.course kept.form in
    let same : crew.rounds ≡ c.args.rounds = r.rounds_are in
    let told : IsReportOf course (live_first_used (actors_of crew)) (accounts_of (actors_of crew)) c.tell.new.report =
    subst (λ (all : List LiveActorView). IsReportOf course (live_first_used all) (accounts_of all) c.tell.new.report) actors.are
    (subst (λ (k : CourseView). IsReportOf k (live_first_used c.args.actors.now) (accounts_of c.args.actors.now) c.tell.new.report) c.course-course.ensures c.tell.ensures) in
    record {
      book = room.book_is;
      course_kept = kept;
      changes = room.changes_are;
      so_far = ran_so_far b c.args.host.now c.args.script.now c.args.rounds crew v None c.requires.live r;
      complete = subst (λ (n : ℕ). IsComplete course n (state_of course v)) same (r.complete course live);
      report = report_of b crew v r.crew_of r.agree r.holds course live (r.kept course live) (r.complete course live) kept c.shown.ensures
          (r.counts course live) c.tell.new.report told;
      vcpus = room.vcpus;
    }
