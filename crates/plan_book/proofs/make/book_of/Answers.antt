use Rattle.std.proofs.Common.{ap, subst, sym, ◌∙◌}
use Rattle.table_form.specs.Running.CourseViews.{course_view}
use Rattle.table_form.specs.Running.Courses.{IsCourseForm}
use Rattle.plan_book.specs.Courses.{ticks_of}
use Rattle.plan_book.proofs.CourseOfBook.{book_is, form_of, outcomes_few}
use Rattle.plan_book.proofs.make.book_of.Goals as goal

pub of-course-requires : goal.of-course-requires
of-course-requires c =
    let known = c.in_ok-so_far.so_far in
    let counts = c.in_ok-so_far.counts in
    let form = form_of c.args.host.now c.args.script.now known _ _ c.in_ok-so_far.ensures
    c.events.ensures.order c.events.ensures.few in
    let ticks = c.in_ok-ticks.ensures ∙ ap ticks_of c.events.ensures.same in
    subst (λ ts. IsCourseForm
    (course_view c.args.host.now.cores c.args.host.now.lag c.args.host.now.quantum ts
    known.plans.items counts.numbers.items counts.runnable.items)) (sym ticks) form

pub of-requires : goal.of-requires
of-requires c =
    outcomes_few c.args.host.now c.args.script.now c.in_ok-so_far.so_far _ _ c.in_ok-so_far.ensures c.events.ensures.few_changes

pub returns : goal.returns
returns c =
    let known = c.in_ok-so_far.so_far in
    let counts = c.in_ok-so_far.counts in
    record {
      so_far = known;
      numbers = counts.numbers.items;
      runnable = counts.runnable.items;
      invariant = c.in_ok-so_far.ensures;
      is = book_is c.args.host.now _ c.args.script.now known _ _ _ c.of-course.result c.of.result c.events.ensures.same
          c.in_ok-ticks.ensures c.of-course.ensures c.of.ensures;
    }
