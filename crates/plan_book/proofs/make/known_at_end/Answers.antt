use Rattle.std.proofs.Common.{◌≡◌, ◌+◌, ◌<◌, List, length, get_or, subst}
use Rattle.script_doc.specs.declared.event.Event.{Event}
use Rattle.plan_book.proofs.CourseOfBook.{invariant_at_end}
use Rattle.plan_book.proofs.MadesLemmas.{made_left, next_made}
use Rattle.plan_book.specs.Inside.Making.{known_of}
use Rattle.plan_book.proofs.PlannedAfter.{known_planned}
use Rattle.plan_book.proofs.MakingLemmas.{few_plans, known_next, invariant_next, next_within}
use Rattle.plan_book.proofs.make.known_at_end.Goals as goal

pub loop-event-init : goal.loop-event-init
loop-event-init c = record { book = c.in_ok-so_far.ensures; made = c.requires.made }

pub apply-requires-clause-within : goal.apply-requires-clause-within
apply-requires-clause-within c =
    let same = c.events-event-items.ensures.same in
    next_within c.args.host.now c.args.script.now c.loop-event.event-index c.event-item.result
    c.loop-event.so_far _ _ c.loop-event.invariant.book c.requires.within
    (subst (λ (es : List Event). c.loop-event.event-index < length es) same c.loop-event-test.true)
    (subst (λ (es : List Event). c.event-item.result
    ≡ get_or es c.loop-event.event-index c.event-item.result) same c.event-item.is)

pub apply-requires-clause-tasks : goal.apply-requires-clause-tasks
apply-requires-clause-tasks c =
    (known_planned c.args.host.now c.args.script.now c.loop-event.event-index (known_of c.loop-event.so_far)
    c.loop-event.invariant.book.known).layout.is_start.tasks_are

pub add-requires-clause-few : goal.add-requires-clause-few
add-requires-clause-few c =
    let same = c.events-event-items.ensures.same in
    few_plans c.args.host.now c.args.script.now (c.loop-event.event-index + 1) c.apply.new.self
    (known_next c.args.host.now c.args.script.now c.loop-event.event-index c.event-item.result
    c.loop-event.so_far c.apply.new.self c.loop-event.invariant.book.known
    (subst (λ (es : List Event). c.loop-event.event-index < length es) same c.loop-event-test.true)
    (subst (λ (es : List Event). c.event-item.result
    ≡ get_or es c.loop-event.event-index c.event-item.result) same c.event-item.is)
    c.in_ok-apply.ensures.applies) c.events-event-items.ensures.few_changes

pub loop-event-preserved : goal.loop-event-preserved
loop-event-preserved c =
    let same = c.events-event-items.ensures.same in
    record {
      book = invariant_next c.args.host.now c.args.script.now c.loop-event.event-index c.event-item.result
          c.loop-event.so_far c.apply.new.self _ _ _ _ c.loop-event.invariant.book
          (subst (λ (es : List Event). c.loop-event.event-index < length es) same c.loop-event-test.true)
          (subst (λ (es : List Event). c.event-item.result
          ≡ get_or es c.loop-event.event-index c.event-item.result) same c.event-item.is)
          c.in_ok-apply.ensures.applies c.in_ok-apply.ensures.keeps_plans
          (c.in_ok-apply.ensures.fits c.loop-event.invariant.book.fits)
          c.in_ok-add.ensures.numbers c.in_ok-add.ensures.runnable;
      made = made_left c.args.host.now c.args.script.now c.loop-event.made c.apply.new.made
          c.loop-event.invariant.made c.in_ok-apply.ensures.left;
    }

pub apply-requires-clause-made : goal.apply-requires-clause-made
apply-requires-clause-made c =
    let same = c.events-event-items.ensures.same in
    next_made c.args.host.now c.args.script.now c.loop-event.event-index c.event-item.result c.loop-event.so_far
    c.loop-event.made c.loop-event.invariant.book.known
    (subst (λ (es : List Event). c.loop-event.event-index < length es) same c.loop-event-test.true)
    (subst (λ (es : List Event). c.event-item.result
    ≡ get_or es c.loop-event.event-index c.event-item.result) same c.event-item.is) c.loop-event.invariant.made

pub returns : goal.returns
returns c =
    invariant_at_end c.args.host.now _ c.args.script.now c.loop-event.event-index c.loop-event.so_far _ _
    c.loop-event.invariant.book c.events-event-items.ensures.same c.loop-event.auto.event-index-end c.loop-event-test.false
