use Rattle.std.proofs.Common.{◌≡◌, ℕ, Some, length, ap, subst, arith}
use Rattle.table_form.specs.Running.Outlines.{OutlineView}
use Rattle.live_book.specs.Finding.{is_stopped}
use Rattle.live_plan.proofs.controller.held_back.Goals as goal

pub returns-then-is_stopped-clause-held : goal.returns-then-is_stopped-clause-held
returns-then-is_stopped-clause-held g c = (
  record {
    some = omega (arith, c.if-event-count.false, c.count.ensures.count, ap (λ (o : OutlineView). length o.ticks) c.outline.ensures);
    is = omega (arith, c.if-change-changes_before.false, c.changes_before-change.ensures.count, c.changes_before.ensures.count);
    number = c.changes_before-change.ensures.count;
  },
  record {
    made = c.in-Some.made.now;
    known = c.in-Some.ensures.found;
    is = (let t = c.if-is_stopped.true in let s = c.is_stopped.ensures in let f = ap is_stopped c.found.ensures.found in cc);
  },
)

pub returns-else-is_stopped-clause-held : goal.returns-else-is_stopped-clause-held
returns-else-is_stopped-clause-held g c = λ some change. record {
  made = c.in-Some.made.now;
  known = subst (λ (k : ℕ). (g.H.Shelf.state c.look.new.self).known k ≡ Some c.in-Some.made.now)
      c.changes_before-change.ensures.count c.in-Some.ensures.found;
  is = (let t = c.if-is_stopped.false in let s = c.is_stopped.ensures in let f = ap is_stopped c.found.ensures.found in cc);
}
