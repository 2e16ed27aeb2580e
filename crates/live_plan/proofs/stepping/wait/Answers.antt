use Rattle.std.proofs.Common.{◌≡◌, ℕ, Some, length, inr, refl, sym, ap, subst, ◌∙◌, arith}
use Rattle.live_book.specs.Finding.{is_stopped}
use Rattle.live_plan.proofs.stepping.wait.Goals as goal

pub returns-then-is_stopped-clause-told : goal.returns-then-is_stopped-clause-told
returns-then-is_stopped-clause-told g c = (
  record {
    some = omega (arith, c.if-change-changes.false, ap length c.changes.ensures.changes);
    first = c.changes_before-change.ensures.count;
  },
  record {
    made = c.in-Some.made.now;
    known = c.in-Some.ensures.found;
    is = (let t = c.if-is_stopped.true in let s = c.is_stopped.ensures in let f = ap is_stopped c.found.ensures.found in cc);
  },
)

pub returns-else-is_stopped-clause-told : goal.returns-else-is_stopped-clause-told
returns-else-is_stopped-clause-told g c = (
  refl,
  refl,
  λ change beyond. inr (record {
    made = c.in-Some.made.now;
    known = subst (λ (k : ℕ). (g.H.Shelf.state c.look.new.self).known k ≡ Some c.in-Some.made.now)
        (c.changes_before-change.ensures.count ∙ sym beyond.first) c.in-Some.ensures.found;
    is = (let t = c.if-is_stopped.false in let s = c.is_stopped.ensures in let f = ap is_stopped c.found.ensures.found in cc);
  }),
)
