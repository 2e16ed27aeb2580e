use Rattle.std.proofs.Common.{[], ◌∷◌, length, length-append, sym, ap, subst, arith}
use Rattle.live_plan.specs.Books.{LiveView}
use Rattle.live_plan.specs.Inside.Outcomes.{AreOutcomesOf}
use Rattle.live_plan.proofs.OutcomesLemmas.{outcome_back, outcomes_more, same_but_cells}
use Rattle.live_plan.proofs.into_book.outcomes_in.Goals as goal

pub loop-change-preserved : goal.loop-change-preserved
loop-change-preserved c =
    let inv = c.loop-change.invariant in
    let b : LiveView = c.args.book.now in
    let before : LiveView = c.loop-change.book in
    let e = c.in_ok-next.ensures in
    let next = c.in_ok-next.next in
    let made = c.loop-change.made.items in
    let is = c.in_ok-push.ensures.items in
    record {
      count = omega (arith, ap length is, length-append made (next ∷ []), inv.count);
      each = subst (AreOutcomesOf b) (sym is) (outcomes_more b made c.loop-change.change next inv.count inv.each
          (outcome_back b before c.loop-change.change next inv.same e.outcome));
      same = same_but_cells b before c.take_outcome.new.book inv.same e.same;
    }
