use Rattle.std.proofs.Common.{◌≡◌, ◌∷◌, [], ◌++◌, inl, inr, Ok, refl, arith}
use Rattle.std.proofs.lemmas.Grind.{common_steps}
use Rattle.plan_book.specs.Mades.{IsMadeOf}
use Rattle.plan_book.specs.declared.book_so_far.BookSoFar.{BookSoFar}
use Rattle.plan_book.proofs.NextState.{fits_taken, known_refused, known_taken}
use Rattle.plan_book.proofs.book_so_far.BookSoFar.change.Goals as goal

pub returns-in_ok-take-in-Ok-clause-applies : goal.returns-in_ok-take-in-Ok-clause-applies
returns-in_ok-take-in-Ok-clause-applies c =
    let told = c.in_ok-take-in-Ok.ensures in
    let made : IsMadeOf c.in_ok-host.host (Ok c.in-Ok.plan) = rw c.in-Ok.is at c.in_ok-plan.ensures in
    inl (known_taken c.args.self.now c.take.new.self c.args.edits.now c.in-Ok.plan c.requires.some
    (rw told.host c.in_ok-host.ensures)
    (rw (told.host) made.0) told.plans told.runnable told.outcomes)

pub returns-in_ok-take-in-Ok-clause-keeps_plans : goal.returns-in_ok-take-in-Ok-clause-keeps_plans
returns-in_ok-take-in-Ok-clause-keeps_plans c = inr (c.in-Ok.plan, c.in_ok-take-in-Ok.ensures.plans)

pub returns-in_ok-take-in-Ok-clause-fits : goal.returns-in_ok-take-in-Ok-clause-fits
returns-in_ok-take-in-Ok-clause-fits c _ =
    let told = c.in_ok-take-in-Ok.ensures in
    let made : IsMadeOf c.in_ok-host.host (Ok c.in-Ok.plan) = rw c.in-Ok.is at c.in_ok-plan.ensures in
    fits_taken c.args.self.now c.take.new.self c.in-Ok.plan told.plans
    (rw told.host made.1)

pub returns-in_ok-push-in-Err-clause-applies : goal.returns-in_ok-push-in-Err-clause-applies
returns-in_ok-push-in-Err-clause-applies c =
    let pushed : c.push.new.self.items ≡ c.args.self.now.outcomes.items ++ c.in-Err.outcome ∷ [] =
    grind (arith, common_steps) in
    let new : BookSoFar =
    record {
      host = c.args.self.now.host;
      plans = c.args.self.now.plans;
      runnable = c.args.self.now.runnable;
      outcomes = c.push.new.self;
    } in
    inr (known_refused c.args.self.now c.args.edits.now c.in_ok-host.host c.in-Err.outcome
    c.in_ok-host.ensures (rw c.in-Err.is at c.in_ok-plan.ensures) new refl pushed)
