use Rattle.std.proofs.Common.{◌-◌, arith, refl}
use Rattle.host_judge.proofs.PlaceLemmas.{placed_first, places_run}
use Rattle.host_judge.proofs.WindowLemmas.{run_more}
use Rattle.host_judge.proofs.windows.Windows.run_on.Goals as goal

pub returns-clause-counted : goal.returns-clause-counted
returns-clause-counted c = λ cut has is held.
    let pushed = rw c.reserve.ensures.items at c.push_back_reserved.ensures.items in
    run_more cut c.args.from c.args.to c.saturating_sub.result c.args.self.now _ c.drop_by.new.self _
    c.requires.order has held is refl refl refl refl pushed c.drop_by.ensures.window c.drop_by.ensures.least (omega arith)
    (λ trail. c.drop_by.ensures.trail cut c.args.to trail)
    (c.least_running-least.ensures.counted cut has is held)

pub returns-clause-placed : goal.returns-clause-placed
returns-clause-placed c = λ course has on.
    let pushed = rw c.reserve.ensures.items at c.push_back_reserved.ensures.items in
    c.drop_by.ensures.placed course c.args.to
    (places_run course c.args.at c.args.from c.args.to c.args.self.now _ _ c.requires.order has on
    c.waits_from-paused_ns.ensures refl refl refl refl pushed refl
    (c.least_running-least.ensures.placed course has
    (placed_first course c.args.at c.args.from (c.args.to - c.args.from) (omega (arith, c.requires.order)) on)))
