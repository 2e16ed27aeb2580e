use Rattle.std.proofs.Common.{arith, refl}
use Rattle.host_judge.proofs.PlaceLemmas.{lesser_placed, places_least, places_wait}
use Rattle.host_judge.proofs.WindowLemmas.{wait_few, wait_more}
use Rattle.host_judge.proofs.windows.Windows.wait_on.Goals as goal

pub returns-then-to-self-clause-counted : goal.returns-then-to-self-clause-counted
returns-then-to-self-clause-counted c = λ cut has is held.
    wait_few cut c.args.from c.args.to c.args.self.now _ c.requires.order has held (omega arith) refl refl refl refl

pub returns-then-to-self-clause-placed : goal.returns-then-to-self-clause-placed
returns-then-to-self-clause-placed c = λ course has on.
    places_wait course c.args.at _ c.args.from c.args.to c.args.self.now _ c.requires.order has on c.waits_from-begun.ensures refl
    refl refl refl

pub returns-clause-counted : goal.returns-clause-counted
returns-clause-counted c = λ cut has is held.
    wait_more cut c.args.from c.args.to c.args.ran c.args.self.now _ c.drop_by.new.self _ c.start_at-start.result _
    c.requires.order has held is (omega arith) refl refl refl refl c.drop_by.ensures.window c.drop_by.ensures.least
    (c.drop_by.ensures.trail cut c.args.to) (c.start_at-start.ensures.counted cut c.args.to (omega arith))
    (omega arith) refl refl refl refl c.lesser-self.ensures

pub returns-clause-placed : goal.returns-clause-placed
returns-clause-placed c = λ course has on.
    let all = c.drop_by.ensures.placed course c.args.to
    (places_wait course c.args.at _ c.args.from c.args.to c.args.self.now _ c.requires.order has on c.waits_from-begun.ensures refl
    refl refl refl) in
    places_least course c.args.to c.drop_by.new.self _ all refl refl refl
    (rw c.lesser-self.ensures (lesser_placed course c.drop_by.new.self.least _ all.least
    (c.start_at-start.ensures.placed course c.args.to all)))
