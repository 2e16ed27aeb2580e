use Rattle.std.proofs.Common.{◌+◌, inl, inr, arith}
use Rattle.std.proofs.lemmas.Bool.{cases_lt, lt-ltb, ltb-true}
use Rattle.dispatch_core.proofs.DueLemmas.{has_by_next}
use Rattle.dispatch_core.proofs.beginning.has_events.Goals as goal

pub returns-clause-known : goal.returns-clause-known
returns-clause-known c = (
  (λ is. has_by_next c.args.outline.now c.count.ensures.kept c.args.count c.args.clock
      (let lt = ltb-true c.args.clock (c.tick_of.result + c.lag.result) is in omega arith)),
  (λ has. elim (cases_lt c.args.clock (c.tick_of.result + c.lag.result)) [
    | inl lt ↦ lt-ltb c.args.clock (c.tick_of.result + c.lag.result) lt
    | inr le ↦ absurd (let below = has c.args.count (omega arith) (omega arith) in omega arith)
  ]),
)
