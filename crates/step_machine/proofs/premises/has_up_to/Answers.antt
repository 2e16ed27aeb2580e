use Rattle.std.proofs.Common.{◌+◌, inl, inr, arith}
use Rattle.std.proofs.lemmas.Bool.{cases_lt, lt-ltb, ltb-true}
use Rattle.run_promises.proofs.WaitingLemmas.{has_from_next}
use Rattle.step_machine.proofs.premises.has_up_to.Goals as goal

pub returns : goal.returns
returns c = (
  (λ is. has_from_next c.args.course.now c.count.ensures.kept c.args.count c.args.clock
      (let lt = ltb-true c.args.clock (c.tick_of.result + c.lag.result) is in omega arith)),
  (λ has. elim (cases_lt c.args.clock (c.tick_of.result + c.lag.result)) [
    | inl lt ↦ lt-ltb c.args.clock (c.tick_of.result + c.lag.result) lt
    | inr le ↦ absurd (let below = has c.args.count (omega arith) (omega arith) in omega arith)
  ]),
)
