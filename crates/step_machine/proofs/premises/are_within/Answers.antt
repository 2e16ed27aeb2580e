use Rattle.std.proofs.Common.{◌≡◌, ℕ, inl, inr, Some, ap, subst, arith}
use Rattle.std.specs.Prelude.{slice_get}
use Rattle.std.proofs.lemmas.Bool.{cases_lt}
use Rattle.step_machine.specs.declared.core_log.CoreLog.{CoreLog}
use Rattle.table_form.specs.Running.State.{CoreState}
use Rattle.step_machine.proofs.LogLemmas.{log_at, found_at, core_within}
use Rattle.step_machine.proofs.premises.are_within.Goals as goal

pub loop-log-preserved : goal.loop-log-preserved
loop-log-preserved c = λ k core lt at. elim (cases_lt k c.loop-log.log-index) [
  | inl lower ↦ c.loop-log.invariant k core lower at
  | inr top ↦ (let is : k ≡ c.loop-log.log-index = omega arith in
      let found = log_at c.args.logs.now k core at in
      let same_log = found_at c.args.logs.now c.loop-log.log-index c.log-item.result found.0
      (subst (λ (x : ℕ). slice_get c.args.logs.now x ≡ Some found.0) is found.1)
      c.log-item.is in
      let clock = ap (λ (x : CoreState). x.clock) found.2 in
      let clock' = ap (λ (x : CoreLog). x.clock) same_log in
      let least = c.saturating_sub-least.ensures in
      let le = c.if-log-least.false in omega arith)
]

pub returns : goal.returns
returns c = λ yes d other at. c.loop-log.invariant d other
    (let lt = core_within c.args.logs.now d other at in
    let last = c.loop-log-test.false in omega arith) at
