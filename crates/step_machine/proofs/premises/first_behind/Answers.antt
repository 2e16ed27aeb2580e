use Rattle.std.proofs.Common.{◌≡◌, ℕ, inl, inr, length, Some, refl, ap, sym, subst, ◌∙◌, arith, rules}
use Rattle.std.specs.Prelude.{slice_get}
use Rattle.std.proofs.lemmas.Bool.{cases_lt}
use Rattle.std.proofs.lemmas.Option.{slice_get_read}
use Rattle.step_machine.specs.declared.core_log.CoreLog.{CoreLog}
use Rattle.table_form.specs.Running.State.{CoreState}
use Rattle.step_machine.specs.Inside.Logs.{core_of_log}
use Rattle.step_machine.proofs.LogLemmas.{log_at, core_at, found_at, core_within}
use Rattle.step_machine.proofs.premises.first_behind.Goals as goal

pub returns-then-is_behind-clause-some : goal.returns-then-is_behind-clause-some
returns-then-is_behind-clause-some c = record {
  other = core_of_log c.index-logs-d.result;
  at = core_at c.args.logs.now c.loop-d.d c.index-logs-d.result
      (slice_get_read c.args.logs.now (length c.args.logs.now) c.loop-d.d c.index-logs-d.result refl
      (let lt = c.loop-d-test.true in omega arith) c.index-logs-d.is);
  not_skipped = (c.is_behind.ensures.yes (search rules)).0;
  clock_is = refl;
  low = (c.is_behind.ensures.yes (search rules)).1;
  lowest = λ e core lt at ne. c.loop-d.invariant e core lt at ne;
}

pub loop-d-preserved : goal.loop-d-preserved
loop-d-preserved c = λ k core lt at ne. elim (cases_lt k c.loop-d.d) [
  | inl lower ↦ c.loop-d.invariant k core lower at ne
  | inr top ↦ (let is : k ≡ c.loop-d.d = omega arith in
      let found = log_at c.args.logs.now k core at in
      let same_log = found_at c.args.logs.now c.loop-d.d c.index-logs-d.result found.0
      (subst (λ (x : ℕ). slice_get c.args.logs.now x ≡ Some found.0) is found.1)
      c.index-logs-d.is in
      let clock = ap (λ (x : CoreState). x.clock) found.2 in
      let clock' = ap (λ (x : CoreLog). x.clock) same_log in
      let le = c.is_behind.ensures.no (search rules) (λ e. ne (e ∙ ap Some (sym is))) in omega arith)
]

pub returns-clause-none : goal.returns-clause-none
returns-clause-none c = λ d other at ne. c.loop-d.invariant d other
    (let lt = core_within c.args.logs.now d other at in omega arith) at ne
