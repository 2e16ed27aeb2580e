use Rattle.std.proofs.Common.{ℕ, sym, ◌∙◌, subst}
use Rattle.round_words.specs.Shown.{HoldsCore}
use Rattle.round_words.specs.Views.{part}
use Rattle.dispatch_core.specs.Parts.{IsNewPart}
use Rattle.dispatch_core.proofs.StateLemmas.{plans_new, stands_new}
use Rattle.dispatch_core.proofs.state.CoreState.make.Goals as goal

pub returns-clause-stands : goal.returns-clause-stands
returns-clause-stands c = λ v of core fresh.
    let log = c.in_ok-log.log in
    let is = sym c.index.ensures.value ∙ sym c.in_ok-log.ensures.same.0 in
    stands_new c.args.outline.now log v c.in_ok-log.ensures.log.1 of (subst (HoldsCore v) is core) (subst (λ (i : ℕ). IsNewPart (part v i)) is fresh)

pub returns-clause-agrees : goal.returns-clause-agrees
returns-clause-agrees c = λ course v same of core fresh.
    let log = c.in_ok-log.log in
    let is = sym c.index.ensures.value ∙ sym c.in_ok-log.ensures.same.0 in
    let new = subst (λ (i : ℕ). IsNewPart (part v i)) is fresh in record {
      stands = stands_new _ log v c.in_ok-log.ensures.log.1 of (subst (HoldsCore v) is core) new;
      plans = plans_new course log (part v log.core) c.in_ok-log.ensures.log.1 new.stints;
    }
