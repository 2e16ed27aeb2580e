use Rattle.std.proofs.Common.{◌≡◌, ◌∙◌, refl, subst, sym, rules}
use Rattle.tab_words.specs.Words.{words_of}
use Rattle.plan_text.specs.OldText.{IsHomeLine, NamedHome}
use Rattle.plan_text.proofs.read_old.take_vcpu.Goals as goal

pub returns-in_default-home_of_line-clause-none : goal.returns-in_default-home_of_line-clause-none
returns-in_default-home_of_line-clause-none c = (
  refl,
  λ line rest at is.
      let none : (vcpu : NamedHome) → IsHomeLine (words_of c.in-Some.line.now) vcpu → ⊥ = search rules in
      let starts = sym c.in-Some.ensures ∙ at in
      let same : line ≡ words_of c.in-Some.line.now = cc in
      none is.0 (subst (λ l. IsHomeLine l is.0) same is.1),
)
