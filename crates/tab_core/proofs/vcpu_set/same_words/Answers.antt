use Rattle.std.proofs.Common.{ap, ◌∙◌, sym, List, ℕ, nat_eq}
use Rattle.std.proofs.lemmas.Cmp.{nat_list_eq_equiv}
use Rattle.std.specs.Cmp.Lexicographic.{pointwise, same_text}
use Rattle.tab_core.specs.VcpuSets.{members_of}
use Rattle.tab_core.proofs.Bits.{same_members}
use Rattle.tab_core.proofs.vcpu_set.same_words.Goals as goal

pub returns : goal.returns
returns c = (
  λ same. ap members_of (same_text c.args.a.now c.args.b.now (sym same ∙ c.eq.ensures)),
  λ same.
      let words = same_members c.args.a.now c.args.b.now c.told-a c.told-b c.fits-a c.fits-b same in
      c.eq.ensures ∙ (ap (λ (b : List ℕ). pointwise nat_eq c.args.a.now b) (sym words)
      ∙ nat_list_eq_equiv.refl c.args.a.now),
)
