use Rattle.std.proofs.Common.{arith, inl, inr, rules, bit_or}
use Rattle.std.proofs.lemmas.Bool.{cases_eq}
use Rattle.std.proofs.lemmas.Bool.Decides.{nat_tests}
use Rattle.tab_core.proofs.Bits.{common_of_words, none_of_words}
use Rattle.tab_core.proofs.vcpu_set.words_meet.Goals as goal

pub returns : goal.returns
returns c =
    let a = c.args.a.now in
    let b = c.args.b.now in
    let x = c.common_from.result in
    let y = c.common_from-2.result in
    let z = c.common_from-3.result in
    let w = c.common_from-4.result in (
      λ is. common_of_words a b x y z w (search rules) (search rules) (search rules) (search rules)
          c.common_from.ensures c.common_from-2.ensures c.common_from-3.ensures c.common_from-4.ensures
          (λ none. grind (arith, nat_tests)),
      λ common. elim (cases_eq (bit_or (bit_or x y) (bit_or z w)) 0) [
        | inl none ↦ absurd (none_of_words a b x y z w common.0 c.common_from.ensures c.common_from-2.ensures
            c.common_from-3.ensures c.common_from-4.ensures none common.1)
        | inr some ↦ grind (arith, nat_tests)
      ],
    )
