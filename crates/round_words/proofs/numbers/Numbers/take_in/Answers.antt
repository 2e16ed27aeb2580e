use Rattle.std.proofs.Common.{rules, ℕ, List, ap, ◌∙◌}
use Rattle.std.specs.Prelude.{slice_index}
use Rattle.round_words.proofs.NumbersLemmas.{agree_both}
use Rattle.round_words.proofs.numbers.Numbers.take_in.Goals as goal

pub returns : goal.returns
returns c = λ v u mine theirs.
    let same = c.forget_others.ensures.same in
    agree_both c.args.self.now c.args.theirs.now _ _ v u (search rules) (search rules) (search rules)
    (c.forget_others.ensures.floor, c.forget_others.ensures.held, c.forget_others.ensures.others) c.take_over.ensures
    (λ k lt. ap (λ (xs : List ℕ). slice_index xs k) same.3 ∙ c.take_over-2.ensures k lt)
    (λ k lt. ap (λ (xs : List ℕ). slice_index xs k) same.4 ∙ c.take_rows.ensures k lt) mine theirs
