use Rattle.std.proofs.Common.{◌∙◌, sym, refl, arith}
use Rattle.round_words.specs.Views.{part, with_stint}
use Rattle.round_words.proofs.ListLemmas.{word_here, word_else}
use Rattle.round_words.proofs.NumbersLemmas.{agree_same, as_before, floor_set}
use Rattle.round_words.proofs.numbers.Numbers.note_stint.Goals as goal

pub returns : goal.returns
returns c = λ v s has is agrees. let at = c.args.core in
    agree_same c.args.self.now _ v at (with_stint (part v at) s) agrees has (λ k. as_before (part v at) k) refl refl
    (floor_set c.args.self.now.clocks c.args.self.now.cores c.args.self.now.floor _ at c.args.end (omega arith) agrees.floor_is (omega arith) (omega arith))
    (λ e. absurd (omega (arith, c.requires.core))) (λ away. refl)
    (λ lt. word_here c.args.self.now.clocks at c.args.end (omega arith) ∙ sym is)
    (λ k away. word_else c.args.self.now.clocks at k c.args.end away)
    (λ lt. word_here c.args.self.now.sights at 0 (omega arith))
    (λ k away. word_else c.args.self.now.sights at k 0 away) refl refl
