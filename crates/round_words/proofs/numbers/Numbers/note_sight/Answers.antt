use Rattle.std.proofs.Common.{◌∙◌, sym, refl, arith}
use Rattle.round_words.specs.Views.{part, sees}
use Rattle.round_words.proofs.ListLemmas.{word_here, word_else, last_of-push}
use Rattle.round_words.proofs.NumbersLemmas.{agree_same, as_before}
use Rattle.round_words.proofs.numbers.Numbers.note_sight.Goals as goal

pub returns : goal.returns
returns c = λ v has agrees. let at = c.args.core in
    agree_same c.args.self.now _ v at (sees (part v at) c.args.count) agrees has (λ k. as_before (part v at) k) refl refl agrees.floor_is
    (λ e. absurd (omega (arith, c.requires.core))) (λ away. refl) (λ lt. agrees.clocks_are at lt has)
    (λ k away. refl)
    (λ lt. word_here c.args.self.now.sights at c.args.count (omega arith)
    ∙ sym (last_of-push (part v at).sights c.args.count))
    (λ k away. word_else c.args.self.now.sights at k c.args.count away) refl refl
