use Rattle.std.proofs.Common.{rules, ◌≡◌, [], sym, ap, ◌∙◌}
use Rattle.std.proofs.lemmas.List.{nil_from_length}
use Rattle.tab_words.specs.Words.{words_of}
use Rattle.tab_words.proofs.WordLemmas.{words_of-nil}
use Rattle.tab_words.proofs.word.WordsIterator.next.Goals as goal

pub returns-then-is_empty-clause-steps : goal.returns-then-is_empty-clause-steps
returns-then-is_empty-clause-steps c =
    let none : c.without_spaces-line.result.now ≡ [] =
    nil_from_length c.without_spaces-line.result.now (search rules) in
    let left : words_of c.without_spaces-line.result.now ≡ [] = ap words_of none ∙ words_of-nil in
    (sym c.self.view_is ∙ (sym c.without_spaces-line.ensures.words ∙ left), left)
