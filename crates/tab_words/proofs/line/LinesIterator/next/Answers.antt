use Rattle.std.proofs.Common.{rules, ◌≡◌, [], sym, ap, ◌∙◌}
use Rattle.std.proofs.lemmas.List.{nil_from_length}
use Rattle.tab_words.specs.Lines.{lines_of}
use Rattle.tab_words.proofs.LineLemmas.{lines_of-nil}
use Rattle.tab_words.proofs.line.LinesIterator.next.Goals as goal

pub returns-then-is_empty-clause-steps : goal.returns-then-is_empty-clause-steps
returns-then-is_empty-clause-steps c =
    let none : c.self.inside.rest.now ≡ [] = nil_from_length c.self.inside.rest.now (search rules) in
    let left : c.args.self.now ≡ [] = sym c.self.view_is ∙ (ap lines_of none ∙ lines_of-nil) in
    (left, left)
