use Rattle.std.proofs.Common.{◌≡◌, IsTrue, [], map, sym, ◌∙◌, append-nil, arith}
use Rattle.std.proofs.lemmas.Grind.{common_steps}
use Rattle.tab_words.specs.Pieces.{piece_text}
use Rattle.plan_text.proofs.LineWordLemmas.{all_matched}
use Rattle.plan_text.proofs.line_words.has_words.Goals as goal

pub returns-in-Some : goal.returns-in-Some
returns-in-Some c =
    let empty : IsTrue c.is_none.result → c.in-Some.words ≡ [] = λ none. grind (arith, common_steps) in
    let fills : c.in-Some.words ≡ [] → IsTrue c.is_none.result = λ none. grind (arith, common_steps) in
    all_matched _ (map piece_text c.args.expected.now) c.in-Some.words c.is_none.result
    c.in-Some.ensures empty fills

pub returns-in-None : goal.returns-in-None
returns-in-None c = (λ no. absurd (cc), λ same. absurd (c.in-None.ensures [] (same ∙ sym (append-nil _))))
