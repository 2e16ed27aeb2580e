use Rattle.std.proofs.Common.{map, ap, ◌∙◌}
use Rattle.tab_words.specs.Pieces.{piece_text}
use Rattle.tab_words.specs.Texts.{line_of}
use Rattle.tab_words.proofs.TextLemmas.{line_of_none, line_spaced, three_appended}
use Rattle.tab_words.proofs.line_block.gather.Goals as goal

pub returns-in_default-clause-ok : goal.returns-in_default-clause-ok
returns-in_default-clause-ok g c =
    rw (line_of_none c.args.words.now c.in_default.ensures.cases) c.gather_byte.ensures.ok

pub returns-clause-ok : goal.returns-clause-ok
returns-clause-ok g c =
    let parts = ap (λ ws. line_of (map piece_text ws)) c.in-Some.ensures.cases.0
    ∙ line_spaced c.in-Some.word.now c.in-Some.more.now in
    rw (three_appended _ _ _ _ _ _ _ c.in_ok-gather_word.ensures.ok c.in_ok-gather_spaced.ensures.ok parts)
    c.gather_byte-2.ensures.ok
