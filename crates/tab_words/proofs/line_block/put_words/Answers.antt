use Rattle.std.proofs.Common.{map, ap, refl, ◌∙◌}
use Rattle.std.proofs.lemmas.Result.{err_from_is_err_and}
use Rattle.tab_io.proofs.SinkLemmas.{all_left, left_behind, left_broken, left_last}
use Rattle.tab_words.specs.Pieces.{piece_text}
use Rattle.tab_words.specs.Texts.{line_of}
use Rattle.tab_words.proofs.TextLemmas.{line_of_none, line_spaced}
use Rattle.tab_words.proofs.line_block.put_words.Goals as goal

pub returns-in_default : goal.returns-in_default
returns-in_default g c =
    rw (line_of_none c.args.words.now c.in_default.ensures.cases) c.write_all.ensures

pub returns-in_err-put_piece : goal.returns-in_err-put_piece
returns-in_err-put_piece g c =
    let parts = ap (λ ws. line_of (map piece_text ws)) c.in-Some.ensures.cases.0
    ∙ line_spaced c.in-Some.word.now c.in-Some.more.now in
    let p = err_from_is_err_and c.from_residual.result c.from_residual.ensures.1 in
    rw p.1 (left_broken _ _ _ _ _ _ _ _ _ (all_left _ _) parts c.put_piece.ensures c.in_err-put_piece.was)

pub returns-in_err-put_spaced : goal.returns-in_err-put_spaced
returns-in_err-put_spaced g c =
    let parts = ap (λ ws. line_of (map piece_text ws)) c.in-Some.ensures.cases.0
    ∙ line_spaced c.in-Some.word.now c.in-Some.more.now in
    let p = err_from_is_err_and c.from_residual-in_err-put_spaced.result
    c.from_residual-in_err-put_spaced.ensures.1 in
    let first = left_behind _ _ _ _ _ _ _ _ _ (all_left _ _) parts c.put_piece.ensures
    c.in_ok-put_piece.was in
    rw p.1 (left_broken _ _ _ _ _ _ _ _ _ first refl c.put_spaced.ensures c.in_err-put_spaced.was)

pub returns : goal.returns
returns g c =
    let parts = ap (λ ws. line_of (map piece_text ws)) c.in-Some.ensures.cases.0
    ∙ line_spaced c.in-Some.word.now c.in-Some.more.now in
    let first = left_behind _ _ _ _ _ _ _ _ _ (all_left _ _) parts c.put_piece.ensures
    c.in_ok-put_piece.was in
    let more = left_behind _ _ _ _ _ _ _ _ _ first refl c.put_spaced.ensures c.in_ok-put_spaced.was in
    left_last _ _ _ _ _ _ more c.write_all-2.ensures
