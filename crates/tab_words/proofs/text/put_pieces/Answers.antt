use Rattle.std.proofs.lemmas.Result.{err_from_is_err_and}
use Rattle.tab_words.specs.Pieces.{piece_text}
use Rattle.tab_words.proofs.PieceLemmas.{pieces_last, pieces_broken}
use Rattle.tab_words.proofs.text.put_pieces.Goals as goal

pub returns-in_err-put_piece : goal.returns-in_err-put_piece
returns-in_err-put_piece g c =
    let p = err_from_is_err_and c.from_residual.result c.from_residual.ensures.1 in
    rw p.1 (pieces_broken _ _ _ piece_text c.args.pieces.now c.loop-piece.piece-index _ (tt {0}) _
    c.in_err-put_piece.field-0.0 c.loop-piece-test.true c.loop-piece.invariant c.put_piece.ensures
    c.in_err-put_piece.was)

pub loop-piece-preserved : goal.loop-piece-preserved
loop-piece-preserved g c = pieces_last _ _ _ piece_text c.args.pieces.now c.loop-piece.piece-index _ (tt {0})
    c.in_ok-put_piece.field-0 _ c.loop-piece-test.true c.loop-piece.invariant c.put_piece.ensures
    c.in_ok-put_piece.was
