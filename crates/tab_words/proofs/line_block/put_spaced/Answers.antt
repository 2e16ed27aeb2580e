use Rattle.std.proofs.lemmas.Result.{err_from_is_err_and}
use Rattle.tab_words.specs.Pieces.{spaced}
use Rattle.tab_words.proofs.PieceLemmas.{pieces_last, pieces_broken}
use Rattle.tab_words.proofs.line_block.put_spaced.Goals as goal

pub returns-in_err-put_space_and : goal.returns-in_err-put_space_and
returns-in_err-put_space_and g c =
    let p = err_from_is_err_and c.from_residual.result c.from_residual.ensures.1 in
    rw p.1 (pieces_broken _ _ _ spaced c.args.words.now c.loop-word.word-index _ (tt {0}) _
    c.in_err-put_space_and.field-0.0 c.loop-word-test.true c.loop-word.invariant c.put_space_and.ensures
    c.in_err-put_space_and.was)

pub loop-word-preserved : goal.loop-word-preserved
loop-word-preserved g c = pieces_last _ _ _ spaced c.args.words.now c.loop-word.word-index _ (tt {0})
    c.in_ok-put_space_and.field-0 _ c.loop-word-test.true c.loop-word.invariant c.put_space_and.ensures
    c.in_ok-put_space_and.was
