use Rattle.std.proofs.lemmas.Result.{err_from_is_err_and}
use Rattle.tab_words.proofs.PieceLemmas.{pieces_last, pieces_broken}
use Rattle.advice.specs.Parts.{shown_byte}
use Rattle.advice.proofs.part.put_shown.Goals as goal

pub returns-in_err-put_byte : goal.returns-in_err-put_byte
returns-in_err-put_byte g c =
    let p = err_from_is_err_and c.from_residual.result c.from_residual.ensures.1 in
    rw p.1 (pieces_broken _ _ _ shown_byte c.args.bytes.now c.loop-byte.byte-index _ (tt {0}) _
    c.in_err-put_byte.field-0.0 c.loop-byte-test.true c.loop-byte.invariant c.put_byte.ensures
    c.in_err-put_byte.was)

pub loop-byte-preserved : goal.loop-byte-preserved
loop-byte-preserved g c = pieces_last _ _ _ shown_byte c.args.bytes.now c.loop-byte.byte-index _ (tt {0})
    c.in_ok-put_byte.field-0 _ c.loop-byte-test.true c.loop-byte.invariant c.put_byte.ensures
    c.in_ok-put_byte.was
