use Rattle.std.proofs.lemmas.Result.{err_from_is_err_and}
use Rattle.tab_words.proofs.PieceLemmas.{pieces_last, pieces_broken}
use Rattle.advice.specs.Parts.{part_text}
use Rattle.advice.proofs.part.put_parts.Goals as goal

pub returns-in_err-put_part : goal.returns-in_err-put_part
returns-in_err-put_part g c =
    let p = err_from_is_err_and c.from_residual.result c.from_residual.ensures.1 in
    rw p.1 (pieces_broken _ _ _ part_text c.args.parts.now c.loop-part.part-index _ (tt {0}) _
    c.in_err-put_part.field-0.0 c.loop-part-test.true c.loop-part.invariant c.put_part.ensures
    c.in_err-put_part.was)

pub loop-part-preserved : goal.loop-part-preserved
loop-part-preserved g c = pieces_last _ _ _ part_text c.args.parts.now c.loop-part.part-index _ (tt {0})
    c.in_ok-put_part.field-0 _ c.loop-part-test.true c.loop-part.invariant c.put_part.ensures
    c.in_ok-put_part.was
