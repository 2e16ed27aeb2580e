use Rattle.std.proofs.lemmas.Result.{err_from_is_err_and}
use Rattle.tab_words.proofs.PieceLemmas.{pieces_last, pieces_broken}
use Rattle.size_fit.specs.FitText.{size_row}
use Rattle.size_fit.proofs.write.put_sizes.Goals as goal

pub returns-in_err-put_size : goal.returns-in_err-put_size
returns-in_err-put_size g c =
    let p = err_from_is_err_and c.from_residual.result c.from_residual.ensures.1 in
    rw p.1 (pieces_broken _ _ _ size_row c.args.rooms.now c.loop-room.room-index c.room-item.result (tt {0}) _
    c.in_err-put_size.field-0.0 c.loop-room-test.true c.loop-room.invariant
    (rw (← c.room-item.is) c.put_size.ensures) c.in_err-put_size.was)

pub loop-room-preserved : goal.loop-room-preserved
loop-room-preserved g c = pieces_last _ _ _ size_row c.args.rooms.now c.loop-room.room-index c.room-item.result
    (tt {0}) c.in_ok-put_size.field-0 _ c.loop-room-test.true c.loop-room.invariant
    (rw (← c.room-item.is) c.put_size.ensures) c.in_ok-put_size.was
