use Rattle.std.proofs.Common.{[], sym, append-nil}
use Rattle.std.proofs.lemmas.Result.{err_from_is_err_and}
use Rattle.tab_io.proofs.SinkLemmas.{all_left, left_behind}
use Rattle.line_bytes.proofs.RoomLemmas.{failed_alike}
use Rattle.line_bytes.proofs.room.make_room.Goals as goal

pub returns-then-count-lt-FULL-clause-bytes : goal.returns-then-count-lt-FULL-clause-bytes
returns-then-count-lt-FULL-clause-bytes g c = all_left _ _

pub returns-in_err-write_all-clause-bytes : goal.returns-in_err-write_all-clause-bytes
returns-in_err-write_all-clause-bytes g c =
    let p = err_from_is_err_and c.from_residual.result c.from_residual.ensures.1 in
    rw p.1 (failed_alike _ _ _ _ c.in_err-write_all.ensures)

pub returns-clause-bytes : goal.returns-clause-bytes
returns-clause-bytes g c =
    left_behind _ _ _ _ _ _ [] _ _ (all_left _ _) (sym (append-nil _)) c.write_all.ensures c.in_ok-write_all.was
