use Rattle.std.proofs.lemmas.Result.{err_from_is_err_and}
use Rattle.stint_text.proofs.RoomLemmas.{put_torn}
use Rattle.stint_text.proofs.lines.StintLines.put_numbers.Goals as goal

pub returns-in_err-at-clause-bytes : goal.returns-in_err-at-clause-bytes
returns-in_err-at-clause-bytes g c =
    let p = err_from_is_err_and c.from_residual.result c.from_residual.ensures.1 in
    rw (p.1, ← c.self.view_is) (put_torn _ _ _ _ _ c.in_err-at.ensures.bytes)
