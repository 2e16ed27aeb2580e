use Rattle.std.proofs.Common.{◌+◌, arith}
use Rattle.cd_split.proofs.Loads.{fits_load, load_more, load_take}
use Rattle.cd_split.proofs.load.load_of.Goals as goal

pub overflow_add-sum : goal.overflow_add-sum
overflow_add-sum c =
    let pieces = c.args.pieces.now in
    let i = c.loop-piece.piece-index in
    let more = load_more pieces i c.piece-item.result (omega arith) c.piece-item.is in
    let all = load_take pieces (i + 1) in
    let fits = fits_load pieces c.requires in
    omega arith

pub loop-piece-preserved : goal.loop-piece-preserved
loop-piece-preserved c =
    let more = load_more c.args.pieces.now c.loop-piece.piece-index c.piece-item.result
    (omega arith) c.piece-item.is in
    omega arith

pub returns-clause-small : goal.returns-clause-small
returns-clause-small c =
    let all = load_take c.args.pieces.now c.loop-piece.piece-index in
    let fits = fits_load c.args.pieces.now c.requires in
    omega arith
