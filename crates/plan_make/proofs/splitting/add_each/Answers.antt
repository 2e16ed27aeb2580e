use Rattle.plan_make.proofs.SharesLemmas.{next_fits, next_lacks, one_more_added}
use Rattle.plan_make.proofs.splitting.add_each.Goals as goal

pub add-requires-clause-there : goal.add-requires-clause-there
add-requires-clause-there c =
    (next_fits c.args.cores.now c.args.pieces.now _ c.piece-item.result _ c.loop-piece.invariant
    c.loop-piece-test.true c.piece-item.is c.requires.apart c.requires.fit).0

pub add-requires-clause-new : goal.add-requires-clause-new
add-requires-clause-new c =
    next_lacks c.args.cores.now c.args.pieces.now _ c.piece-item.result _ c.loop-piece.invariant
    c.loop-piece-test.true c.piece-item.is c.requires.apart c.requires.fit c.requires.new

pub add-requires-clause-room : goal.add-requires-clause-room
add-requires-clause-room c =
    (next_fits c.args.cores.now c.args.pieces.now _ c.piece-item.result _ c.loop-piece.invariant
    c.loop-piece-test.true c.piece-item.is c.requires.apart c.requires.fit).1

pub loop-piece-preserved : goal.loop-piece-preserved
loop-piece-preserved c =
    one_more_added c.args.cores.now c.args.pieces.now _ c.piece-item.result _ _
    c.loop-piece.invariant c.loop-piece-test.true c.piece-item.is c.in_ok-add.ensures.ok
