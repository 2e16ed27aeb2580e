use Rattle.std.proofs.Common.{sym, arith}
use Rattle.edf_table.proofs.Starts.{starts_early, starts_between, starts_late, starts_here}
use Rattle.edf_table.proofs.overload.cost_from.Goals as goal

pub returns-then-start-piece : goal.returns-then-start-piece
returns-then-start-piece c = sym (starts_early c.args.piece.now c.args.start c.args.end c.if-start-piece.true)

pub returns-then-start-piece-ne0 : goal.returns-then-start-piece-ne0
returns-then-start-piece-ne0 c =
    sym (starts_between c.args.piece.now c.args.start c.args.end c.if-start-piece-ne0.true)

pub returns-then-from : goal.returns-then-from
returns-then-from c =
    sym (starts_late c.args.piece.now c.args.start c.args.end (omega arith) c.if-start-piece.false)

pub returns : goal.returns
returns c =
    sym (starts_here c.args.piece.now c.args.start c.args.end c.requires c.if-start-piece.false
    c.if-start-piece-ne0.false (omega arith))
