use Rattle.std.proofs.Common.{sym, ◌∙◌}
use Rattle.coalesce.proofs.Built.{all_seen, none_seen, seen_again, seen_first}
use Rattle.coalesce.proofs.table.single_vcpus.Goals.{then-has, else-has}
use Rattle.coalesce.proofs.table.single_vcpus.Goals as goal

pub loop-piece-init : goal.loop-piece-init
loop-piece-init c = rw (c.empty-seen.ensures, c.empty-single.ensures) none_seen

pub loop-piece-preserved : goal.loop-piece-preserved
loop-piece-preserved c = elim c.if-has.branch [
  | then-has w ↦ rw (w.seen-is, w.single-is) (rw w.take.ensures
      (seen_again c.args.pieces.now c.loop-piece.piece-index c.piece-item.result c.loop-piece.seen
      c.loop-piece.single c.loop-piece-test.true c.piece-item.is
      (sym c.has.ensures ∙ w.if-has.true) c.loop-piece.invariant))
  | else-has w ↦ rw (w.seen-is, w.single-is) (rw (w.put.ensures, w.put-else-has.ensures)
      (seen_first c.args.pieces.now c.loop-piece.piece-index c.piece-item.result c.loop-piece.seen
      c.loop-piece.single c.loop-piece-test.true c.piece-item.is
      (sym c.has.ensures ∙ w.if-has.false) c.loop-piece.invariant))
]

pub returns : goal.returns
returns c vcpu =
    all_seen c.args.pieces.now c.loop-piece.piece-index c.loop-piece.seen c.loop-piece.single
    c.loop-piece-test.false
    c.loop-piece.invariant vcpu
