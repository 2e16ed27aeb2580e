use Rattle.std.proofs.Common.{set, Some, take, subst, sym, ◌+◌, ◌∙◌}
use Rattle.std.proofs.lemmas.Bool.{eq-eqb, eqb-true, false≢true}
use Rattle.coalesce.specs.Inside.Passing.{IsPieceTableOf}
use Rattle.table_form.specs.Planning.Drafts.{pieces_at}
use Rattle.coalesce.proofs.Built.{next_elsewhere, next_here}
use Rattle.coalesce.proofs.table.put_pieces.Goals.{then-eq, else-eq}
use Rattle.coalesce.proofs.table.put_pieces.Goals as goal

pub loop-piece-preserved : goal.loop-piece-preserved
loop-piece-preserved c = elim c.if-eq.branch [
  | then-eq w ↦ rw w.table-is
      (subst (λ n. IsPieceTableOf (pieces_at (take (c.loop-piece.piece-index + 1) c.args.pieces.now) c.args.core)
      (set c.loop-piece.table.items n (Some c.piece-item.result))) (sym w.index.ensures.value)
      (next_here c.args.pieces.now c.args.core c.loop-piece.piece-index c.piece-item.result
      c.loop-piece.table.items c.requires.own c.loop-piece-test.true c.piece-item.is
      (eqb-true c.piece-item.result.core c.args.core (sym w.if-eq.ensures)) c.loop-piece.invariant))
  | else-eq w ↦ rw w.table-is
      (next_elsewhere c.args.pieces.now c.args.core c.loop-piece.piece-index c.piece-item.result
      c.loop-piece.table.items c.loop-piece-test.true c.piece-item.is
      (λ same. false≢true (w.if-eq.ensures ∙ eq-eqb c.piece-item.result.core c.args.core same))
      c.loop-piece.invariant)
]
