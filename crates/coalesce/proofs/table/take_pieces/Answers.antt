use Rattle.std.proofs.Common.{ℕ, ◌+◌, Option, None, set, length-set, subst, sym, arith}
use Rattle.tab_core.specs.declared.piece.Piece.{Piece}
use Rattle.coalesce.proofs.Built.{IsLeftOf, left_first, left_less, left_none}
use Rattle.coalesce.proofs.table.take_pieces.Goals as goal

pub loop-piece-init : goal.loop-piece-init
loop-piece-init c = record {
  size = c.requires.size;
  left = λ core is. left_first c.args.pieces.now core c.args.table.now.items is;
}

pub loop-piece-preserved : goal.loop-piece-preserved
loop-piece-preserved c =
    let table = c.loop-piece.table.items in
    let none : Option Piece = None in
    record {
      size = omega (arith, c.loop-piece.invariant.size, length-set table c.index.result none);
      left = λ core is.
          subst (λ (n : ℕ). IsLeftOf c.args.pieces.now (c.loop-piece.piece-index + 1) (set table n none))
          (sym c.index.ensures.value)
          (left_less c.args.pieces.now c.loop-piece.piece-index c.piece-item.result table
          c.loop-piece-test.true c.piece-item.is (c.loop-piece.invariant.left core is));
    }

pub returns : goal.returns
returns c = λ core is. left_none c.args.pieces.now c.loop-piece.piece-index c.loop-piece.table.items
    c.loop-piece-test.false (c.loop-piece.invariant.left core is)
