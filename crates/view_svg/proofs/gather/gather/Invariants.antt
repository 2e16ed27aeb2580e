use Rattle.std.proofs.Common.{◌≡◌, ◌++◌, take, flat_map}
use Rattle.tab_words.specs.Pieces.{piece_text}
use Rattle.view_svg.proofs.gather.gather.Given as goal

-- the pieces so far were appended
abbrev pub invariant-loop-piece : goal.invariant-loop-piece
invariant-loop-piece g l = l.bytes.items ≡ l.fn.bytes.items ++ flat_map piece_text (take l.piece-index l.pieces)
