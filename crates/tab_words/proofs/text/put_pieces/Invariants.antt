use Rattle.std.proofs.Common.{take, flat_map, Ok}
use Rattle.tab_io.specs.Sinks.{Writes}
use Rattle.tab_words.specs.Pieces.{piece_text}
use Rattle.tab_words.proofs.text.put_pieces.Given as goal

-- the pieces so far came
abbrev pub invariant-loop-piece : goal.invariant-loop-piece
invariant-loop-piece g l = Writes {U = Unit {0}} (g.K.Sink.state l.fn.sink) (g.K.Sink.state l.sink)
    (flat_map piece_text (take l.piece-index l.pieces)) (Ok (tt {0}))
