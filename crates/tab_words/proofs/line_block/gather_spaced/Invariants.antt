use Rattle.std.proofs.Common.{◌≡◌, ◌++◌, take, flat_map}
use Rattle.tab_words.specs.Pieces.{spaced}
use Rattle.tab_words.proofs.line_block.gather_spaced.Given as goal

-- the words so far were appended
abbrev pub invariant-loop-word : goal.invariant-loop-word
invariant-loop-word g l = l.bytes.items ≡ l.fn.bytes.items ++ flat_map spaced (take l.word-index l.words)
