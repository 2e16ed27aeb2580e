-- What a piece of a text writes.
use Rattle.std.specs.Prelude.{ℕ, List, ◌∷◌, decimal}
use Rattle.tab_words.specs.declared.text.TextPiece.{TextPiece}
use Rattle.tab_words.specs.declared.text.TextPiece.TheVariants.{Text, Number, Wide}

-- the bytes of a piece, or the decimal digits of its number
abbrev pub piece_text : TextPiece → List ℕ
piece_text (Text bytes) = bytes.now
piece_text (Number n) = decimal n
piece_text (Wide n) = decimal n

-- a piece after a space
abbrev pub spaced : TextPiece → List ℕ
spaced word = 32 ∷ piece_text word
