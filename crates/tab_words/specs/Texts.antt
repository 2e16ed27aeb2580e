-- Texts that are written: lines of words, and texts by number.
use Rattle.std.specs.Prelude.{ℕ, zero, suc, List, [], ◌++◌, codes, flat_map, map}
use Rattle.std.specs.List.{join_with_byte}
use Rattle.tab_words.specs.Lines.{lines_of}
use Rattle.tab_words.specs.Words.{words_of}

-- the line of these words: one space between each two, and a line feed
unfoldable pub line_of : List (List ℕ) → List ℕ
line_of words = join_with_byte 32 words ++ codes "\n"

-- the text of these lines, each of which is given by its words
abbrev pub text_of : List (List (List ℕ)) → List ℕ
text_of lines = flat_map line_of lines

-- the texts of the numbers below n, one after the other
unfoldable pub texts_below : (ℕ → List ℕ) → ℕ → List ℕ
texts_below text zero = []
texts_below text (suc n) = texts_below text n ++ text n

-- a line, as its words
abbrev pub Line : Type 0
Line = List (List ℕ)

-- the lines of a text, each as its words
abbrev pub worded : List ℕ → List Line
worded bytes = map words_of (lines_of bytes)
