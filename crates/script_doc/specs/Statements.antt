-- The statements of a script or of a list of steps: its lines that say something.
use Rattle.std.specs.Prelude.{ℕ, ◌+◌, ◌==◌, ◌||◌, Bool, if◌then◌else◌, List, [], ◌∷◌, length, slice_index}
use Rattle.tab_words.specs.Lines.{lines_of}
use Rattle.tab_words.specs.Words.{words_of}

-- a line that says something: its number, from 1, and its words
pub record Statement : Type 0 where
  pub number : ℕ
  pub words : List (List ℕ)

-- a line without words, and a comment: a line whose first byte is `#`, so one after a space begins none
abbrev pub is_skipped : List ℕ → Bool
is_skipped line = (length (words_of line) == 0) || (slice_index line 0 == 35)

-- the statements of lines, of which the first has this number; a skipped line is none, and counts as a
-- line
unfoldable pub statements_from : ℕ → List (List ℕ) → List Statement
statements_from number [] = []
statements_from number (line ∷ lines) =
    if is_skipped line then statements_from (number + 1) lines
    else (record { number = number; words = words_of line }) ∷ statements_from (number + 1) lines

-- the statements of a text
abbrev pub statements_of : List ℕ → List Statement
statements_of bytes = statements_from 1 (lines_of bytes)
