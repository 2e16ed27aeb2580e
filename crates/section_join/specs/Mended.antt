-- Texts whose line ends are mended, and their joining as the sections of one text.
-- Source: POSIX (IEEE Std 1003.1), Base Definitions, "Line"; the separator is this project's own.
use Rattle.std.specs.Prelude.{ℕ, suc, ◌-◌, ◌==◌, ◌&&◌, not, nat_lt, Bool, if◌then◌else◌, List, [], ◌∷◌, ◌++◌, codes, count_by, flat_map, length, Option, Some, None, slice_index, take}
use Rattle.std.specs.Option.{option_map}
use Rattle.std.specs.Str.{bytes_eq}
use Rattle.tab_words.specs.Lines.{lines_of}

-- the line ends in a carriage return
abbrev pub ends_in_return : List ℕ → Bool
ends_in_return line = nat_lt 0 (length line) && (slice_index line (length line - 1) == 13)

-- a line without the carriage return that ends it, if one does
abbrev pub without_return : List ℕ → List ℕ
without_return line = if ends_in_return line then take (length line - 1) line else line

-- the line as it is written
abbrev pub mended_line : List ℕ → List ℕ
mended_line line = without_return line ++ codes "\n"

-- the text with mended ends: each of its lines, the last one too, ends in a line feed alone
unfoldable pub mended : List ℕ → List ℕ
mended bytes = flat_map mended_line (lines_of bytes)

-- how many lines of the text end in a carriage return
abbrev pub returns_in : List ℕ → ℕ
returns_in bytes = count_by ends_in_return (lines_of bytes)

-- the text's last line has no line feed
abbrev pub lacks_feed : List ℕ → Bool
lacks_feed bytes = nat_lt 0 (length bytes) && not (slice_index bytes (length bytes - 1) == 10)

-- the line would part sections
abbrev pub is_cut : List ℕ → Bool
is_cut line = bytes_eq (without_return line) (codes "%%")

-- the first such line, from 1
abbrev pub first_cut : List (List ℕ) → Option ℕ
first_cut [] = None
first_cut (line ∷ lines) = if is_cut line then Some 1 else option_map suc (first_cut lines)

-- the texts with mended ends, and a line `%%` between each two
abbrev pub joined_text : List (List ℕ) → List ℕ
joined_text [] = []
joined_text (text ∷ []) = mended text
joined_text (text ∷ next ∷ texts) = mended text ++ (codes "%%\n" ++ joined_text (next ∷ texts))
