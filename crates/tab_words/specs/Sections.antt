-- The sections of a text, which separators part.
use Rattle.std.specs.Prelude.{ℕ, Bool, List, ◌||◌, codes, map}
use Rattle.std.specs.List.{concat, slice_split}
use Rattle.std.specs.Str.{bytes_eq}
use Rattle.tab_words.specs.Lines.{raw_lines_of}

-- a separator: a line that is exactly `%%`
abbrev pub is_separator : List ℕ → Bool
is_separator row = bytes_eq row (codes "%%\n") || bytes_eq row (codes "%%")

-- the sections: the bytes before, between and after the separators
unfoldable pub sections_of : List ℕ → List (List ℕ)
sections_of bytes = map concat (slice_split is_separator (raw_lines_of bytes))
