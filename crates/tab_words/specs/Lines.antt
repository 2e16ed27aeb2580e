-- The lines of a text.
-- Source: POSIX (IEEE Std 1003.1), Base Definitions, "Line" and "Incomplete Line".
use Rattle.std.specs.Prelude.{ℕ, List, [], ◌∷◌, ◌==◌, if◌then◌else◌, map}
use Rattle.std.specs.List.{onto_first}

-- the lines, each with the line feed that ends it, which the last one need not have
unfoldable pub raw_lines_of : List ℕ → List (List ℕ)
raw_lines_of [] = []
raw_lines_of (byte ∷ bytes) =
    if byte == 10 then (byte ∷ []) ∷ raw_lines_of bytes else onto_first byte (raw_lines_of bytes)

-- a line without the line feed that ends it, if one does
unfoldable pub without_feed : List ℕ → List ℕ
without_feed [] = []
without_feed (byte ∷ []) = if byte == 10 then [] else byte ∷ []
without_feed (byte ∷ next ∷ line) = byte ∷ without_feed (next ∷ line)

-- the lines without their line feeds
unfoldable pub lines_of : List ℕ → List (List ℕ)
lines_of bytes = map without_feed (raw_lines_of bytes)
