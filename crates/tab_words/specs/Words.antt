-- The words of a line.
use Rattle.std.specs.Prelude.{ℕ, List, length, ◌==◌, not}
use Rattle.std.specs.List.{filter, slice_split}

-- the words: the maximal runs of bytes other than space
unfoldable pub words_of : List ℕ → List (List ℕ)
words_of line = filter (λ run. not (length run == 0)) (slice_split (λ byte. byte == 32) line)
