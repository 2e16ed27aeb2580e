-- The lines of a text that are left after some.
use Rattle.std.proofs.Common.{ℕ, ◌+◌, ◌≤◌, List, length, drop, arith}
use Rattle.std.proofs.lemmas.List.{length-drop}
use Rattle.tab_words.proofs.LineLemmas.{length-lines_of}
use Rattle.tab_words.specs.Lines.{lines_of}

-- with the lines before them they are no more than the bytes
pub lines_left : (count : ℕ) (text : List ℕ) → count ≤ length text
    → count + length (drop count (lines_of text)) ≤ length text
lines_left count text within = omega (arith, within, length-drop count (lines_of text), length-lines_of text)
