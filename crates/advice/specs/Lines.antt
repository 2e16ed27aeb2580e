-- The part of an input that an advice speaks of.
use Rattle.std.specs.Prelude.{ℕ, ◌-◌, List, [], slice_index_or}
use Rattle.tab_words.specs.Lines.{lines_of}
use Rattle.tab_words.specs.Sections.{sections_of}

-- the section of a number, from 0, or nothing where there is none
abbrev pub section_at : ℕ → List ℕ → List ℕ
section_at number input = slice_index_or (sections_of input) number []

-- the line of a number, from 1, or nothing where there is none
abbrev pub line_at : ℕ → List ℕ → List ℕ
line_at number text = slice_index_or (lines_of text) (number - 1) []
