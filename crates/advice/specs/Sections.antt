-- The advice on an input that hasn't as many sections as the command wants.
use Rattle.std.specs.Prelude.{ℕ, Bool, ◌+◌, ◌==◌, ◌&&◌, ◌||◌, not, nat_eq, if◌then◌else◌, List, [], ◌∷◌, ◌++◌, bytes_eq, codes, decimal, Option, Some, None}
use Rattle.std.specs.List.{starts_with, ends_with}
use Rattle.tab_words.specs.Lines.{lines_of}
use Rattle.advice.specs.Parts.{quoted}

-- which texts so many are
abbrev pub wanted_texts : ℕ → List ℕ
wanted_texts wanted = if wanted == 1 then codes " text is wanted, a host, and no line %%"
    else (if wanted == 3
    then codes " texts are wanted, a line %% between each two: a host, a script and a list of steps"
    else codes " texts are wanted, a line %% between them: a host and a plan text for check and plan stay, a host and a script for run")

-- what is before the count of the texts that there are
abbrev pub here_words : ℕ → List ℕ
here_words found = if found == 1 then codes "; here is " else codes "; here are "

-- how many texts a command wants, which these are, and how many its input has
abbrev pub section_count_text : ℕ → ℕ → List ℕ
section_count_text found wanted = codes "tableau: "
    ++ (decimal wanted ++ (wanted_texts wanted
    ++ (here_words found ++ (decimal found ++ codes "\n"))))

-- a line begins or ends like a separator and is none
abbrev pub is_near : List ℕ → Bool
is_near line = (starts_with nat_eq line (codes "%%") || ends_with nat_eq line (codes "%%"))
    && not (bytes_eq line (codes "%%"))

-- the first such line of lines that are numbered from this one on
abbrev pub near_from : ℕ → List (List ℕ) → Option (ℕ × List ℕ)
near_from number [] = None
near_from number (line ∷ lines) = if is_near line then Some (number, line) else near_from (number + 1) lines

-- the line of this number, from 1, is almost a separator: what may be wrong with it
abbrev pub near_text : ℕ → List ℕ → List ℕ
near_text number line = codes "tableau: line "
    ++ (decimal number ++ (codes ", " ++ (quoted line
    ++ codes ", isn't exactly %%; the line before may be missing its line feed, or this one end in CR LF\n")))

-- what is said of a line that is almost a separator; nothing where there is none
abbrev pub near_part : Option (ℕ × List ℕ) → List ℕ
near_part None = []
near_part (Some near) = near_text near.0 near.1

-- how many texts there are and are wanted, and the first line of the input that may have been meant to
-- part them
abbrev pub sections_text : List ℕ → ℕ → ℕ → List ℕ
sections_text input found wanted = section_count_text found wanted ++ near_part (near_from 1 (lines_of input))
