-- What is kept of a trace whose lines are read.
use Rattle.std.specs.Prelude.{◌≡◌, ◌⊎◌, ℕ, List, [], ◌∷◌, ◌++◌, length}
use Rattle.tab_words.specs.Lines.{lines_of}
use Rattle.host_trace.specs.TraceLines.{AreMarksOf, rows_from}
use Rattle.host_trace.specs.declared.mark.Mark.{Mark}
use Rattle.host_judge.specs.Inside.Judged.{HasJudged}
use Rattle.host_judge.specs.declared.reading.Reading.{Reading}

-- these lines were read, and their marks are taken
pub record HasReadLines (lines : List (List ℕ)) (reading : Reading) : Type 0 where
  pub marks : List Mark
  pub said : AreMarksOf reading.names (rows_from 1 lines) marks
  pub judged : HasJudged marks reading.judge
  pub count : reading.lines ≡ length lines

-- a text that is empty or ends with a line feed
abbrev pub IsEnded : List ℕ → Type 0
IsEnded whole = (whole ≡ []) ⊎ ((front : List ℕ) × (whole ≡ front ++ 10 ∷ []))

-- these bytes were read: their lines but for the last, of which this much is held
pub record HasReadBytes (bytes held : List ℕ) (reading : Reading) : Type 0 where
  pub whole : List ℕ
  pub ended : IsEnded whole
  pub parts : bytes ≡ whole ++ held
  pub read : HasReadLines (lines_of whole) reading
