-- The texts that are read, and the first bad line of another.
use Rattle.std.specs.Prelude.{◌≡◌, ℕ, ◌+◌, ◌⊎◌, true, false, List, [], ◌∷◌, ◌++◌, length, map, None}
use Rattle.std.specs.List.{All}
use Rattle.tab_words.specs.Texts.{Line, worded}
use Rattle.view_doc.specs.Grammar.{Front, IsLed, front_behind, may_end, start}
use Rattle.view_doc.specs.Lines.{IsGood, Says, SaysNothing, Told, told_words}

-- the lines say this
pub record LinesSay (lines : List Line) (tolds : List Told) : Type 0 where
  pub written : lines ≡ map told_words tolds
  pub good : All IsGood tolds

-- the bytes are a text, whose lines say this and leave that
pub record IsText (bytes : List ℕ) (tolds : List Told) (front : Front) : Type 0 where
  pub told : LinesSay (worded bytes) tolds
  pub led : IsLed start tolds front
  pub whole : may_end front.place ≡ true

-- what the line says may not be after this prefix
pub record IsMisplaced (front : Front) (line : Line) : Type 0 where
  pub told : Told
  pub says : Says line told
  pub wrong : front_behind front told ≡ None

-- after this prefix no text goes on as these lines do: the first says nothing, or what may not be
-- there, or there is none and the text may not end
abbrev pub ViewGoesWrong : Front → List Line → Type 0
ViewGoesWrong front [] = may_end front.place ≡ false
ViewGoesWrong front (line ∷ back) = SaysNothing line ⊎ IsMisplaced front line

-- the first bad line, from 1, or one past the last where the text stops early
pub record IsFirstBad (bytes : List ℕ) (bad : ℕ) : Type 0 where
  pub tolds : List Told
  pub front : Front
  pub before : List Line
  pub back : List Line
  pub whole : worded bytes ≡ before ++ back
  pub told : LinesSay before tolds
  pub led : IsLed start tolds front
  pub wrong : ViewGoesWrong front back
  pub number : bad ≡ length tolds + 1
