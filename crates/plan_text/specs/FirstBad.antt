-- The first bad line of a text, where it isn't one of these texts.
use Rattle.std.specs.Prelude.{◌≡◌, ℕ, ◌+◌, List, [], ◌∷◌, ◌++◌, length}
use Rattle.tab_words.specs.Texts.{Line}

-- a text begins with these lines
pub record BeginsText (Texts : List Line → Type 0) (front : List Line) : Type 0 where
  pub rest : List Line
  pub text : Texts (front ++ rest)

-- after the prefix no text goes on so: none has the next line there, or the lines end and are none
abbrev pub GoesWrong : (List Line → Type 0) → List Line → List Line → Type 0
GoesWrong Texts front [] = Texts front → ⊥
GoesWrong Texts front (line ∷ back) = BeginsText Texts (front ++ line ∷ []) → ⊥

-- of lines that are numbered from `first` on, this one is the first with which no text begins, or
-- it is one past the last where the lines stop early
pub record IsFirstBadFor (Texts : List Line → Type 0) (first : ℕ) (lines : List Line) (bad : ℕ) : Type 0 where
  pub front : List Line
  pub back : List Line
  pub whole : lines ≡ front ++ back
  pub begun : BeginsText Texts front
  pub wrong : GoesWrong Texts front back
  pub number : bad ≡ first + length front
