-- What the reader of the command line's words finds on its way.
use Rattle.std.specs.Prelude.{◌≡◌, ℕ, ◌≤◌, List, [], ◌∷◌, Option, decimal, Result, MatchOption, MatchResult}
use Rattle.tab_words.specs.Commands.{IsCommand, IsFaultAt, mode_words}
use Rattle.tab_words.specs.declared.command.Command.{Command}
use Rattle.tab_words.specs.declared.command.RunMode.{RunMode}
use Rattle.tab_words.specs.declared.command.Usage.{Usage}

-- the first of the words spells a number in this range
pub record BeginsWithNumber (least most : ℕ) (words : List (List ℕ)) : Type 0 where
  pub number : ℕ
  pub rest : List (List ℕ)
  pub digits : words ≡ decimal number ∷ rest
  pub enough : least ≤ number
  pub few : number ≤ most

-- the answer is the command that the words are, or the place of their fault
abbrev pub IsReading : List (List ℕ) → Result Command Usage → Type 0
IsReading words result = MatchResult result (IsCommand words) (λ usage. IsFaultAt words usage.place)

-- the word asks for this, or for nothing that a run writes
abbrev pub IsModeOf : List ℕ → Option RunMode → Type 0
IsModeOf word result = MatchOption result ((mode : RunMode) → mode_words mode ≡ word ∷ [] → ⊥)
    (λ mode. mode_words mode ≡ word ∷ [])
