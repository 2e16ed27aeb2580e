-- The rule, of words that are apart in a table.
-- Source: the rules of this project.
use Rattle.std.specs.Prelude.{◌≡◌, ℕ, List, length, map, slice_index}
use Rattle.round_words.specs.declared.spacing.TheConstants.{PLACES, SPACE}
use Rattle.round_words.specs.declared.view.View.{View}
use Rattle.round_words.specs.Rule.{KeepsRule}

-- the words at these places
abbrev pub words_at : List ℕ → List ℕ → List ℕ
words_at places words = map (λ (p : ℕ). slice_index words p) places

-- the rule holds of the words at their places
abbrev pub KeepsSpaced : List ℕ → List View → Type 0
KeepsSpaced words views = (length words ≡ SPACE) × KeepsRule (words_at PLACES words) views
