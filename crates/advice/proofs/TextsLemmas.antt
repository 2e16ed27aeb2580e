-- Words of the command line, as strings and as bytes.
use Rattle.std.proofs.Common.{◌≡◌, List, [], ◌∷◌, ◌++◌, ℕ, String, Global, flat_map, map, refl, ap, string_bytes}
use Rattle.advice.specs.Usage.{after_space}

-- a word of the command line after a space
abbrev pub spaced_string : String Global → List ℕ
spaced_string word = after_space (string_bytes word)

-- the words' bytes, each after a space, are those of the strings
pub spaced-strings : (words : List (String Global))
    → flat_map spaced_string words ≡ flat_map after_space (map string_bytes words)
spaced-strings [] = refl
spaced-strings (word ∷ words) = ap (λ (rest : List ℕ). spaced_string word ++ rest) (spaced-strings words)
