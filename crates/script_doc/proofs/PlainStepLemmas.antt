-- Lines of a word of four bytes and a number, which are read without looking for their words.
use Rattle.std.proofs.Common.{◌≡◌, ℕ, ◌^◌, ◌<◌, List, [], ◌∷◌, ◌++◌, arith, codes, decimal, subst, ap, ◌∙◌}
use Rattle.std.specs.Char.{digit_value}
use Rattle.std.proofs.lemmas.Fmt.{decimal_is_IsNumeral, decimal_nonempty}
use Rattle.std.proofs.lemmas.List.{get_or_default}
use Rattle.tab_words.specs.Words.{words_of}
use Rattle.tab_words.proofs.NumberLemmas.{digit_below}
use Rattle.tab_words.proofs.WordLemmas.{words_of-last}

-- a number is one word
number_alone : (n : ℕ) → n < 2 ^ 64 → words_of (decimal n) ≡ decimal n ∷ []
number_alone n low = words_of-last (decimal n) (decimal_nonempty n low) (λ k d inside is.
    let digits = (decimal_is_IsNumeral n low).0.1 in
    let digit = digit_below 10 (decimal n) k inside digits in
    let small : digit_value 32 < 10 =
    subst (λ b. digit_value b < 10) (get_or_default (decimal n) k 0 d inside ∙ is) digit in
    absurd (omega (arith, small)))

-- the words of a line that sees
pub see_words : (word : List ℕ) (core : ℕ) → core < 2 ^ 64 → word ≡ decimal core
    → words_of (codes "see " ++ word) ≡ codes "see" ∷ decimal core ∷ []
unfolding words_of
see_words word core low is =
    ap (λ ws. codes "see" ∷ ws) (ap words_of is ∙ number_alone core low)

-- the words of a line that runs
pub run_words : (word : List ℕ) (core : ℕ) → core < 2 ^ 64 → word ≡ decimal core
    → words_of (codes "run " ++ word) ≡ codes "run" ∷ decimal core ∷ []
unfolding words_of
run_words word core low is =
    ap (λ ws. codes "run" ∷ ws) (ap words_of is ∙ number_alone core low)
