-- The first word of a line, and what follows it.
use Rattle.std.proofs.Common.{arith, ◌≡◌, ◌≢◌, ℕ, ◌<◌, ◌≤◌, List, [], ◌∷◌, ◌++◌, length, length-take, take, drop, drop-cons, get_or, zero, suc, ap, sym, ◌∙◌, refl, true, false, not}
use Rattle.std.proofs.lemmas.Bool.Decides.{nat_tests}
use Rattle.std.proofs.lemmas.List.Splits.{slice_split_at, slice_split_none}
use Rattle.std.specs.Bool.{◌==◌}
use Rattle.std.specs.List.{All, filter}
use Rattle.tab_words.specs.Words.{words_of}
use Rattle.tab_words.proofs.CutLemmas.{cut, front_lacks, lacks}

-- an iterator over an empty line gives no word
pub words_of-nil : words_of [] ≡ []
unfolding words_of
words_of-nil = refl

-- a space before a word
pub words_of-space : (line : List ℕ) → words_of (32 ∷ line) ≡ words_of line
unfolding words_of
words_of-space line = refl

-- a word has no place where the definition would cut it
none_splits : (word : List ℕ) → All (λ byte. byte ≢ 32) word → All (λ byte. (byte == 32) ≡ false) word
none_splits word all k d low = let other = all k d low in grind (arith, nat_tests)

-- a word that a space ends
pub words_of-word : (word rest : List ℕ) → 0 < length word → All (λ byte. byte ≢ 32) word
    → words_of (word ++ 32 ∷ rest) ≡ word ∷ words_of rest
unfolding words_of
words_of-word word rest some all =
    let parts = slice_split_at (λ byte. byte == 32) word 32 rest (none_splits word all) refl in
    let kept : not (length word == 0) ≡ true = grind (arith, nat_tests) in
    ap (filter (λ run. not (length run == 0))) parts ∙ rw kept refl

-- a last word that none ends
pub words_of-last : (word : List ℕ) → 0 < length word → All (λ byte. byte ≢ 32) word
    → words_of word ≡ word ∷ []
unfolding words_of
words_of-last word some all =
    let parts = slice_split_none (λ byte. byte == 32) word (none_splits word all) in
    let kept : not (length word == 0) ≡ true = grind (arith, nat_tests) in
    ap (filter (λ run. not (length run == 0))) parts ∙ rw kept refl

-- the first word ends at the first space
pub first_word : (line : List ℕ) (end : ℕ) → end < length line → get_or line end 0 ≡ 32
    → ((k : ℕ) → k < end → get_or line k 0 ≢ 32) → get_or line 0 0 ≢ 32
    → words_of line ≡ take end line ∷ words_of (drop end line)
first_word line zero low at before some = absurd (some at)
first_word line (suc end) low at before some =
    let word = take (suc end) line in
    let rest = drop (suc (suc end)) line in
    let long : 0 < length word = omega (arith, length-take (suc end) line) in
    let next : words_of (drop (suc end) line) ≡ words_of rest =
    ap words_of (drop-cons line (suc end) 0 low ∙ ap (λ b. b ∷ rest) at) ∙ words_of-space rest in
    ap words_of (cut line (suc end) 32 low at)
    ∙ words_of-word word rest long (front_lacks line (suc end) 32 (omega arith) before)
    ∙ ap (λ ws. word ∷ ws) (sym next)

-- without a space all is one word
pub one_word : (line : List ℕ) → 0 < length line → ((k : ℕ) → k < length line → get_or line k 0 ≢ 32)
    → words_of line ≡ line ∷ words_of []
one_word line some none =
    words_of-last line some (lacks line 32 none) ∙ ap (λ r. line ∷ r) (sym words_of-nil)

-- spaces at the start part no words
pub words_after_spaces : (line : List ℕ) (start : ℕ) → start ≤ length line
    → ((k : ℕ) → k < start → get_or line k 0 ≡ 32) → words_of (drop start line) ≡ words_of line
words_after_spaces [] zero low before = refl
words_after_spaces [] (suc start) low before = refl
words_after_spaces (byte ∷ line) zero low before = refl
words_after_spaces (byte ∷ line) (suc start) low before =
    words_after_spaces line start (omega arith) (λ k small. before (suc k) (omega arith))
    ∙ sym (ap (λ b. words_of (b ∷ line)) (before 0 (omega arith)) ∙ words_of-space line)
