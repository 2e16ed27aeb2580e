-- Lines that are written word by word, and read as words again.
use Rattle.std.proofs.Common.{◌≡◌, ◌≢◌, ℕ, ◌^◌, ◌<◌, ◌&&◌, nat_lt, not, true, Bool, List, [], ◌∷◌, ◌++◌, length, map, flat_map, codes, decimal, get_or, zero, suc, refl, sym, ap, ◌∙◌, subst, append_assoc, append-nil, arith}
use Rattle.std.specs.Bool.{◌==◌}
use Rattle.std.specs.Char.{digit_value}
use Rattle.std.specs.List.{All, join_with_byte, list_all}
use Rattle.std.specs.Str.Parse.{AllDigits}
use Rattle.std.proofs.lemmas.Bool.{and_parts}
use Rattle.std.proofs.lemmas.Bool.Decides.{nat_tests}
use Rattle.std.proofs.lemmas.Fmt.{decimal_is_IsNumeral, decimal_nonempty}
use Rattle.std.proofs.lemmas.List.Elements.{All-append}
use Rattle.std.proofs.lemmas.List.Sums.{AllPass-from_list_all}
use Rattle.tab_words.specs.Lines.{lines_of}
use Rattle.tab_words.specs.Pieces.{piece_text, spaced}
use Rattle.tab_words.specs.Texts.{line_of, text_of}
use Rattle.tab_words.specs.Words.{words_of}
use Rattle.tab_words.specs.declared.text.TextPiece.{TextPiece}
use Rattle.tab_words.proofs.LineLemmas.{lines_of-line, lines_of-nil}
use Rattle.tab_words.proofs.WordLemmas.{words_of-last, words_of-word}

-- ---- what can be read back

-- a byte that parts neither words nor lines
abbrev pub is_plain : ℕ → Bool
is_plain byte = not (byte == 32) && not (byte == 10)

-- a word has a byte, and such bytes alone
abbrev pub is_word : List ℕ → Bool
is_word word = nat_lt 0 (length word) && list_all is_plain word

-- a line has a word, and such words alone
abbrev pub is_line : List (List ℕ) → Bool
is_line words = nat_lt 0 (length words) && list_all is_word words

-- a word isn't parted: it has no space
lacks_space : (word : List ℕ) → list_all is_plain word ≡ true → All (λ byte. byte ≢ 32) word
lacks_space word all k d low is =
    let plain = AllPass-from_list_all is_plain word all k d low in
    let no : is_plain 32 ≡ true = ap is_plain (sym is) ∙ plain in absurd (cc)

-- a word has no line feed
lacks_line_feed : (word : List ℕ) → list_all is_plain word ≡ true → All (λ byte. byte ≢ 10) word
lacks_line_feed word all k d low is =
    let plain = AllPass-from_list_all is_plain word all k d low in
    let no : is_plain 10 ≡ true = ap is_plain (sym is) ∙ plain in absurd (cc)

-- a line's words are those that it was written by
words_joined : (word : List ℕ) (words : List (List ℕ)) → list_all is_word (word ∷ words) ≡ true
    → words_of (join_with_byte 32 (word ∷ words)) ≡ word ∷ words
words_joined word [] all =
    let parts = and_parts (is_word word) true all in
    let is = and_parts (nat_lt 0 (length word)) (list_all is_plain word) parts.0 in
    words_of-last word (grind (arith, nat_tests, is.0)) (lacks_space word is.1)
words_joined word (next ∷ words) all =
    let parts = and_parts (is_word word) (list_all is_word (next ∷ words)) all in
    let is = and_parts (nat_lt 0 (length word)) (list_all is_plain word) parts.0 in
    words_of-word word (join_with_byte 32 (next ∷ words)) (grind (arith, nat_tests, is.0))
    (lacks_space word is.1)
    ∙ ap (λ ws. word ∷ ws) (words_joined next words parts.1)

-- what holds of a byte and of those after it holds of all
all_first : (P : ℕ → Type 0) (x : ℕ) (xs : List ℕ) → P x → All P xs → (k d : ℕ) → k < length (x ∷ xs)
    → P (get_or (x ∷ xs) k d)
all_first P x xs here more zero d low = here
all_first P x xs here more (suc k) d low = more k d (omega arith)

-- words in a row are one line
no_line_feed : (words : List (List ℕ)) → list_all is_word words ≡ true
    → All (λ byte. byte ≢ 10) (join_with_byte 32 words)
no_line_feed [] all = λ k d low. absurd (omega arith)
no_line_feed (word ∷ []) all =
    let parts = and_parts (is_word word) true all in
    lacks_line_feed word (and_parts (nat_lt 0 (length word)) (list_all is_plain word) parts.0).1
no_line_feed (word ∷ next ∷ words) all =
    let parts = and_parts (is_word word) (list_all is_word (next ∷ words)) all in
    let space : ◌≢◌ {A = ℕ} 32 10 = λ same. absurd (cc) in
    All-append (λ byte. byte ≢ 10) word (32 ∷ join_with_byte 32 (next ∷ words))
    (lacks_line_feed word (and_parts (nat_lt 0 (length word)) (list_all is_plain word) parts.0).1)
    (all_first (λ byte. byte ≢ 10) 32 (join_with_byte 32 (next ∷ words)) space
    (no_line_feed (next ∷ words) parts.1))

-- a written line is read as its words, whatever follows it
line_read : (word : List ℕ) (words : List (List ℕ)) (rest : List ℕ) → list_all is_word (word ∷ words) ≡ true
    → map words_of (lines_of (line_of (word ∷ words) ++ rest)) ≡ (word ∷ words) ∷ map words_of (lines_of rest)
unfolding line_of
line_read word words rest all =
    let line = join_with_byte 32 (word ∷ words) in
    ap (λ bytes. map words_of (lines_of bytes)) (append_assoc line (codes "\n") rest)
    ∙ ap (map words_of) (lines_of-line line rest (no_line_feed (word ∷ words) all))
    ∙ ap (λ l. l ∷ map words_of (lines_of rest)) (words_joined word words all)

-- a written text is read as its lines of words: the one lemma of reading back
pub text_read : (lines : List (List (List ℕ))) → list_all is_line lines ≡ true
    → map words_of (lines_of (text_of lines)) ≡ lines
text_read [] all = ap (map words_of) lines_of-nil
text_read ([] ∷ lines) all = absurd (cc)
text_read ((word ∷ words) ∷ lines) all =
    let parts = and_parts (is_line (word ∷ words)) (list_all is_line lines) all in
    let is = and_parts (nat_lt 0 (length (word ∷ words))) (list_all is_word (word ∷ words)) parts.0 in
    line_read word words (text_of lines) is.1 ∙ ap (λ ls. (word ∷ words) ∷ ls) (text_read lines parts.1)

-- ---- numbers as words

-- a digit parts nothing
plain_digit : (byte : ℕ) → digit_value byte < 10 → is_plain byte ≡ true
plain_digit byte low =
    let no_space : byte ≢ 32 = λ same.
    absurd (let big : digit_value 32 < 10 = subst (λ b. digit_value b < 10) same low in omega (arith, big)) in
    let no_line_feed : byte ≢ 10 = λ same.
    absurd (let big : digit_value 10 < 10 = subst (λ b. digit_value b < 10) same low in omega (arith, big)) in
    grind (arith, nat_tests)

-- digits in a row part nothing
plain_digits : (bytes : List ℕ) → AllDigits 10 bytes → list_all is_plain bytes ≡ true
plain_digits [] all = refl
plain_digits (byte ∷ bytes) all = rw (plain_digit byte all.0) (plain_digits bytes all.1)

-- the digits of a number are a word
pub decimal_word : (n : ℕ) → n < 2 ^ 64 → is_word (decimal n) ≡ true
decimal_word n low =
    let some : nat_lt 0 (length (decimal n)) ≡ true =
    let long = decimal_nonempty n low in grind (arith, nat_tests) in
    rw some (plain_digits (decimal n) (decimal_is_IsNumeral n low).0.1)

-- ---- a line as its writer writes it

-- the writer writes the first word, and then each further one after a space
joined_spaced : (word : TextPiece) (words : List TextPiece)
    → join_with_byte 32 (map piece_text (word ∷ words)) ≡ piece_text word ++ flat_map spaced words
joined_spaced word [] = sym (append-nil (piece_text word))
joined_spaced word (next ∷ words) = ap (λ rest. piece_text word ++ 32 ∷ rest) (joined_spaced next words)

-- the writer ends the words with the line feed
pub line_spaced : (word : TextPiece) (words : List TextPiece)
    → line_of (map piece_text (word ∷ words)) ≡ piece_text word ++ (flat_map spaced words ++ codes "\n")
unfolding line_of
line_spaced word words = ap (λ front. front ++ codes "\n") (joined_spaced word words)
    ∙ append_assoc (piece_text word) (flat_map spaced words) (codes "\n")

-- where there is no word, the line feed is all
pub line_of_none : (words : List TextPiece) → length words ≡ 0 → line_of (map piece_text words) ≡ codes "\n"
unfolding line_of
line_of_none [] none = refl
line_of_none (word ∷ words) none = absurd (omega arith)

-- bytes to which a text is appended in three parts are those to which it is appended at once
pub three_appended : (before first second part more last text : List ℕ)
    → first ≡ before ++ part → second ≡ first ++ more → text ≡ part ++ (more ++ last)
    → before ++ text ≡ second ++ last
three_appended before first second part more last text is_first is_second is =
    ap (λ l. before ++ l) is
    ∙ sym (append_assoc before part (more ++ last))
    ∙ sym (append_assoc (before ++ part) more last)
    ∙ sym (ap (λ l. l ++ last) (is_second ∙ ap (λ l. l ++ more) is_first))
