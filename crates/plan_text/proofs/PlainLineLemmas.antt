-- The words of a line of digits, one space and a word.
use Rattle.std.proofs.Common.{arith, ◌≡◌, ◌≢◌, ℕ, ◌<◌, ◌≤◌, ◌^◌, ◌+◌, ◌-◌, List, [], ◌∷◌, ◌++◌, length, map, take, drop, decimal, get_or, append_assoc, zero, suc, sym, ap, ◌∙◌, subst}
use Rattle.std.specs.Char.{digit_value}
use Rattle.std.specs.List.{All}
use Rattle.std.specs.Str.Parse.{AllDigits, digits_value}
use Rattle.std.proofs.lemmas.List.{get_or-take, get_or_default, length-take-le, take-append-drop}
use Rattle.std.proofs.lemmas.List.Elements.{All-append}
use Rattle.tab_words.specs.Lines.{lines_of}
use Rattle.tab_words.specs.Words.{words_of}
use Rattle.tab_words.proofs.CutLemmas.{cut, front_lacks}
use Rattle.tab_words.proofs.LineLemmas.{lines_of-line}
use Rattle.tab_words.proofs.NumberLemmas.{digit_below, spells_value}
use Rattle.tab_words.proofs.WordLemmas.{words_of-last, words_of-word}
use Rattle.tab_words.specs.Texts.{worded}
use Rattle.plan_text.proofs.FirstLineLemmas.{behind}

-- digits have no byte that is none
digits_lack : (bytes : List ℕ) (other : ℕ) → 10 ≤ digit_value other → AllDigits 10 bytes
    → All (λ byte. byte ≢ other) bytes
digits_lack bytes other none all k d low is =
    let digit = digit_below 10 bytes k low all in
    let small : digit_value other < 10 =
    subst (λ b. digit_value b < 10) (get_or_default bytes k 0 d low ∙ is) digit in
    absurd (omega (arith, none, small))

-- the bytes before a line feed, each of which comes after the space, are a word
pub word_before_feed : (bytes rest : List ℕ) (end : ℕ) → bytes ≡ 32 ∷ rest → end < length rest
    → get_or rest end 0 ≡ 10 → 0 < end → ((k : ℕ) → k < end → 32 < get_or rest k 0)
    → (bytes ≡ 32 ∷ take end rest ++ 10 ∷ take (length rest - (end + 1)) (drop (end + 1) rest))
    × (words_of (take end rest) ≡ take end rest ∷ []) × All (λ byte. byte ≢ 10) (take end rest)
word_before_feed bytes rest end is low at some before =
    let lacking : (byte : ℕ) → byte ≤ 32 → (k : ℕ) → k < end → get_or rest k 0 ≢ byte =
    λ byte small k lt same. (let high = before k lt in omega (arith, small, same, high)) in
    let size : length (take end rest) ≡ end = length-take-le end rest (omega arith) in (
      is ∙ ap (λ r. 32 ∷ r) (cut rest end 10 low at ∙ ap (λ b. take end rest ++ 10 ∷ b) (behind rest end)),
      words_of-last (take end rest) (omega (arith, size, some))
          (front_lacks rest end 32 (omega arith) (lacking 32 (omega arith))),
      front_lacks rest end 10 (omega arith) (lacking 10 (omega arith)),
    )

-- what a text of digits, a space, a word and a line feed stands for: the number that the digits
-- spell, and the word
pub plain_words : (bytes rest word behind : List ℕ) (count number : ℕ) → rest ≡ drop count bytes
    → rest ≡ 32 ∷ word ++ 10 ∷ behind → words_of word ≡ word ∷ [] → All (λ byte. byte ≢ 10) word
    → count ≤ length bytes → AllDigits 10 (take count bytes)
    → number ≡ digits_value 10 (take count bytes) → number < 2 ^ 32 → 0 < count
    → (get_or bytes 0 0 ≡ 48 → count ≡ 1)
    → worded bytes ≡ (decimal number ∷ word ∷ []) ∷ worded behind
plain_words bytes rest word behind count number from ended one lacks within all value fits some plain =
    let front = take count bytes in
    let line = front ++ 32 ∷ word in
    let size : length front ≡ count = length-take-le count bytes within in
    let whole : bytes ≡ line ++ 10 ∷ behind =
    sym (take-append-drop count bytes) ∙ ap (λ r. front ++ r) (sym from ∙ ended)
    ∙ sym (append_assoc front (32 ∷ word) (10 ∷ behind)) in
    let alone : get_or front 0 0 ≡ 48 → length front ≡ 1 =
    λ zero. size ∙ plain (sym (get_or-take count bytes 0 0 some) ∙ zero) in
    let spelled = spells_value front all (omega (arith, size, some)) alone (omega (arith, value, fits)) in
    let words : words_of line ≡ decimal number ∷ word ∷ [] =
    words_of-word front word (omega (arith, size, some)) (digits_lack front 32 (omega arith) all)
    ∙ ap (λ ws. front ∷ ws) one ∙ ap (λ d. d ∷ word ∷ []) (spelled.digits ∙ ap decimal (sym value)) in
    let lacking : All (λ byte. byte ≢ 10) line =
    All-append (λ byte. byte ≢ 10) front (32 ∷ word) (digits_lack front 10 (omega arith) all)
    (space_lacks word lacks) in
    ap (map words_of) (ap lines_of whole ∙ lines_of-line line behind lacking)
    ∙ ap (λ ws. ws ∷ worded behind) words
  where
    space_lacks : (word : List ℕ) → All (λ byte. byte ≢ 10) word → All (λ byte. byte ≢ 10) (32 ∷ word)
    space_lacks word lacks zero d low is = absurd (omega (arith, is))
    space_lacks word lacks (suc k) d low is = lacks k d (omega (arith, low)) is
