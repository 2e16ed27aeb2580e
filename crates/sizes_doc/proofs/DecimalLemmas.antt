-- Numbers with a point.
use Rattle.std.proofs.Common.{◌≡◌, ◌≢◌, codes, ℕ, ◌+◌, ◌-◌, ◌^◌, ◌<◌, ◌≤◌, false, List, [], ◌∷◌, ◌++◌, append_assoc, length, length-append, take, drop, get_or, suc, decimal, refl, ap, sym, subst, ◌∙◌, arith}
use Rattle.std.proofs.lemmas.Bool.Decides.{nat_tests}
use Rattle.std.proofs.lemmas.Fmt.{decimal_is_IsNumeral}
use Rattle.std.proofs.lemmas.List.{append_cancel_left, get_or_default, take_rest}
use Rattle.std.proofs.lemmas.List.Splits.{slice_split_at}
use Rattle.std.proofs.Math.Seq.{get_or-append_seam}
use Rattle.std.proofs.lemmas.Str.Parse.{IsNumeralModel, digit_from_value, digits_value_short, numerals_by_value, tells_digits}
use Rattle.std.specs.Bool.{◌==◌}
use Rattle.std.specs.List.{All, slice_split}
use Rattle.std.specs.Str.Parse.{AllDigits, digits_value}
use Rattle.tab_words.proofs.CutLemmas.{cut, front_lacks}
use Rattle.tab_words.proofs.NumberLemmas.{digit_below}

-- std reads decimal digits as the value that the lemmas of its page speak of
own : IsNumeralModel (λ ds. AllDigits 10 ds) (digits_value 10)
own = numerals_by_value _ tells_digits

-- nine digits write less than 1000000000
pub short_value : (digits : List ℕ) → AllDigits 10 digits → length digits ≤ 9 → digits_value 10 digits < 1000000000
short_value digits all few = digits_value_short own digits 9 all few

-- no digit is a point
pub no_point : (digits : List ℕ) → AllDigits 10 digits → All (λ byte. byte ≢ 46) digits
no_point digits all k d low is =
    let same : get_or digits k 0 ≡ 46 = get_or_default digits k 0 d low ∙ is in
    let range = digit_from_value (get_or digits k 0) (digit_below 10 digits k low all) in
    absurd (omega arith)

-- no byte of a number's digits is a point
pub number_no_point : (n : ℕ) → n < 2 ^ 64 → All (λ byte. byte ≢ 46) (decimal n)
number_no_point n fits = no_point (decimal n) (decimal_is_IsNumeral n fits).0.1

-- bytes without a point aren't cut
none_splits : (bytes : List ℕ) → All (λ byte. byte ≢ 46) bytes → All (λ byte. (byte == 46) ≡ false) bytes
none_splits bytes all k d low = let other = all k d low in grind (arith, nat_tests)

-- the first point is in one place
pub cut_once : (a b c d : List ℕ) → All (λ byte. byte ≢ 46) a → All (λ byte. byte ≢ 46) c
    → a ++ codes "." ++ b ≡ c ++ codes "." ++ d → (a ≡ c) × (b ≡ d)
cut_once a b c d plain other is =
    let left : a ++ 46 ∷ b ≡ c ++ 46 ∷ d =
    sym (append_assoc a (46 ∷ []) b) ∙ is ∙ append_assoc c (46 ∷ []) d in
    let first = slice_split_at (λ byte. byte == 46) a 46 b (none_splits a plain) refl in
    let second = slice_split_at (λ byte. byte == 46) c 46 d (none_splits c other) refl in
    let parts : a ∷ slice_split (λ byte. byte == 46) b ≡ c ∷ slice_split (λ byte. byte == 46) d =
    sym first ∙ ap (slice_split (λ byte. byte == 46)) left ∙ second in
    let same : a ≡ c = cc in
    let rest : c ++ 46 ∷ b ≡ c ++ 46 ∷ d = subst (λ (x : List ℕ). x ++ 46 ∷ b ≡ c ++ 46 ∷ d) same left in
    let behind : 46 ∷ b ≡ 46 ∷ d = append_cancel_left c (46 ∷ b) (46 ∷ d) rest in
    (same, cc)

-- bytes are cut at the first point
pub cut_first : (bytes before after : List ℕ) (at : ℕ) → at < length bytes → get_or bytes at 0 ≡ 46
    → ((k : ℕ) → k < at → get_or bytes k 0 ≢ 46) → before ≡ take at bytes
    → after ≡ take (length bytes - (at + 1)) (drop (at + 1) bytes)
    → (bytes ≡ before ++ codes "." ++ after) × All (λ byte. byte ≢ 46) before
cut_first bytes before after at low is none front back =
    let next : suc at ≡ at + 1 = omega arith in
    let behind : after ≡ drop (suc at) bytes =
    back ∙ take_rest bytes (at + 1) ∙ ap (λ n. drop n bytes) (sym next) in (
      cut bytes at 46 low is ∙ rw (front, behind) (sym (append_assoc (take at bytes) (46 ∷ []) (drop (suc at) bytes))),
      rw front (front_lacks bytes at 46 (omega arith) none),
    )

-- bytes without a point aren't cut anywhere
pub cut_nowhere : (bytes before after : List ℕ) → ((k : ℕ) → k < length bytes → get_or bytes k 0 ≢ 46)
    → bytes ≡ before ++ codes "." ++ after → ⊥
cut_nowhere bytes before after none is =
    let left : bytes ≡ before ++ 46 ∷ after = is ∙ append_assoc before (46 ∷ []) after in
    let long : length before < length bytes =
    omega (arith, ap length left, length-append before (46 ∷ after)) in
    none (length before) long (ap (λ (bs : List ℕ). get_or bs (length before) 0) left
    ∙ get_or-append_seam before 46 after 0)
