-- Digits, and the number that they write.
use Rattle.std.proofs.Common.{IfNone, IfSome, None, Option, Some, SomeIff, subst, arith, lit<, lit≤, ◌≡◌, ℕ, ◌+◌, ◌*◌, ◌^◌, ◌<◌, ◌≤◌, List, [], ◌∷◌, length, take, get_or, zero, suc, ap, sym, ◌∙◌}
use Rattle.std.specs.Char.{digit_value}
use Rattle.std.specs.Fmt.{decimal}
use Rattle.std.specs.Str.Parse.{AllDigits, digits_value}
use Rattle.std.proofs.lemmas.Fmt.{decimal_injective, decimal_is_IsNumeral, decimal-digits_value, decimal_digit, first_decimal, decimal_nonempty}
use Rattle.std.proofs.lemmas.Int.Digits.{digits_value_more}
use Rattle.std.proofs.lemmas.Str.Parse.{IsNumeralModel, numerals_by_value, tells_digits, digits_value-take-le}
use Rattle.tab_words.specs.Numbers.{Spells}

-- each byte of a numeral is a digit
pub digit_below : (radix : ℕ) (bytes : List ℕ) (i : ℕ) → i < length bytes → AllDigits radix bytes
    → digit_value (get_or bytes i 0) < radix
digit_below radix [] i low all = absurd (omega arith)
digit_below radix (b ∷ bytes) zero low all = all.0
digit_below radix (b ∷ bytes) (suc i) low all = digit_below radix bytes i (omega arith) all.1

-- the number of the digits up to one of them is at most that of all
pub front_value : (bytes : List ℕ) (i : ℕ) → i < length bytes
    → digits_value 10 (take i bytes) * 10 + digit_value (get_or bytes i 0) ≤ digits_value 10 bytes
front_value bytes i low = rw (← digits_value_more 10 bytes i low)
    (digits_value-take-le 10 bytes (i + 1) (lit≤ tt))

-- std reads decimal digits as the value that the lemmas of its page speak of
own : IsNumeralModel (λ ds. AllDigits 10 ds) (digits_value 10)
own = numerals_by_value _ tells_digits

-- digits without a leading zero are the spelling of their number
pub spells_value : (bytes : List ℕ) → AllDigits 10 bytes → 0 < length bytes
    → (get_or bytes 0 0 ≡ 48 → length bytes ≡ 1) → digits_value 10 bytes < 2 ^ 64
    → Spells bytes (digits_value 10 bytes)
spells_value bytes all some plain low = record {
  fits = low;
  digits = sym
      (decimal-digits_value own bytes all some plain low);
}

-- a spelling is of digits, of which there is one at least, and has its number
pub spelled_digits : (bytes : List ℕ) (n : ℕ) → Spells bytes n
    → AllDigits 10 bytes × (digits_value 10 bytes < 2 ^ 64)
spelled_digits bytes n spelled =
    let numeral = decimal_is_IsNumeral n spelled.fits in
    rw spelled.digits (numeral.0.1, rw numeral.1 spelled.fits)

-- an empty word spells no number
pub spelled_some : (bytes : List ℕ) (n : ℕ) → Spells bytes n → 0 < length bytes
spelled_some bytes n spelled = rw spelled.digits (decimal_nonempty n spelled.fits)

-- no spelling of two digits or more begins with a zero
pub spelled_plain : (bytes : List ℕ) (n : ℕ) → Spells bytes n → 1 < length bytes → get_or bytes 0 0 ≡ 48 → ⊥
spelled_plain bytes zero spelled long first =
    let one : decimal 0 ≡ 48 ∷ [] = decimal_digit 0 (lit< tt) in
    let size : length bytes ≡ 1 = ap length (spelled.digits ∙ one) in
    absurd (omega arith)
spelled_plain bytes (suc n) spelled long first =
    let above : 48 < get_or (decimal (suc n)) 0 0 = first_decimal (suc n) (omega arith) spelled.fits in
    let same : get_or bytes 0 0 ≡ get_or (decimal (suc n)) 0 0 =
    ap (λ (bs : List ℕ). get_or bs 0 0) spelled.digits in
    absurd (omega arith)

-- digits that spell a number are read as it
pub read_spelling : (bytes : List ℕ) (r : Option ℕ) → 0 < length bytes
    → (1 < length bytes → get_or bytes 0 0 ≡ 48 → ⊥)
    → SomeIff r (AllDigits 10 bytes × (digits_value 10 bytes < 2 ^ 64)) (digits_value 10 bytes)
    → IfSome r (λ n. Spells bytes n) × IfNone r ((n : ℕ) → Spells bytes n → ⊥)
read_spelling bytes None some plain read = (tt, λ n spelled. read (spelled_digits bytes n spelled))
read_spelling bytes (Some n) some plain read = (
  subst (Spells bytes) (sym read.1)
      (spells_value bytes read.0.0 some (λ zero. grind (arith, plain)) read.0.1),
  tt,
)

-- bytes spell one number at most
pub spelled_once : (bytes : List ℕ) (m n : ℕ) → Spells bytes m → n < 2 ^ 64 → bytes ≡ decimal n → m ≡ n
spelled_once bytes m n spelled low is = decimal_injective m n spelled.fits low (sym spelled.digits ∙ is)
