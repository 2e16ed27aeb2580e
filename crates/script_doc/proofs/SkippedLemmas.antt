-- Lines that say something by their first byte or their last.
use Rattle.std.proofs.Common.{◌≡◌, ◌≢◌, ℕ, zero, suc, ◌+◌, ◌-◌, ◌<◌, true, false, not, List, [], ◌∷◌, get_or, length, refl, sym, subst, inl, inr, arith}
use Rattle.std.proofs.lemmas.Bool.{cases_Bool, eqb-true, ne_eqb}
use Rattle.std.proofs.lemmas.Bool.Decides.{nat_tests}
use Rattle.std.proofs.lemmas.List.Splits.{slice_split-cons_no}
use Rattle.std.specs.Bool.{◌==◌}
use Rattle.std.specs.List.{filter, onto_first, slice_split}
use Rattle.tab_words.specs.Words.{words_of}
use Rattle.tab_words.proofs.WordLemmas.{words_of-space}
use Rattle.script_doc.specs.Statements.{is_skipped}

-- the run that a byte belongs to is a word
some_run : (byte : ℕ) (runs : List (List ℕ))
    → 0 < length (filter (λ run. not (length run == 0)) (onto_first byte runs))
some_run byte [] = omega arith
some_run byte (run ∷ runs) = let kept : not (length (byte ∷ run) == 0) ≡ true = grind (arith, nat_tests) in
    rw kept (omega arith)

-- a line that begins with no space has a word
has_words : (byte : ℕ) (line : List ℕ) → (byte == 32) ≡ false → 0 < length (words_of (byte ∷ line))
unfolding words_of
has_words byte line other =
    subst (λ (runs : List (List ℕ)). 0 < length (filter (λ run. not (length run == 0)) runs))
    (sym (slice_split-cons_no (λ (b : ℕ). b == 32) byte line other))
    (some_run byte (slice_split (λ (b : ℕ). b == 32) line))

-- a line whose first byte comes after `#` is not skipped
pub said_by_first : (line : List ℕ) → 0 < length line → 35 < get_or line 0 0 → is_skipped line ≡ false
said_by_first [] some high = absurd (omega arith)
said_by_first (byte ∷ line) some high =
    let space : (byte == 32) ≡ false = grind (arith, nat_tests) in
    let sign : (byte == 35) ≡ false = grind (arith, nat_tests) in
    let long = has_words byte line space in
    let none : (length (words_of (byte ∷ line)) == 0) ≡ false = grind (arith, nat_tests) in
    rw (none, sign) refl

-- a line that ends with no space has a word
ends_in_word : (line : List ℕ) (n : ℕ) → length line ≡ n + 1 → (get_or line n 0 == 32) ≡ false
    → 0 < length (words_of line)
ends_in_word [] n size last = absurd (omega (arith, size))
ends_in_word (byte ∷ line) zero size last = has_words byte line last
ends_in_word (byte ∷ line) (suc n) size last = elim (cases_Bool (byte == 32)) [
  | inl space ↦
      let more = ends_in_word line n (omega (arith, size)) last in
      let is : byte ≡ 32 = eqb-true byte 32 space in
      subst (λ (b : ℕ). 0 < length (words_of (b ∷ line))) (sym is)
      (subst (λ (words : List (List ℕ)). 0 < length words) (sym (words_of-space line)) more)
  | inr other ↦ has_words byte line other
]

-- such a line is not skipped where it is no comment
pub said_by_last : (line : List ℕ) → 0 < length line → get_or line 0 0 ≢ 35
    → not (get_or line (length line - 1) 0 == 32) ≡ true → is_skipped line ≡ false
said_by_last line some plain last =
    let other : (get_or line (length line - 1) 0 == 32) ≡ false = grind (arith, nat_tests) in
    let long = ends_in_word line (length line - 1) (omega arith) other in
    let none : (length (words_of line) == 0) ≡ false = grind (arith, nat_tests) in
    let sign : (get_or line 0 0 == 35) ≡ false = ne_eqb (get_or line 0 0) 35 plain in
    rw (none, sign) refl
