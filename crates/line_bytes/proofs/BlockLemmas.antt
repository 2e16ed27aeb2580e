-- Bytes that are put after the gathered ones.
use Rattle.std.proofs.Common.{decimal, ◌^◌, ◌≡◌, ℕ, zero, suc, ◌+◌, ◌-◌, ◌*◌, ◌/◌, ◌%◌, ◌<◌, ◌≤◌, Bool, true, ◌&&◌, eqb, List, [], ◌∷◌, ◌++◌, length, get_or, take, drop, refl, ap, subst, sym, ◌∙◌, inl, inr, arith, eq-zero-or-pos, append_assoc, add-one, take-add, take-take, take_all, length-take-le}
use Rattle.std.proofs.Math.Seq.{drop-cons, take-append-add}
use Rattle.std.proofs.lemmas.Bool.{and_parts, eqb-true}
use Rattle.itoa.proofs.Decimal.{decimal_four, decimal_pair, pair}
use Rattle.line_bytes.specs.declared.block.TheConstants.{PAIRS}

-- ---- pairs of digits

abbrev are_pairs : ℕ → Bool
are_pairs zero = true
are_pairs (suc n) = (eqb (get_or PAIRS (n * 2) 0) (48 + n / 10) && eqb (get_or PAIRS (n * 2 + 1) 0) (48 + n % 10))
    && are_pairs n

pairs_below : (count n : ℕ) → are_pairs count ≡ true → n < count
    → (get_or PAIRS (n * 2) 0 ≡ 48 + n / 10) × (get_or PAIRS (n * 2 + 1) 0 ≡ 48 + n % 10)
pairs_below zero n all low = absurd (omega arith)
pairs_below (suc count) n all low =
    let parts = and_parts (eqb (get_or PAIRS (count * 2) 0) (48 + count / 10)
    && eqb (get_or PAIRS (count * 2 + 1) 0) (48 + count % 10)) (are_pairs count) all in
    elim (eq-zero-or-pos (count - n)) [
      | inl last ↦ (
          let same : n ≡ count = omega arith in
          let pair = and_parts (eqb (get_or PAIRS (count * 2) 0) (48 + count / 10))
          (eqb (get_or PAIRS (count * 2 + 1) 0) (48 + count % 10)) parts.0 in
          rw same (eqb-true _ _ pair.0, eqb-true _ _ pair.1))
      | inr before ↦ pairs_below count n parts.1 (omega arith)
    ]

-- the table has the two digits of each number below 100
pub pair_at : (n : ℕ) → n < 100
    → (get_or PAIRS (n * 2) 0 ≡ 48 + n / 10) × (get_or PAIRS (n * 2 + 1) 0 ≡ 48 + n % 10)
pair_at n low = pairs_below 100 n refl low

-- a number of more than six digits is its first digits and the last six, two at a time
pub last_six : (n : ℕ) → 1000000 ≤ n → n < 2 ^ 64
    → ((decimal (n / 1000000) ++ pair (n % 1000000 / 10000)) ++ pair (n % 1000000 % 10000 / 100))
    ++ pair (n % 1000000 % 10000 % 100) ≡ decimal n
last_six n low fits =
    let a : n / 10000 / 100 ≡ n / 1000000 = omega arith in
    let b : n / 10000 % 100 ≡ n % 1000000 / 10000 = omega arith in
    let c : n % 10000 ≡ n % 1000000 % 10000 = omega arith in
    rw (decimal_four n (omega arith) fits, decimal_pair (n / 10000) (omega arith) (omega arith), a, b, c)
    (append_assoc (decimal (n / 1000000) ++ pair (n % 1000000 / 10000)) (pair (n % 1000000 % 10000 / 100))
    (pair (n % 1000000 % 10000 % 100)))

-- ---- what is gathered

-- bytes came after others, and more after them
pub both_behind : (before middle after a b : List ℕ) → middle ≡ before ++ a → after ≡ middle ++ b
    → after ≡ before ++ (a ++ b)
both_behind before middle after a b first second =
    second ∙ (ap (λ xs. xs ++ b) first ∙ append_assoc before a b)

-- of what came after them a prefix counts
pub front_behind : (old new piece : List ℕ) (at end n k : ℕ) → end ≡ at + n → k ≤ n → at ≤ length old
    → take end new ≡ take at old ++ piece → take (at + k) new ≡ take at old ++ take k piece
front_behind old new piece at end n k is few low came =
    sym (take-take (at + k) end new (omega arith))
    ∙ (ap (take (at + k)) came
    ∙ subst (λ m. take (m + k) (take at old ++ piece) ≡ take at old ++ take k piece)
    (length-take-le at old low) (take-append-add (take at old) piece k))

-- ---- eight bytes

next_of : (xs : List ℕ) (i j n : ℕ) → j ≡ i + 1 → i < length xs
    → take (suc n) (drop i xs) ≡ get_or xs i 0 ∷ take n (drop j xs)
next_of xs i j n is low =
    ap (take (suc n)) (drop-cons xs i 0 low)
    ∙ ap (λ k. get_or xs i 0 ∷ take n (drop k xs)) (sym (is ∙ add-one i))

-- four bytes of a list, and those after them
four_of : (xs : List ℕ) (i j k l m n : ℕ) → j ≡ i + 1 → k ≡ j + 1 → l ≡ k + 1 → m ≡ l + 1 → l < length xs
    → take (suc (suc (suc (suc n)))) (drop i xs)
    ≡ get_or xs i 0 ∷ get_or xs j 0 ∷ get_or xs k 0 ∷ get_or xs l 0 ∷ take n (drop m xs)
four_of xs i j k l m n second third fourth behind low =
    next_of xs i j (suc (suc (suc n))) second (omega arith)
    ∙ (ap (λ ys. get_or xs i 0 ∷ ys) (next_of xs j k (suc (suc n)) third (omega arith))
    ∙ (ap (λ ys. get_or xs i 0 ∷ get_or xs j 0 ∷ ys) (next_of xs k l (suc n) fourth (omega arith))
    ∙ ap (λ ys. get_or xs i 0 ∷ get_or xs j 0 ∷ get_or xs k 0 ∷ ys) (next_of xs l m n behind low)))

-- eight bytes of a list
pub eight_of : (xs : List ℕ) (i : ℕ) → i + 8 ≤ length xs
    → (get_or xs i 0 ∷ get_or xs (i + 1) 0 ∷ get_or xs (i + 2) 0 ∷ get_or xs (i + 3) 0 ∷ [])
    ++ (get_or xs (i + 4) 0 ∷ get_or xs (i + 5) 0 ∷ get_or xs (i + 6) 0 ∷ get_or xs (i + 7) 0 ∷ [])
    ≡ take 8 (drop i xs)
eight_of xs i room = sym (
    four_of xs i (i + 1) (i + 2) (i + 3) (i + 4) 4 (omega arith) (omega arith) (omega arith) (omega arith)
    (omega arith)
    ∙ ap (λ ys. get_or xs i 0 ∷ get_or xs (i + 1) 0 ∷ get_or xs (i + 2) 0 ∷ get_or xs (i + 3) 0 ∷ ys)
    (four_of xs (i + 4) (i + 5) (i + 6) (i + 7) (i + 8) 0 (omega arith) (omega arith) (omega arith) (omega arith)
    (omega arith)))

-- a list of forty bytes, eight at a time
pub forty_of : (xs : List ℕ) → length xs ≡ 40
    → (((take 8 (drop 0 xs) ++ take 8 (drop 8 xs)) ++ take 8 (drop 16 xs)) ++ take 8 (drop 24 xs))
    ++ take 8 (drop 32 xs) ≡ xs
forty_of xs size =
    ap (λ ys. ((ys ++ take 8 (drop 16 xs)) ++ take 8 (drop 24 xs)) ++ take 8 (drop 32 xs)) (sym (take-add 8 8 xs))
    ∙ (ap (λ ys. (ys ++ take 8 (drop 24 xs)) ++ take 8 (drop 32 xs)) (sym (take-add 16 8 xs))
    ∙ (ap (λ ys. ys ++ take 8 (drop 32 xs)) (sym (take-add 24 8 xs))
    ∙ (sym (take-add 32 8 xs) ∙ take_all 40 xs (omega (arith, size)))))
