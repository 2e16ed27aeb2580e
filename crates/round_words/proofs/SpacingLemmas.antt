-- Words that are apart in a table: what a change of one makes of the words at their places.
use Rattle.std.proofs.Common.{◌≡◌, ◌≢◌, ℕ, zero, suc, ◌<◌, Bool, true, false, ◌&&◌, List, [], ◌∷◌, length, set, refl, sym, ap, ◌∙◌, subst, arith}
use Rattle.std.specs.Prelude.{nat_lt, slice_index}
use Rattle.std.proofs.lemmas.Bool.Decides.{nat_tests}
use Rattle.atomic_table.specs.Table.{State, Splits, Joins}
use Rattle.round_words.specs.declared.spacing.TheConstants.{PLACES, SPACE}
use Rattle.round_words.specs.declared.view.View.{View}
use Rattle.round_words.specs.Inside.Spacing.{KeepsSpaced, words_at}
use Rattle.round_words.specs.Rule.{KeepsRule}
use Rattle.round_words.proofs.ListLemmas.{word_here, word_else}

-- each number is above the one before it
abbrev rises : List ℕ → Bool
rises [] = true
rises (x ∷ []) = true
rises (x ∷ y ∷ ys) = nat_lt x y && rises (y ∷ ys)

-- each number is below n
abbrev all_below : ℕ → List ℕ → Bool
all_below n [] = true
all_below n (x ∷ xs) = nat_lt x n && all_below n xs

-- the first two
first_below : (x y : ℕ) (b : Bool) → (nat_lt x y && b) ≡ true → x < y
first_below x y b is = grind (arith, nat_tests)

-- the second of two tests that both pass
rest_is : (a b : Bool) → (a && b) ≡ true → b ≡ true
rest_is true b is = is
rest_is false b is = absurd (cc)

-- all numbers are above the first
above : (x : ℕ) (ps : List ℕ) (i : ℕ) → rises (x ∷ ps) ≡ true → i < length ps → x < slice_index ps i
above x [] i r lt = absurd (omega arith)
above x (y ∷ ys) zero r lt = first_below x y (rises (y ∷ ys)) r
above x (y ∷ ys) (suc i) r lt =
    let a = first_below x y (rises (y ∷ ys)) r in
    let b = above y ys i (rest_is (nat_lt x y) (rises (y ∷ ys)) r) (omega arith) in
    omega arith

-- the rest of rising numbers
rest_rises : (x : ℕ) (xs : List ℕ) → rises (x ∷ xs) ≡ true → rises xs ≡ true
rest_rises x [] r = refl
rest_rises x (y ∷ ys) r = rest_is (nat_lt x y) (rises (y ∷ ys)) r

-- a number of a list in which all are below n
below : (n : ℕ) (ps : List ℕ) (i : ℕ) → all_below n ps ≡ true → i < length ps → slice_index ps i < n
below n [] i all lt = absurd (omega arith)
below n (p ∷ ps) zero all lt = first_below p n (all_below n ps) all
below n (p ∷ ps) (suc i) all lt = below n ps i (rest_is (nat_lt p n) (all_below n ps) all) (omega arith)

-- the word at a place
at_place : (ps words : List ℕ) (i : ℕ) → i < length ps
    → slice_index (words_at ps words) i ≡ slice_index words (slice_index ps i)
at_place [] words i lt = absurd (omega arith)
at_place (p ∷ ps) words zero lt = refl
at_place (p ∷ ps) words (suc i) lt = at_place ps words i (omega arith)

-- a word elsewhere is written
else_written : (ps words : List ℕ) (q n : ℕ) → ((i : ℕ) → i < length ps → slice_index ps i ≢ q)
    → words_at ps (set words q n) ≡ words_at ps words
else_written [] words q n away = refl
else_written (p ∷ ps) words q n away =
    ap (λ (k : ℕ). k ∷ words_at ps (set words q n)) (word_else words q p n (away 0 (omega arith)))
    ∙ ap (λ (ks : List ℕ). slice_index words p ∷ ks) (else_written ps words q n (λ i lt. away (suc i) (omega arith)))

-- the word at a place is written
place_written : (ps words : List ℕ) (i n : ℕ) → rises ps ≡ true → i < length ps
    → ((j : ℕ) → j < length ps → slice_index ps j < length words)
    → words_at ps (set words (slice_index ps i) n) ≡ set (words_at ps words) i n
place_written [] words i n r lt fit = absurd (omega arith)
place_written (p ∷ ps) words zero n r lt fit =
    ap (λ (k : ℕ). k ∷ words_at ps (set words p n)) (word_here words p n (fit 0 (omega arith)))
    ∙ ap (λ (ks : List ℕ). n ∷ ks) (else_written ps words p n (λ j few same. let up = above p ps j r few in omega arith))
place_written (p ∷ ps) words (suc i) n r lt fit =
    let q : ℕ = slice_index ps i in
    let up = above p ps i r (omega arith) in
    ap (λ (k : ℕ). k ∷ words_at ps (set words q n)) (word_else words q p n (λ same. omega arith))
    ∙ ap (λ (ks : List ℕ). slice_index words p ∷ ks)
    (place_written ps words i n (rest_rises p ps r) (omega arith) (λ j few. fit (suc j) (omega arith)))

-- a word's place is in the table
pub place_within : (i : ℕ) → i < 37 → slice_index PLACES i < SPACE
place_within i lt = below SPACE PLACES i refl lt

-- the word of the table that is another's
pub word_is : (words : List ℕ) (i : ℕ) → i < 37 → slice_index (words_at PLACES words) i ≡ slice_index words (slice_index PLACES i)
word_is words i lt = at_place PLACES words i lt

-- the word of the table that is written
pub word_written : (words : List ℕ) (i n : ℕ) → length words ≡ SPACE → i < 37
    → words_at PLACES (set words (slice_index PLACES i) n) ≡ set (words_at PLACES words) i n
word_written words i n long lt = place_written PLACES words i n refl lt
    (λ j few. let h = place_within j few in subst (λ (k : ℕ). slice_index PLACES j < k) (sym long) h)

-- the words stay as parts go to another seat
pub spaced_splits : (id : ℕ) (v left right : View)
    → Splits (λ (s : State (Unit {0}) View). KeepsRule s.words s.views) id v left right
    → Splits (λ (s : State (Unit {0}) View). KeepsSpaced s.words s.views) id v left right
spaced_splits id v left right splits s ruled at = (
  ruled.0,
  splits (record { words = words_at PLACES s.words; homes = s.homes; views = s.views }) ruled.1 at,
)

-- the words stay as parts come back
pub spaced_joins : (id : ℕ) (v : View) (other : ℕ) (u both spent : View)
    → Joins (λ (s : State (Unit {0}) View). KeepsRule s.words s.views) id v other u both spent
    → Joins (λ (s : State (Unit {0}) View). KeepsSpaced s.words s.views) id v other u both spent
spaced_joins id v other u both spent joins s ruled at apart there = (
  ruled.0,
  joins (record { words = words_at PLACES s.words; homes = s.homes; views = s.views }) ruled.1 at apart there,
)
