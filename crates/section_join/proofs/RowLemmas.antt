-- No line of a text has a line feed in it.
use Rattle.std.proofs.Common.{◌≡◌, ◌≢◌, ℕ, ◌<◌, ◌==◌, true, false, List, [], ◌∷◌, length, map, arith, ◌⊎◌, inl, inr}
use Rattle.std.specs.List.{All, onto_first}
use Rattle.std.proofs.lemmas.List.Elements.{All-cons}
use Rattle.std.proofs.lemmas.Bool.Decides.{nat_tests}
use Rattle.tab_words.specs.Lines.{lines_of, raw_lines_of, without_feed}

-- the bytes have no line feed
abbrev pub Lacks : List ℕ → Type 0
Lacks line = All (λ byte. byte ≢ 10) line

-- none of the lines has
abbrev pub EachLacks : List (List ℕ) → Type 0
EachLacks [] = Unit {0}
EachLacks (line ∷ lines) = Lacks line × EachLacks lines

-- a line with its line feed: it has a byte, and no line feed but at its end
abbrev IsRow : List ℕ → Type 0
IsRow row = (0 < length row) × Lacks (without_feed row)

abbrev AreRows : List (List ℕ) → Type 0
AreRows [] = Unit {0}
AreRows (row ∷ rows) = IsRow row × AreRows rows

-- no bytes have none
lacks_none : Lacks []
lacks_none k d low is = absurd (omega (arith, low))

is_feed : (byte : ℕ) → (byte ≡ 10) ⊎ (byte ≢ 10)
is_feed byte = grind arith

-- another byte before a row
row_more : (byte : ℕ) (row : List ℕ) → byte ≢ 10 → IsRow row → IsRow (byte ∷ row)
unfolding without_feed
row_more byte [] other is = absurd (omega (arith, is.0))
row_more byte (next ∷ row) other is = (omega arith, All-cons (λ b. b ≢ 10) byte (without_feed (next ∷ row)) other is.1)

row_one : (byte : ℕ) → byte ≢ 10 → IsRow (byte ∷ [])
unfolding without_feed
row_one byte other =
    let no : (byte == 10) ≡ false = grind (arith, nat_tests) in
    (omega arith, rw no (All-cons (λ b. b ≢ 10) byte [] other lacks_none))

rows_more : (byte : ℕ) (rows : List (List ℕ)) → byte ≢ 10 → AreRows rows → AreRows (onto_first byte rows)
rows_more byte [] other are = (row_one byte other, tt)
rows_more byte (row ∷ rows) other are = (row_more byte row other are.0, are.1)

rows_are : (bytes : List ℕ) → AreRows (raw_lines_of bytes)
unfolding raw_lines_of without_feed
rows_are [] = tt
rows_are (byte ∷ bytes) = elim (is_feed byte) [
  | inl feed ↦
      let yes : (byte == 10) ≡ true = grind (arith, nat_tests) in
      rw yes ((omega arith, rw yes lacks_none), rows_are bytes)
  | inr other ↦
      let no : (byte == 10) ≡ false = grind (arith, nat_tests) in
      rw no (rows_more byte (raw_lines_of bytes) other (rows_are bytes))
]

each_lacks : (rows : List (List ℕ)) → AreRows rows → EachLacks (map without_feed rows)
each_lacks [] are = tt
each_lacks (row ∷ rows) are = (are.0.1, each_lacks rows are.1)

-- no line of a text has a line feed
pub lines_lack : (bytes : List ℕ) → EachLacks (lines_of bytes)
unfolding lines_of
lines_lack bytes = each_lacks (raw_lines_of bytes) (rows_are bytes)
