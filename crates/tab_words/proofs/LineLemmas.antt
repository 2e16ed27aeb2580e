-- The first line of a text, and what follows it.
use Rattle.std.proofs.Common.{Bool, if◌then◌else◌, true, arith, ◌+◌, ◌≡◌, ◌≢◌, ℕ, ◌<◌, ◌≤◌, List, [], ◌∷◌, ◌++◌, length, length-append, map, take, drop, get_or, zero, suc, ap, sym, ◌∙◌, refl, false, Bor, Option, Some, None, MatchOption}
use Rattle.std.proofs.Math.Seq.{get_or-append_seam}
use Rattle.std.proofs.lemmas.Bool.Decides.{nat_tests}
use Rattle.std.proofs.lemmas.List.{length-map}
use Rattle.std.specs.Bool.{◌==◌}
use Rattle.std.specs.List.{All, onto_first}
use Rattle.std.specs.Option.{unwrap_or}
use Rattle.tab_words.specs.Lines.{lines_of, raw_lines_of, without_feed}
use Rattle.tab_words.proofs.CutLemmas.{lacks}

-- ---- lines with their line feeds

-- the lines of no bytes: the end of the lemmas below
raw_lines_of-nil : raw_lines_of [] ≡ []
unfolding raw_lines_of
raw_lines_of-nil = refl

-- a line feed ends its line: their step at one
pub raw_lines_of-feed : (byte : ℕ) (bytes : List ℕ) → byte ≡ 10
    → raw_lines_of (byte ∷ bytes) ≡ (byte ∷ []) ∷ raw_lines_of bytes
unfolding raw_lines_of
raw_lines_of-feed byte bytes is = rw is refl

-- another byte belongs to the line after it: their step elsewhere
raw_lines_of-byte : (byte : ℕ) (bytes : List ℕ) → byte ≢ 10
    → raw_lines_of (byte ∷ bytes) ≡ onto_first byte (raw_lines_of bytes)
unfolding raw_lines_of
raw_lines_of-byte byte bytes other = let no : (byte == 10) ≡ false = grind (arith, nat_tests) in rw no refl

-- a line that a line feed ends
pub raw_lines_of-line : (line rest : List ℕ) → All (λ byte. byte ≢ 10) line
    → raw_lines_of (line ++ 10 ∷ rest) ≡ (line ++ 10 ∷ []) ∷ raw_lines_of rest
raw_lines_of-line [] rest all = raw_lines_of-feed 10 rest refl
raw_lines_of-line (byte ∷ line) rest all =
    raw_lines_of-byte byte (line ++ 10 ∷ rest) (all 0 0 (omega arith))
    ∙ ap (onto_first byte) (raw_lines_of-line line rest (λ k d low. all (suc k) d (omega arith)))

-- a last line that none ends
raw_lines_of-last : (line : List ℕ) → 0 < length line → All (λ byte. byte ≢ 10) line
    → raw_lines_of line ≡ line ∷ []
raw_lines_of-last [] some all = absurd (omega arith)
raw_lines_of-last (byte ∷ []) some all =
    raw_lines_of-byte byte [] (all 0 0 (omega arith)) ∙ ap (onto_first byte) raw_lines_of-nil
raw_lines_of-last (byte ∷ next ∷ line) some all =
    raw_lines_of-byte byte (next ∷ line) (all 0 0 (omega arith))
    ∙ ap (onto_first byte) (raw_lines_of-last (next ∷ line) (omega arith)
    (λ k d low. all (suc k) d (omega arith)))

-- the first line ends with the first line feed
pub first_line : (bytes : List ℕ) (end : ℕ) → end < length bytes → get_or bytes end 0 ≡ 10
    → ((k : ℕ) → k < end → get_or bytes k 0 ≢ 10)
    → raw_lines_of bytes ≡ take (suc end) bytes ∷ raw_lines_of (drop (suc end) bytes)
first_line [] end low at before = absurd (omega arith)
first_line (byte ∷ bytes) zero low at before = raw_lines_of-feed byte bytes at
first_line (byte ∷ bytes) (suc end) low at before =
    raw_lines_of-byte byte bytes (before 0 (omega arith))
    ∙ ap (onto_first byte) (first_line bytes end (omega arith) at (λ k small. before (suc k) (omega arith)))

-- without a line feed all is one line
pub one_line : (bytes : List ℕ) → 0 < length bytes → ((k : ℕ) → k < length bytes → get_or bytes k 0 ≢ 10)
    → raw_lines_of bytes ≡ bytes ∷ raw_lines_of []
one_line bytes some none =
    raw_lines_of-last bytes some (lacks bytes 10 none) ∙ ap (λ r. bytes ∷ r) (sym raw_lines_of-nil)

-- ---- lines without them

-- a line feed at the end goes
pub without_feed-feed : (line : List ℕ) → without_feed (line ++ 10 ∷ []) ≡ line
unfolding without_feed
without_feed-feed [] = refl
without_feed-feed (byte ∷ []) = refl
without_feed-feed (byte ∷ next ∷ line) = ap (λ l. byte ∷ l) (without_feed-feed (next ∷ line))

-- where none is there, all bytes stay
pub without_feed-other : (line : List ℕ) → ((front : List ℕ) → line ≢ front ++ 10 ∷ [])
    → without_feed line ≡ line
unfolding without_feed
without_feed-other [] none = refl
without_feed-other (byte ∷ []) none =
    let other : byte ≢ 10 = λ is. none [] (ap (λ b. b ∷ []) is) in
    let no : (byte == 10) ≡ false = grind (arith, nat_tests) in
    rw no refl
without_feed-other (byte ∷ next ∷ line) none =
    ap (λ l. byte ∷ l) (without_feed-other (next ∷ line) (λ front is. none (byte ∷ front) (ap (λ l. byte ∷ l) is)))

-- no line grows by that
pub length-without_feed : (line : List ℕ) → length (without_feed line) ≤ length line
unfolding without_feed
length-without_feed [] = omega arith
length-without_feed (byte ∷ []) =
    let text = λ (b : Bool). if b then [] else byte ∷ [] in
    elim (byte == 10) as (λ b. length (text b) ≤ 1) [
      | true ↦ omega arith
      | false ↦ omega arith
    ]
length-without_feed (byte ∷ next ∷ line) = let rest = length-without_feed (next ∷ line) in omega (arith, rest)

-- what is left of a line whose line feed is stripped, or all of it where it has none
pub stripped : (line : List ℕ) (own : Bor (List ℕ)) (text : Option (Bor (List ℕ))) → own.now ≡ line
    → MatchOption text ((front : List ℕ) → line ≢ front ++ 10 ∷ []) (λ x. line ≡ x.now ++ 10 ∷ [])
    → (unwrap_or text own).now ≡ without_feed line
stripped line own None is none = is ∙ sym (without_feed-other line none)
stripped line own (Some text) is ended = sym (ap without_feed ended ∙ without_feed-feed text.now)

-- bytes without a line feed don't end with one
ends_otherwise : (line : List ℕ) → All (λ byte. byte ≢ 10) line → (front : List ℕ) → line ≢ front ++ 10 ∷ []
ends_otherwise line all front is =
    let size : length line ≡ length front + 1 = ap length is ∙ length-append front (10 ∷ []) in
    all (length front) 0 (omega arith)
    (ap (λ l. get_or l (length front) 0) is ∙ get_or-append_seam front 10 [] 0)

-- an iterator over no bytes gives no line
pub lines_of-nil : lines_of [] ≡ []
unfolding lines_of raw_lines_of
lines_of-nil = refl

-- what the first line with its line feed is without it
pub first_without_feed : (bytes line rest : List ℕ) → raw_lines_of bytes ≡ line ∷ raw_lines_of rest
    → lines_of bytes ≡ without_feed line ∷ lines_of rest
unfolding lines_of
first_without_feed bytes line rest is = ap (map without_feed) is

-- a line that a line feed ends
pub lines_of-line : (line rest : List ℕ) → All (λ byte. byte ≢ 10) line
    → lines_of (line ++ 10 ∷ rest) ≡ line ∷ lines_of rest
lines_of-line line rest all =
    first_without_feed (line ++ 10 ∷ rest) (line ++ 10 ∷ []) rest (raw_lines_of-line line rest all)
    ∙ ap (λ l. l ∷ lines_of rest) (without_feed-feed line)

-- there are no more lines than bytes
length-onto_first : (byte : ℕ) (lines : List (List ℕ)) → length (onto_first byte lines) ≤ length lines + 1
length-onto_first byte [] = omega arith
length-onto_first byte (line ∷ lines) = omega arith

-- lines with their line feeds are no more than the bytes
pub length-raw_lines_of : (bytes : List ℕ) → length (raw_lines_of bytes) ≤ length bytes
unfolding raw_lines_of
length-raw_lines_of [] = omega arith
length-raw_lines_of (byte ∷ bytes) =
    let rest = length-raw_lines_of bytes in
    let first = length-onto_first byte (raw_lines_of bytes) in
    let lines = λ (b : Bool). if b then (byte ∷ []) ∷ raw_lines_of bytes else onto_first byte (raw_lines_of bytes) in
    elim (byte == 10) as (λ b. length (lines b) ≤ length (byte ∷ bytes)) [
      | true ↦ omega (arith, rest)
      | false ↦ omega (arith, rest, first)
    ]

-- a count of lines fits where the count of bytes does
pub length-lines_of : (bytes : List ℕ) → length (lines_of bytes) ≤ length bytes
unfolding lines_of
length-lines_of bytes =
    let few = length-raw_lines_of bytes in omega (arith, length-map (raw_lines_of bytes) without_feed)
