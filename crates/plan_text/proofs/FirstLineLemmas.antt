-- The first line of a text, by the place of the first line feed.
use Rattle.std.proofs.Common.{◌≡◌, ◌≢◌, ◌∙◌, ℕ, ◌+◌, ◌-◌, ◌<◌, List, [], ◌∷◌, ◌++◌, suc, length, length-append, length-drop, take, drop, get_or, sym, ap, arith}
use Rattle.std.proofs.Math.Seq.{get_or-append_seam, take-length}
use Rattle.tab_words.specs.Lines.{lines_of}
use Rattle.tab_words.proofs.CutLemmas.{cut, front_lacks}
use Rattle.tab_words.proofs.LineLemmas.{first_without_feed, lines_of-line, one_line, without_feed-other}

-- the bytes after a place, as a range that ends with the bytes
pub behind : (bytes : List ℕ) (at : ℕ)
    → drop (suc at) bytes ≡ take (length bytes - (at + 1)) (drop (at + 1) bytes)
behind bytes at =
    let rest = drop (at + 1) bytes in
    let one : suc at ≡ at + 1 = omega arith in
    ap (λ n. drop n bytes) one ∙ sym (ap (λ n. take n rest) (sym (length-drop (at + 1) bytes)) ∙ take-length rest)

-- the first line ends there
pub line_up_to : (bytes : List ℕ) (end : ℕ) → end < length bytes → get_or bytes end 0 ≡ 10
    → ((k : ℕ) → k < end → get_or bytes k 0 ≢ 10)
    → lines_of bytes ≡ take end bytes ∷ lines_of (take (length bytes - (end + 1)) (drop (end + 1) bytes))
line_up_to bytes end low at before =
    ap lines_of (cut bytes end 10 low at ∙ ap (λ b. take end bytes ++ 10 ∷ b) (behind bytes end))
    ∙ lines_of-line (take end bytes) (take (length bytes - (end + 1)) (drop (end + 1) bytes))
    (front_lacks bytes end 10 (omega arith) before)

-- bytes without a line feed don't end with one
ends_otherwise : (bytes : List ℕ) → ((k : ℕ) → k < length bytes → get_or bytes k 0 ≢ 10)
    → (front : List ℕ) → bytes ≢ front ++ 10 ∷ []
ends_otherwise bytes none front is =
    let size : length bytes ≡ length front + 1 = ap length is ∙ length-append front (10 ∷ []) in
    none (length front) (omega arith)
    (ap (λ l. get_or l (length front) 0) is ∙ get_or-append_seam front 10 [] 0)

-- bytes without a line feed are one line
pub only_line : (bytes : List ℕ) → 0 < length bytes → ((k : ℕ) → k < length bytes → get_or bytes k 0 ≢ 10)
    → lines_of bytes ≡ bytes ∷ lines_of []
only_line bytes some none =
    first_without_feed bytes bytes [] (one_line bytes some none)
    ∙ ap (λ l. l ∷ lines_of []) (without_feed-other bytes (ends_otherwise bytes none))
