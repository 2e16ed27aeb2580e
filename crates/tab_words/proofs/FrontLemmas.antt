-- Bytes that begin no separator belong to the first section.
use Rattle.std.proofs.Common.{Bool, if◌then◌else◌, true, arith, ◌+◌, ◌-◌, ◌≡◌, ◌≢◌, ℕ, ◌<◌, ◌≤◌, List, [], ◌∷◌, ◌++◌, length, map, take, drop, drop-cons, get_or, suc, ap, sym, ◌∙◌, refl, false}
use Rattle.std.proofs.lemmas.Bool.{eq-eqb, eqb-false, eqb-true}
use Rattle.std.proofs.lemmas.Bool.Decides.{nat_tests}
use Rattle.std.proofs.lemmas.List.{drop-drop, drop_all, drop_at, length-take-le, take-append-drop}
use Rattle.std.proofs.Math.Seq.{take-add}
use Rattle.std.specs.Bool.{◌==◌}
use Rattle.std.specs.List.{All, concat, onto_first, slice_split}
use Rattle.memchr.specs.Find.{NoneBefore, Nowhere, Passes, is_byte}
use Rattle.tab_words.specs.Lines.{raw_lines_of}
use Rattle.tab_words.specs.Sections.{is_separator, sections_of}
use Rattle.tab_words.specs.Inside.Fronts.{sections_after}
use Rattle.tab_words.proofs.CutLemmas.{front_lacks}
use Rattle.tab_words.proofs.LineLemmas.{raw_lines_of-feed}
use Rattle.tab_words.proofs.SectionLemmas.{behind-behind, map_concat-onto_first, sections_of-behind, sections_of-row}

-- a line with another first byte is no separator
other_first : (byte : ℕ) (row : List ℕ) → byte ≢ 37 → is_separator (byte ∷ row) ≡ false
other_first byte row other =
    let no : (byte == 37) ≡ false = grind (arith, nat_tests) in
    rw no refl

-- a byte that joins a line, where neither begins as a separator does
joined : (byte first : ℕ) (row : List ℕ) (rows : List (List ℕ)) → byte ≢ 37 → first ≢ 37
    → map concat (slice_split is_separator ((byte ∷ first ∷ row) ∷ rows))
    ≡ sections_after (byte ∷ []) (map concat (slice_split is_separator ((first ∷ row) ∷ rows)))
joined byte first row rows other plain =
    let parts = slice_split is_separator rows in
    rw (other_first byte (first ∷ row) other, other_first first row plain)
    (map_concat-onto_first (byte ∷ first ∷ row) parts
    ∙ sym (behind-behind (byte ∷ []) (first ∷ row) (map concat parts))
    ∙ sym (ap (sections_after (byte ∷ [])) (map_concat-onto_first (first ∷ row) parts)))

-- a byte that joins a line, where the lines after it are given by their first byte and what follows
-- that
joined_onto : (byte first : ℕ) (rows : List (List ℕ)) → byte ≢ 37 → first ≢ 37
    → map concat (slice_split is_separator (onto_first byte (onto_first first rows)))
    ≡ sections_after (byte ∷ []) (map concat (slice_split is_separator (onto_first first rows)))
joined_onto byte first [] other plain = joined byte first [] [] other plain
joined_onto byte first (row ∷ rows) other plain = joined byte first row rows other plain

-- a byte within a line, before one that doesn't begin as a separator does
plain_next : (byte first : ℕ) (more : List ℕ) → byte ≢ 10 → byte ≢ 37 → first ≢ 37
    → sections_of (byte ∷ first ∷ more) ≡ sections_after (byte ∷ []) (sections_of (first ∷ more))
unfolding raw_lines_of sections_of
plain_next byte first more within other plain =
    let no : (byte == 10) ≡ false = grind (arith, nat_tests) in
    let rows = λ (b : Bool). if b then (first ∷ []) ∷ raw_lines_of more else onto_first first (raw_lines_of more) in
    rw no (elim (first == 10) as (λ b. map concat (slice_split is_separator (onto_first byte (rows b)))
    ≡ sections_after (byte ∷ []) (map concat (slice_split is_separator (rows b)))) [
      | true ↦ joined byte first [] (raw_lines_of more) other plain
      | false ↦ joined_onto byte first (raw_lines_of more) other plain
    ])

-- a line feed that is a whole line
plain_feed : (byte : ℕ) (bytes : List ℕ) → byte ≡ 10
    → sections_of (byte ∷ bytes) ≡ sections_after (byte ∷ []) (sections_of bytes)
plain_feed byte bytes feed =
    sections_of-row (byte ∷ bytes) (byte ∷ []) bytes (raw_lines_of-feed byte bytes feed)
    (other_first byte [] (λ is. absurd (omega arith)))

-- a byte that is the whole text
lone_byte : (byte : ℕ) → (byte == 10) ≡ false → raw_lines_of (byte ∷ []) ≡ (byte ∷ []) ∷ raw_lines_of []
unfolding raw_lines_of
lone_byte byte is = rw is refl

-- a byte that is no `%`, where it ends its line or none follows it
plain_byte : (byte : ℕ) (bytes : List ℕ) (feed : Bool) → (byte == 10) ≡ feed → byte ≢ 37
    → get_or bytes 0 0 ≢ 37 → sections_of (byte ∷ bytes) ≡ sections_after (byte ∷ []) (sections_of bytes)
plain_byte byte bytes true is other plain = plain_feed byte bytes (eqb-true byte 10 is)
plain_byte byte [] false is other plain =
    sections_of-row (byte ∷ []) (byte ∷ []) [] (lone_byte byte is) (other_first byte [] other)
plain_byte byte (first ∷ more) false is other plain =
    plain_next byte first more (eqb-false byte 10 is) other plain

-- a prefix without `%` belongs to the first section, where no `%` follows it
plain_front : (front rest : List ℕ) → All (λ byte. byte ≢ 37) front → (0 < length front → get_or rest 0 0 ≢ 37)
    → sections_of (front ++ rest) ≡ sections_after front (sections_of rest)
plain_front [] rest all follows = sections_of-behind rest
plain_front (byte ∷ []) rest all follows =
    plain_byte byte rest (byte == 10) refl (all 0 0 (omega arith)) (follows (omega arith))
plain_front (byte ∷ next ∷ front) rest all follows =
    plain_byte byte (next ∷ (front ++ rest)) (byte == 10) refl (all 0 0 (omega arith)) (all 1 0 (omega arith))
    ∙ ap (sections_after (byte ∷ [])) (plain_front (next ∷ front) rest (λ k d low. all (suc k) d (omega arith))
    (λ some. follows (omega arith)))
    ∙ behind-behind (byte ∷ []) (next ∷ front) (sections_of rest)

-- the prefix up to a place belongs to the first section, where it has no `%` and none follows it
plain_take : (bytes : List ℕ) (n : ℕ) → n ≤ length bytes → ((k : ℕ) → k < n → get_or bytes k 0 ≢ 37)
    → (0 < n → get_or (drop n bytes) 0 0 ≢ 37)
    → sections_of bytes ≡ sections_after (take n bytes) (sections_of (drop n bytes))
plain_take bytes n within none follows =
    ap sections_of (sym (take-append-drop n bytes))
    ∙ plain_front (take n bytes) (drop n bytes) (front_lacks bytes n 37 within none)
    (λ some. follows (omega (arith, length-take-le n bytes within)))

-- a text without `%`
pub plain_all : (bytes : List ℕ) → Nowhere (Passes (is_byte 37) bytes) 0 (length bytes)
    → sections_of bytes ≡ sections_after (take (length bytes) bytes) (sections_of (drop (length bytes) bytes))
plain_all bytes none =
    plain_take bytes (length bytes) (omega arith) (λ k low is. none k (omega arith) low (eq-eqb _ _ is))
    (λ some. rw (drop_all (length bytes) bytes (omega arith)) (λ is. absurd (omega (arith, is))))

-- a text up to the byte before its first `%`
pub plain_before : (bytes : List ℕ) (place : ℕ) → NoneBefore (Passes (is_byte 37) bytes) 0 (length bytes) place
    → sections_of bytes ≡ sections_after (take (place - 1) bytes) (sections_of (drop (place - 1) bytes))
plain_before bytes place first =
    let none : (k : ℕ) → k < place → get_or bytes k 0 ≢ 37 =
    λ k low is. first.before k (omega arith) low (eq-eqb _ _ is) in
    plain_take bytes (place - 1) (omega (arith, first.high)) (λ k low. none k (omega (arith, low)))
    (λ some. rw (drop-cons bytes (place - 1) 0 (omega (arith, first.high))) (none (place - 1) (omega (arith, some))))

-- the loop goes on after a line, and after the plain bytes that follow it
pub section_skip : (all bytes row rest : List ℕ) (at more : ℕ) → bytes ≡ drop at all → bytes ≡ row ++ rest
    → sections_of all ≡ sections_after (take (at + length row) all) (sections_of (drop (at + length row) all))
    → sections_of rest ≡ sections_after (take more rest) (sections_of (drop more rest))
    → sections_of all
    ≡ sections_after (take (at + (length row + more)) all) (sections_of (drop (at + (length row + more)) all))
section_skip all bytes row rest at more from whole before skipped =
    let next = at + length row in
    let here : drop next all ≡ rest =
    sym (drop-drop (length row) at all) ∙ ap (drop (length row)) (sym from ∙ whole)
    ∙ drop_at row rest (length row) refl in
    let front : take next all ++ take more rest ≡ take (next + more) all =
    ap (λ r. take next all ++ take more r) (sym here) ∙ sym (take-add next more all) in
    let back : drop more rest ≡ drop (next + more) all =
    ap (drop more) (sym here) ∙ drop-drop more next all in
    let far : next + more ≡ at + (length row + more) = omega arith in
    before ∙ ap (λ r. sections_after (take next all) (sections_of r)) here
    ∙ ap (sections_after (take next all)) skipped
    ∙ behind-behind (take next all) (take more rest) (sections_of (drop more rest))
    ∙ ap (λ f. sections_after f (sections_of (drop more rest))) front
    ∙ ap (λ b. sections_after (take (next + more) all) (sections_of b)) back
    ∙ ap (λ n. sections_after (take n all) (sections_of (drop n all))) far
