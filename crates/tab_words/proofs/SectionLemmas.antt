-- The first section of a text, and what follows it.
use Rattle.std.proofs.Common.{arith, ◌+◌, ◌≡◌, ℕ, ◌≤◌, List, [], ◌∷◌, ◌++◌, length, length-append, map, take, take_all, drop, ap, sym, ◌∙◌, refl, Bool, cond, true, false, append_assoc}
use Rattle.std.proofs.lemmas.Bool.Decides.{nat_tests}
use Rattle.std.proofs.lemmas.List.{append-nil, drop-drop, drop_all, drop_at, length-drop, length-take-le, take-append-drop, take_at}
use Rattle.std.specs.List.{concat, onto_first, slice_split}
use Rattle.tab_words.specs.Lines.{raw_lines_of}
use Rattle.tab_words.specs.Sections.{is_separator, sections_of}
use Rattle.tab_words.specs.Inside.Fronts.{sections_after}

-- two lines in a row go into the section together: the loop adds them one by one
pub behind-behind : (a b : List ℕ) (sections : List (List ℕ))
    → sections_after a (sections_after b sections) ≡ sections_after (a ++ b) sections
behind-behind a b [] = refl
behind-behind a b (section ∷ sections) = ap (λ first. first ∷ sections) (sym (append_assoc a b section))

-- the definition puts a line into the first part; this says so of the sections
pub map_concat-onto_first : (row : List ℕ) (parts : List (List (List ℕ)))
    → map concat (onto_first row parts) ≡ sections_after row (map concat parts)
map_concat-onto_first row [] = ap (λ first. first ∷ []) (append-nil row)
map_concat-onto_first row (part ∷ parts) = refl

-- a text of no bytes is one section
pub sections_of-nil : sections_of [] ≡ [] ∷ []
unfolding raw_lines_of sections_of
sections_of-nil = refl

-- a separator ends the first section, and another line belongs to it
pub sections_of-separator : (bytes row rest : List ℕ) → raw_lines_of bytes ≡ row ∷ raw_lines_of rest
    → is_separator row ≡ true → sections_of bytes ≡ [] ∷ sections_of rest
unfolding sections_of
sections_of-separator bytes row rest rows is =
    ap (λ rs. map concat (slice_split is_separator rs)) rows ∙ rw is refl

-- another line belongs to the section after it
pub sections_of-row : (bytes row rest : List ℕ) → raw_lines_of bytes ≡ row ∷ raw_lines_of rest
    → is_separator row ≡ false → sections_of bytes ≡ sections_after row (sections_of rest)
unfolding sections_of
sections_of-row bytes row rest rows is =
    ap (λ rs. map concat (slice_split is_separator rs)) rows
    ∙ rw is (map_concat-onto_first row (slice_split is_separator (raw_lines_of rest)))

-- there is always a first section
behind-nil : (rows : List (List ℕ))
    → sections_after [] (map concat (slice_split is_separator rows)) ≡ map concat (slice_split is_separator rows)
behind-nil [] = refl
behind-nil (row ∷ rows) =
    let parts = slice_split is_separator rows in
    let sections = λ (b : Bool). map concat (cond b ([] ∷ parts) (onto_first row parts)) in
    elim (is_separator row) as (λ b. sections_after [] (sections b) ≡ sections b) [
      | true ↦ refl
      | false ↦ rw (map_concat-onto_first row parts) (behind-behind [] row (map concat parts))
    ]

-- the loop begins with no byte in the section
pub sections_of-behind : (bytes : List ℕ) → sections_of bytes ≡ sections_after [] (sections_of bytes)
unfolding sections_of
sections_of-behind bytes = sym (behind-nil (raw_lines_of bytes))

-- a separator has two bytes, so each section leaves less of the text
pub separator_long : (row : List ℕ) → is_separator row ≡ true → 2 ≤ length row
separator_long [] is = absurd cc
separator_long (a ∷ []) is = absurd (grind (arith, nat_tests))
separator_long (a ∷ b ∷ row) is = omega arith

-- a separator ends the first section before it
pub section_before : (front bytes row rest : List ℕ) (sections : List (List ℕ))
    → sections ≡ sections_after front (sections_of bytes)
    → raw_lines_of bytes ≡ row ∷ raw_lines_of rest → is_separator row ≡ true
    → sections ≡ front ∷ sections_of rest
section_before front bytes row rest sections before rows is =
    before ∙ ap (sections_after front) (sections_of-separator bytes row rest rows is)
    ∙ ap (λ first. first ∷ sections_of rest) (append-nil front)

-- another line belongs to the first section
pub section_more : (all bytes row rest : List ℕ) (at : ℕ)
    → sections_of all ≡ sections_after (take at all) (sections_of (drop at all)) → bytes ≡ drop at all
    → bytes ≡ row ++ rest
    → raw_lines_of bytes ≡ row ∷ raw_lines_of rest → is_separator row ≡ false → at ≤ length all
    → sections_of all ≡ sections_after (take (at + length row) all) (sections_of (drop (at + length row) all))
section_more all bytes row rest at before from whole rows is within =
    let so_far = take at all ++ row in
    let joined : all ≡ so_far ++ rest =
    sym (take-append-drop at all) ∙ ap (λ b. take at all ++ b) (sym from ∙ whole)
    ∙ sym (append_assoc (take at all) row rest) in
    let size : length so_far ≡ at + length row =
    omega (arith, length-append (take at all) row, length-take-le at all within) in
    let front : take (at + length row) all ≡ so_far =
    ap (take (at + length row)) joined ∙ take_at so_far rest (at + length row) size in
    let back : drop (at + length row) all ≡ rest =
    ap (drop (at + length row)) joined ∙ drop_at so_far rest (at + length row) size in
    before ∙ ap (λ b. sections_after (take at all) (sections_of b)) (sym from)
    ∙ ap (sections_after (take at all)) (sections_of-row bytes row rest rows is)
    ∙ behind-behind (take at all) row (sections_of rest)
    ∙ ap (λ f. sections_after f (sections_of rest)) (sym front)
    ∙ ap (λ r. sections_after (take (at + length row) all) (sections_of r)) (sym back)

-- past all lines the bytes before are the last section
pub section_last : (all : List ℕ) (at : ℕ)
    → sections_of all ≡ sections_after (take at all) (sections_of (drop at all)) → length all ≤ at
    → sections_of all ≡ all ∷ []
section_last all at before past =
    before ∙ ap (λ b. sections_after (take at all) (sections_of b)) (drop_all at all past)
    ∙ ap (sections_after (take at all)) sections_of-nil
    ∙ ap (λ b. b ∷ []) (append-nil (take at all) ∙ take_all at all past)

-- what follows the item at a place, and where none does
pub rest_more : {X : Type 0} (all : List X) (k : ℕ) (x : X) (xs : List X) → drop k all ≡ x ∷ xs
    → xs ≡ drop (k + 1) all
rest_more all k x xs is = sym (ap (drop 1) is) ∙ drop-drop 1 k all

-- the last section has no next one
pub none_after : {X : Type 0} (all : List X) (k : ℕ) (x : X) → drop k all ≡ x ∷ [] → length all ≤ k + 1
none_after all k x is = omega (arith, ap length is, length-drop k all)
