-- No section is longer than the text.
use Rattle.std.proofs.Common.{arith, ◌+◌, ◌≡◌, ℕ, ◌≤◌, List, [], ◌∷◌, length, length-append, map, get_or, zero, suc, refl, Bool, true, false}
use Rattle.std.specs.Bool.{◌==◌}
use Rattle.std.specs.List.{concat, onto_first, slice_split}
use Rattle.std.specs.Prelude.{slice_index_or}
use Rattle.tab_words.specs.Lines.{raw_lines_of}
use Rattle.tab_words.specs.Sections.{is_separator, sections_of}
use Rattle.tab_words.specs.Inside.Fronts.{sections_after}
use Rattle.tab_words.proofs.SectionLemmas.{map_concat-onto_first}

-- a byte that joins a line makes it longer by one
onto_first_size : (byte : ℕ) (rows : List (List ℕ))
    → length (concat (onto_first byte rows)) ≡ 1 + length (concat rows)
onto_first_size byte [] = refl
onto_first_size byte (row ∷ rows) =
    omega (arith, length-append row (concat rows), length-append (byte ∷ row) (concat rows))

-- the step of the lemma below
rows_more : (byte : ℕ) (bytes : List ℕ) (feed : Bool) → (byte == 10) ≡ feed
    → length (concat (raw_lines_of bytes)) ≡ length bytes
    → length (concat (raw_lines_of (byte ∷ bytes))) ≡ length (byte ∷ bytes)
unfolding raw_lines_of
rows_more byte bytes true is rest =
    rw is (omega (arith, rest, length-append (byte ∷ []) (concat (raw_lines_of bytes))))
rows_more byte bytes false is rest = rw is (omega (arith, rest, onto_first_size byte (raw_lines_of bytes)))

-- cutting into lines loses no byte
rows_size : (bytes : List ℕ) → length (concat (raw_lines_of bytes)) ≡ length bytes
unfolding raw_lines_of
rows_size [] = refl
rows_size (byte ∷ bytes) = rows_more byte bytes (byte == 10) refl (rows_size bytes)

-- the sections that begin with this row, of which none was longer than n
extended : (row : List ℕ) (parts : List (List ℕ)) (n k : ℕ) → ((j : ℕ) → length (get_or parts j []) ≤ n)
    → length (get_or (sections_after row parts) k []) ≤ length row + n
extended row [] n zero short = omega arith
extended row [] n (suc k) short = omega arith
extended row (part ∷ parts) n zero short = omega (arith, length-append row part, short 0)
extended row (part ∷ parts) n (suc k) short = omega (arith, short (suc k))

-- the step of the lemma below, at one line
pieces_more : (row : List ℕ) (rows : List (List ℕ)) (ends : Bool) → is_separator row ≡ ends
    → ((j : ℕ) → length (get_or (map concat (slice_split is_separator rows)) j [])
    ≤ length (concat rows)) → (k : ℕ)
    → length (get_or (map concat (slice_split is_separator (row ∷ rows))) k []) ≤ length (concat (row ∷ rows))
pieces_more row rows true is short zero = rw is (omega arith)
pieces_more row rows true is short (suc k) = rw is (omega (arith, short k, length-append row (concat rows)))
pieces_more row rows false is short k =
    rw (is, map_concat-onto_first row (slice_split is_separator rows))
    (omega (
      arith,
      length-append row (concat rows),
      extended row (map concat (slice_split is_separator rows)) (length (concat rows)) k short,
    ))

-- each section of rows is at most as long as they are
piece_size : (rows : List (List ℕ)) (i : ℕ)
    → length (get_or (map concat (slice_split is_separator rows)) i []) ≤ length (concat rows)
piece_size [] zero = omega arith
piece_size [] (suc i) = omega arith
piece_size (row ∷ rows) i = pieces_more row rows (is_separator row) refl (piece_size rows) i

-- a reader of a section of a short text has a short text
pub section_size : (bytes : List ℕ) (i : ℕ) → length (slice_index_or (sections_of bytes) i []) ≤ length bytes
unfolding sections_of
section_size bytes i = omega (arith, piece_size (raw_lines_of bytes) i, rows_size bytes)
