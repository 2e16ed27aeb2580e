-- The sizes that have been read so far, line by line.
use Rattle.std.proofs.Common.{◌≡◌, Result, Ok, Err, IfErr, ℕ, ◌+◌, true, false, List, [], ◌∷◌, ◌++◌, length, refl, sym, ap, ◌∙◌, subst, append_assoc, arith}
use Rattle.std.proofs.lemmas.List.{append-nil}
use Rattle.tab_words.specs.Lines.{lines_of}
use Rattle.tab_words.specs.Words.{words_of}
use Rattle.script_doc.specs.Statements.{Statement, is_skipped, statements_from, statements_of}
use Rattle.script_doc.proofs.StatementLemmas.{statements_from-nil, statements_from-kept, statements_from-skipped}
use Rattle.sizes_doc.specs.SizeLines.{AreSizes, IsFirstBadSize, IsSizeLine}
use Rattle.sizes_doc.specs.Sizes.{HasBadPart, HasSizeParts, InPart, IsBadPart, IsSize, SizeParts}
use Rattle.sizes_doc.specs.declared.fault.Part.{Part}
use Rattle.sizes_doc.specs.declared.fault.SizesFault.TheVariants.{BadSize}
use Rattle.sizes_doc.specs.declared.size.Size.{Size}

-- a bad part of the words' parts is one of the words
pub part_told : (words : List (List ℕ)) (parts : SizeParts) (r : Result Size Part) → HasSizeParts words parts
    → IfErr r (IsBadPart parts) → IfErr r (HasBadPart words)
part_told words parts (Ok size) is bad = tt
part_told words parts (Err part) is bad = InPart parts part is bad

-- the lines before these are so many, and their statements are these sizes
pub record AreRead (bytes : List ℕ) (number : ℕ) (sizes : List Size) (lines : List (List ℕ)) : Type 0 where
  pub front : List Statement
  pub whole : statements_of bytes ≡ front ++ statements_from (number + 1) lines
  pub are : AreSizes front sizes
  pub count : number + length lines ≡ length (lines_of bytes)

-- before the first line
pub none_read : (bytes : List ℕ) (number : ℕ) (sizes : List Size) (lines : List (List ℕ)) → number ≡ 0
    → sizes ≡ [] → lines ≡ lines_of bytes → AreRead bytes number sizes lines
none_read bytes number sizes lines zero no_sizes are =
    rw (zero, no_sizes, are) (record { front = []; whole = refl; are = tt; count = omega arith })

-- after a line that says nothing
pub skipped_read : (bytes : List ℕ) (number : ℕ) (sizes : List Size) (line : List ℕ) (lines : List (List ℕ))
    → AreRead bytes number sizes (line ∷ lines) → is_skipped line ≡ true
    → AreRead bytes (number + 1) sizes lines
skipped_read bytes number sizes line lines read skipped = record {
  front = read.front;
  whole = read.whole ∙ ap (λ statements. read.front ++ statements) (statements_from-skipped (number + 1) line lines skipped);
  are = read.are;
  count = omega (arith, read.count);
}

-- one more statement that is a size, after the others
each_more : (statements : List Statement) (sizes : List Size) (statement : Statement) (size : Size)
    → AreSizes statements sizes → IsSizeLine statement size
    → AreSizes (statements ++ statement ∷ []) (sizes ++ size ∷ [])
each_more [] [] statement size are is = (is, tt)
each_more (first ∷ statements) (start ∷ sizes) statement size are is =
    (are.0, each_more statements sizes statement size are.1 is)
each_more [] (start ∷ sizes) statement size are is = absurd are
each_more (first ∷ statements) [] statement size are is = absurd are

-- after a line that is a size
pub more_read : (bytes : List ℕ) (number : ℕ) (sizes : List Size) (line : List ℕ) (lines : List (List ℕ))
    (size : Size) → AreRead bytes number sizes (line ∷ lines) → is_skipped line ≡ false
    → size.line ≡ number + 1 → IsSize (words_of line) size
    → AreRead bytes (number + 1) (sizes ++ size ∷ []) lines
more_read bytes number sizes line lines size read kept placed is =
    let statement : Statement = record { number = number + 1; words = words_of line } in
    record {
      front = read.front ++ statement ∷ [];
      whole =
          read.whole
          ∙ (ap (λ statements. read.front ++ statements) (statements_from-kept (number + 1) line lines kept)
          ∙ sym (append_assoc read.front (statement ∷ []) (statements_from (number + 1 + 1) lines)));
      are = each_more read.front sizes statement size read.are (record { placed = placed; written = is });
      count = omega (arith, read.count);
    }

-- a line that is no size is the first such
pub bad_line : (bytes : List ℕ) (number : ℕ) (sizes : List Size) (line : List ℕ) (lines : List (List ℕ))
    (part : Part) → AreRead bytes number sizes (line ∷ lines) → is_skipped line ≡ false
    → HasBadPart (words_of line) part → IsFirstBadSize (statements_of bytes) (BadSize (number + 1) part)
bad_line bytes number sizes line lines part read kept bad = record {
  front = read.front;
  statement = record { number = number + 1; words = words_of line };
  back = statements_from (number + 1 + 1) lines;
  sizes = sizes;
  part = part;
  whole = read.whole ∙ ap (λ statements. read.front ++ statements) (statements_from-kept (number + 1) line lines kept);
  before = read.are;
  bad = bad;
  told = refl;
}

-- after the last line
pub all_read : (bytes : List ℕ) (number : ℕ) (sizes : List Size) → AreRead bytes number sizes []
    → AreSizes (statements_of bytes) sizes
all_read bytes number sizes read =
    let whole : statements_of bytes ≡ read.front =
    read.whole ∙ (ap (λ statements. read.front ++ statements) (statements_from-nil (number + 1)) ∙ append-nil read.front) in
    subst (λ statements. AreSizes statements sizes) (sym whole) read.are
