-- The lines of a text that have been read, and those that are left.
use Rattle.std.proofs.Common.{◌≡◌, ℕ, ◌+◌, true, false, List, [], ◌∷◌, ◌++◌, length, length-append, ap, refl, sym, ◌∙◌, append_assoc, arith}
use Rattle.std.proofs.lemmas.List.{append-nil}
use Rattle.tab_words.specs.Lines.{lines_of}
use Rattle.host_trace.specs.TraceLines.{TraceRow, is_passed_over, rows_from, trace_rows}
use Rattle.host_trace.proofs.RowLemmas.{rows_from-append, rows_from-kept, rows_from-nil, rows_from-passed}
use Rattle.view_trace.specs.Drawable.{drawable_row}
use Rattle.view_trace.specs.Inside.Readings.{HasReadRows, IsReadingFault, IsRowFault}
use Rattle.view_trace.specs.declared.fault.TraceFault.{TraceFault}
use Rattle.view_trace.specs.declared.fault.TraceFault.TheVariants.{BadLine, Shared, TooLong, Short, NoMemory}
use Rattle.view_trace.specs.declared.reading.Reading.{Reading}

-- so many lines of a text were read, and these are left
pub record AreRead (bytes : List ℕ) (number : ℕ) (reading : Reading) (left : List (List ℕ)) : Type 0 where
  pub front : List (List ℕ)
  pub whole : lines_of bytes ≡ front ++ left
  pub count : number ≡ length front
  pub many : number + length left ≡ length (lines_of bytes)
  pub read : HasReadRows (rows_from 1 front) reading

-- before the first
pub none_read : (bytes : List ℕ) (reading : Reading) → HasReadRows [] reading
    → AreRead bytes 0 reading (lines_of bytes)
none_read bytes reading read = record {
  front = [];
  whole = refl;
  count = refl;
  many = omega arith;
  read = rw (rows_from-nil 1) read;
}

-- the rows of lines and one more, which is passed over or not
rows_passed : (lines : List (List ℕ)) (line : List ℕ) → is_passed_over line ≡ true
    → rows_from 1 (lines ++ line ∷ []) ≡ rows_from 1 lines
rows_passed lines line passed =
    rows_from-append 1 lines (line ∷ [])
    ∙ ap (λ rows. rows_from 1 lines ++ rows)
    (rows_from-passed (1 + length lines) line [] passed ∙ rows_from-nil (1 + length lines + 1))
    ∙ append-nil (rows_from 1 lines)

rows_kept : (lines : List (List ℕ)) (line : List ℕ) (number : ℕ) → is_passed_over line ≡ false
    → number ≡ length lines + 1 → rows_from 1 (lines ++ line ∷ []) ≡ rows_from 1 lines ++ drawable_row number line ∷ []
rows_kept lines line number kept is =
    let count : 1 + length lines ≡ number = omega (arith, is) in
    rows_from-append 1 lines (line ∷ [])
    ∙ ap (λ rows. rows_from 1 lines ++ rows)
    (rows_from-kept (1 + length lines) line [] kept
    ∙ ap (λ rows. drawable_row (1 + length lines) line ∷ rows) (rows_from-nil (1 + length lines + 1)))
    ∙ ap (λ n. rows_from 1 lines ++ drawable_row n line ∷ []) count

-- one line more, after which this was read
line_more : (bytes : List ℕ) (number next : ℕ) (old new : Reading) (line : List ℕ) (left : List (List ℕ))
    (are : AreRead bytes number old (line ∷ left)) → next ≡ number + 1
    → HasReadRows (rows_from 1 (are.front ++ line ∷ [])) new → AreRead bytes next new left
line_more bytes number next old new line left are is read = record {
  front = are.front ++ line ∷ [];
  whole = are.whole ∙ sym (append_assoc are.front (line ∷ []) left);
  count = omega (arith, is, are.count, length-append are.front (line ∷ []));
  many = omega (arith, is, are.many);
  read = read;
}

-- a line that is passed over
pub passed_read : (bytes : List ℕ) (number next : ℕ) (reading : Reading) (line : List ℕ) (left : List (List ℕ))
    → AreRead bytes number reading (line ∷ left) → next ≡ number + 1 → is_passed_over line ≡ true
    → AreRead bytes next reading left
passed_read bytes number next reading line left are is passed =
    line_more bytes number next reading reading line left are is
    (rw (rows_passed are.front line passed) are.read)

-- another
pub kept_read : (bytes : List ℕ) (number next : ℕ) (old new : Reading) (line : List ℕ) (left : List (List ℕ))
    → AreRead bytes number old (line ∷ left) → next ≡ number + 1 → is_passed_over line ≡ false
    → ((rows : List TraceRow) → HasReadRows rows old → HasReadRows (rows ++ drawable_row next line ∷ []) new)
    → AreRead bytes next new left
kept_read bytes number next old new line left are is kept more =
    let at : next ≡ length are.front + 1 = omega (arith, is, are.count) in
    line_more bytes number next old new line left are is
    (rw (rows_kept are.front line next kept at) (more (rows_from 1 are.front) are.read))

-- the rows of a text at one of its lines
rows_at : (bytes : List ℕ) (front left : List (List ℕ)) (line : List ℕ) (number : ℕ)
    → lines_of bytes ≡ front ++ line ∷ left → is_passed_over line ≡ false → number ≡ length front + 1
    → trace_rows bytes ≡ rows_from 1 front ++ drawable_row number line ∷ rows_from (number + 1) left
rows_at bytes front left line number whole kept is =
    let count : 1 + length front ≡ number = omega (arith, is) in
    ap (rows_from 1) whole
    ∙ rows_from-append 1 front (line ∷ left)
    ∙ ap (λ n. rows_from 1 front ++ rows_from n (line ∷ left)) count
    ∙ ap (λ rows. rows_from 1 front ++ rows) (rows_from-kept number line left kept)

fault_at : (bytes : List ℕ) (front left : List (List ℕ)) (line : List ℕ) (number : ℕ) (fault : TraceFault)
    → trace_rows bytes ≡ rows_from 1 front ++ drawable_row number line ∷ rows_from (number + 1) left
    → IsRowFault (rows_from 1 front) number line fault → IsReadingFault bytes fault
fault_at bytes front left line number (BadLine at cause) whole fault =
    rw fault.0
    (record {
      front = rows_from 1 front;
      text = line;
      back = rows_from (number + 1) left;
      whole = whole;
      wrong = fault.1;
    })
fault_at bytes front left line number NoMemory whole fault = tt
fault_at bytes front left line number (Shared at) whole fault = absurd fault
fault_at bytes front left line number TooLong whole fault = absurd fault
fault_at bytes front left line number (Short at tick) whole fault = absurd fault

-- the fault of a line is the text's
pub breaks : (bytes : List ℕ) (number next : ℕ) (old : Reading) (line : List ℕ) (left : List (List ℕ))
    (fault : TraceFault) → AreRead bytes number old (line ∷ left) → next ≡ number + 1
    → is_passed_over line ≡ false
    → ((rows : List TraceRow) → HasReadRows rows old → IsRowFault rows next line fault) → IsReadingFault bytes fault
breaks bytes number next old line left fault are is kept wrong =
    let at : next ≡ length are.front + 1 = omega (arith, is, are.count) in
    fault_at bytes are.front left line next fault (rows_at bytes are.front left line next are.whole kept at)
    (wrong (rows_from 1 are.front) are.read)
