-- Rows line by line, and the marks of rows that follow one another.
use Rattle.std.proofs.Common.{◌≡◌, ℕ, ◌+◌, Bool, true, false, List, [], ◌∷◌, ◌++◌, length, refl, ap, ◌∙◌, arith}
use Rattle.host_trace.specs.TraceLines.{AreMarksOf, IsMarkOf, TraceRow, is_passed_over, rows_from}
use Rattle.host_trace.specs.declared.mark.Mark.{Mark}

-- after the last line there are no rows
pub rows_from-nil : (number : ℕ) → rows_from number [] ≡ []
unfolding rows_from
rows_from-nil number = refl

-- a line that is passed over leaves the rows of the lines after it
pub rows_from-passed : (number : ℕ) (line : List ℕ) (lines : List (List ℕ)) → is_passed_over line ≡ true
    → rows_from number (line ∷ lines) ≡ rows_from (number + 1) lines
unfolding rows_from
rows_from-passed number line lines passed = rw passed refl

-- another line is the first row
pub rows_from-kept : (number : ℕ) (line : List ℕ) (lines : List (List ℕ)) → is_passed_over line ≡ false
    → rows_from number (line ∷ lines) ≡ (record { number = number; text = line }) ∷ rows_from (number + 1) lines
unfolding rows_from
rows_from-kept number line lines kept = rw kept refl

-- the rows of lines and of more after them: the step at a line
rows_behind : (number : ℕ) (line : List ℕ) (lines more : List (List ℕ)) (passed : Bool)
    → is_passed_over line ≡ passed
    → rows_from (number + 1) (lines ++ more)
    ≡ rows_from (number + 1) lines ++ rows_from (number + 1 + length lines) more
    → rows_from number (line ∷ (lines ++ more))
    ≡ rows_from number (line ∷ lines) ++ rows_from (number + length (line ∷ lines)) more
rows_behind number line lines more true is rest =
    let count : number + 1 + length lines ≡ number + length (line ∷ lines) = omega arith in
    rw (rows_from-passed number line (lines ++ more) is, rows_from-passed number line lines is)
    (rest ∙ ap (λ n. rows_from (number + 1) lines ++ rows_from n more) count)
rows_behind number line lines more false is rest =
    let count : number + 1 + length lines ≡ number + length (line ∷ lines) = omega arith in
    let row : TraceRow = record { number = number; text = line } in
    rw (rows_from-kept number line (lines ++ more) is, rows_from-kept number line lines is)
    (ap (λ rows. row ∷ rows) (rest ∙ ap (λ n. rows_from (number + 1) lines ++ rows_from n more) count))

-- the rows of lines and of more after them
pub rows_from-append : (number : ℕ) (lines more : List (List ℕ))
    → rows_from number (lines ++ more) ≡ rows_from number lines ++ rows_from (number + length lines) more
rows_from-append number [] more =
    let count : number ≡ number + length {A = List ℕ} [] = omega arith in
    rw (rows_from-nil number) (ap (λ n. rows_from n more) count)
rows_from-append number (line ∷ lines) more =
    rows_behind number line lines more (is_passed_over line) refl (rows_from-append (number + 1) lines more)

-- one more row that says something, after the others
pub marks_more : (names : List (List ℕ)) (rows : List TraceRow) (marks : List Mark) (row : TraceRow) (mark : Mark)
    → AreMarksOf names rows marks → IsMarkOf names row mark
    → AreMarksOf names (rows ++ row ∷ []) (marks ++ mark ∷ [])
marks_more names [] [] row mark are is = (is, tt)
marks_more names (first ∷ rows) (start ∷ marks) row mark are is =
    (are.0, marks_more names rows marks row mark are.1 is)
marks_more names [] (start ∷ marks) row mark are is = absurd are
marks_more names (first ∷ rows) [] row mark are is = absurd are
