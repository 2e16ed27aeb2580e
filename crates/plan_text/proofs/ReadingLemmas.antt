-- What may follow in a plan text, line by line.
use Rattle.std.proofs.Common.{◌≡◌, ◌≢◌, ℕ, zero, suc, ◌+◌, ◌-◌, ◌^◌, ◌<◌, ◌≤◌, List, [], ◌∷◌, ◌++◌, length, map, replicate, codes, decimal, Option, refl, sym, ap, ◌∙◌, subst, append_assoc, append-nil, arith}
use Rattle.std.proofs.lemmas.List.Elements.{All-append, All-cons, All-nil, All-tail}
use Rattle.std.specs.List.{All}
use Rattle.std.specs.Str.Parse.{AllDigits}
use Rattle.std.proofs.lemmas.Fmt.{decimal_is_IsNumeral}
use Rattle.tab_core.specs.declared.periodic.Periodic.{Periodic}
use Rattle.tab_words.specs.Texts.{Line}
use Rattle.table_form.specs.declared.segment.Segment.{Segment}
use Rattle.plan_text.specs.FirstBad.{BeginsText, IsFirstBadFor}
use Rattle.plan_text.specs.Meaning.{AreFineRows, IsFineSegment, segment_words}
use Rattle.plan_text.specs.PlanLines.{core_lines, core_words, end_words}
use Rattle.plan_text.specs.Inside.Reading.{AreFromCore, AreFromSegment, IsNoSegment, IsOtherLine}
use Rattle.plan_text.proofs.FirstBadLemmas.{bad_behind, bad_of_both, first_is_bad}

-- ---- lines that differ

-- the word `core` spells no number
core_is_no_number : (n : ℕ) → n < 2 ^ 64 → codes "core" ≡ decimal n → ⊥
core_is_no_number n low is =
    let digits : AllDigits 10 (codes "core") =
    subst (AllDigits 10) (sym is) (decimal_is_IsNumeral n low).0.1 in
    absurd (omega (arith, digits.0))

-- a reader of segments stops at the next core
pub core_is_no_segment : (names : List (List ℕ)) (tasks : List (Option Periodic)) (core : ℕ) (s : Segment)
    → IsFineSegment tasks s
    → core_words core ≡ segment_words names s → ⊥
core_is_no_segment names tasks core s fine is =
    core_is_no_number s.end (let small = fine.small in omega arith) cc

-- a reader of segments stops at the end
pub end_is_no_segment : (names : List (List ℕ)) (s : Segment) → end_words ≡ segment_words names s → ⊥
end_is_no_segment names s is = absurd (cc)

-- a core is due or the end is, never both
pub core_is_no_end : (core : ℕ) → core_words core ≡ end_words → ⊥
core_is_no_end core is = absurd (cc)

-- ---- the cores and the end

-- rows without segments are fine: a text that goes on so always exists
empty_rows : (tasks : List (Option Periodic)) (count : ℕ) → AreFineRows tasks (replicate count [])
empty_rows tasks zero = All-nil (λ row. All (IsFineSegment tasks) row)
empty_rows tasks (suc count) =
    All-cons (λ row. All (IsFineSegment tasks) row) [] (replicate count []) (All-nil (IsFineSegment tasks))
    (empty_rows tasks count)

-- rows without segments are as many as are due
many_empty : (count : ℕ) → length (replicate {A = List Segment} count []) ≡ count
many_empty zero = refl
many_empty (suc count) = ap suc (many_empty count)

-- with no line read some text is still possible
pub rows_begun : (names : List (List ℕ)) (tasks : List (Option Periodic)) (core count : ℕ)
    → BeginsText (AreFromCore names tasks core count) []
rows_begun names tasks core count = record {
  rest = core_lines (segment_words names) core (replicate count []) ++ end_words ∷ [];
  text = record {
    rows = replicate count [];
    many = many_empty count;
    fine = empty_rows tasks count;
    written = refl;
  };
}

-- a core's line before its segments and of the cores after it
pub rows_back : (names : List (List ℕ)) (tasks : List (Option Periodic)) (core count : ℕ) (lines : List Line)
    → AreFromSegment names tasks (core + 1) count lines
    → AreFromCore names tasks core (count + 1) (core_words core ∷ lines)
rows_back names tasks core count lines are = record {
  rows = are.row ∷ are.rows.rows;
  many = let many = are.rows.many in omega arith;
  fine = All-cons (λ row. All (IsFineSegment tasks) row) are.row are.rows.rows are.fine are.rows.fine;
  written =
      ap (λ ls. core_words core ∷ ls)
      (are.written ∙ (ap (λ ls. map (segment_words names) are.row ++ ls) are.rows.written
      ∙ sym (append_assoc (map (segment_words names) are.row)
      (core_lines (segment_words names) (core + 1) are.rows.rows)
      (end_words ∷ []))));
}

-- a line that rows begin with
pub record RowsGo (names : List (List ℕ)) (tasks : List (Option Periodic)) (core count : ℕ) (line : Line)
    (lines : List Line) : Type 0 where
  pub is_core : line ≡ core_words core
  pub more : AreFromSegment names tasks (core + 1) count lines

-- the lemma below, by the rows of the text
rows_go_parts : (names : List (List ℕ)) (tasks : List (Option Periodic)) (core count : ℕ) (line : Line)
    (lines : List Line) (rows : List (List Segment))
    → length rows ≡ count + 1 → AreFineRows tasks rows
    → line ∷ lines ≡ core_lines (segment_words names) core rows ++ end_words ∷ []
    → RowsGo names tasks core count line lines
rows_go_parts names tasks core count line lines [] many fine written = absurd (omega arith)
rows_go_parts names tasks core count line lines (row ∷ rows) many fine written =
    let rest : lines ≡ (map (segment_words names) row ++ core_lines (segment_words names) (core + 1) rows)
    ++ end_words ∷ [] = cc in
    record {
      is_core = cc;
      more = record {
        row = row;
        fine = fine 0 row (omega arith);
        rest = core_lines (segment_words names) (core + 1) rows ++ end_words ∷ [];
        rows = record {
          rows = rows;
          many = omega arith;
          fine =
              All-tail (λ row. All (IsFineSegment tasks) row) row rows fine;
          written = refl;
        };
        written = rest ∙ append_assoc (map (segment_words names) row)
            (core_lines (segment_words names) (core + 1) rows)
            (end_words ∷ []);
      };
    }

-- where a core is due, the text begins with its line
pub rows_go : (names : List (List ℕ)) (tasks : List (Option Periodic)) (core count : ℕ) (line : Line)
    (lines : List Line)
    → AreFromCore names tasks core (count + 1) (line ∷ lines) → RowsGo names tasks core count line lines
rows_go names tasks core count line lines are =
    rows_go_parts names tasks core count line lines are.rows are.many are.fine are.written

-- the lemma below, by the rows of the text
end_goes_parts : (names : List (List ℕ)) (core : ℕ) (lines : List Line) (rows : List (List Segment))
    → length rows ≡ 0
    → lines ≡ core_lines (segment_words names) core rows ++ end_words ∷ [] → lines ≡ end_words ∷ []
end_goes_parts names core lines [] many written = written
end_goes_parts names core lines (row ∷ rows) many written = absurd (omega arith)

-- after the last core there is the end alone
pub end_goes : (names : List (List ℕ)) (tasks : List (Option Periodic)) (core : ℕ) (lines : List Line)
    → AreFromCore names tasks core 0 lines → lines ≡ end_words ∷ []
end_goes names tasks core lines are = end_goes_parts names core lines are.rows are.many are.written

-- a text never stops before its end
rows_some : (names : List (List ℕ)) (core : ℕ) (rows : List (List Segment))
    → core_lines (segment_words names) core rows ++ end_words ∷ [] ≡ [] → ⊥
rows_some names core [] is = absurd (cc)
rows_some names core (row ∷ rows) is = absurd (cc)

-- no line at all is no text
pub no_lines_no_rows : (names : List (List ℕ)) (tasks : List (Option Periodic)) (core count : ℕ)
    → AreFromCore names tasks core count [] → ⊥
no_lines_no_rows names tasks core count are = rows_some names core are.rows (sym are.written)

-- no rows begin with a segment
rows_lack : (names : List (List ℕ)) (tasks : List (Option Periodic)) (core : ℕ) (rows : List (List Segment))
    (s : Segment) (lines : List Line)
    → IsFineSegment tasks s
    → segment_words names s ∷ lines ≡ core_lines (segment_words names) core rows ++ end_words ∷ [] → ⊥
rows_lack names tasks core [] s lines fine is = end_is_no_segment names s cc
rows_lack names tasks core (row ∷ rows) s lines fine is = core_is_no_segment names tasks core s fine cc

-- ---- segments

-- after a core's line some text is still possible
pub segments_begun : (names : List (List ℕ)) (tasks : List (Option Periodic)) (core count : ℕ)
    → BeginsText (AreFromSegment names tasks core count) []
segments_begun names tasks core count =
    let begun = rows_begun names tasks core count in
    record {
      rest = begun.rest;
      text =
          record {
            row = [];
            fine = All-nil (IsFineSegment tasks);
            rest = begun.rest;
            rows = begun.text;
            written =
                refl;
          };
    }

-- a segment's line before further ones
pub segment_back : (names : List (List ℕ)) (tasks : List (Option Periodic)) (core count : ℕ) (s : Segment)
    (lines : List Line) → IsFineSegment tasks s
    → AreFromSegment names tasks core count lines
    → AreFromSegment names tasks core count (segment_words names s ∷ lines)
segment_back names tasks core count s lines fine are = record {
  row = s ∷ are.row;
  fine = All-cons (IsFineSegment tasks) s are.row fine are.fine;
  rest = are.rest;
  rows = are.rows;
  written = ap (λ ls. segment_words names s ∷ ls) are.written;
}

-- the lemma below, by the row of the text
segment_goes_parts : (names : List (List ℕ)) (tasks : List (Option Periodic)) (core count : ℕ) (s : Segment)
    (lines : List Line) (row : List Segment) (rest : List Line)
    → IsFineSegment tasks s → All (IsFineSegment tasks) row → AreFromCore names tasks core count rest
    → segment_words names s ∷ lines ≡ map (segment_words names) row ++ rest
    → AreFromSegment names tasks core count lines
segment_goes_parts names tasks core count s lines [] rest fine all rows written =
    absurd (rows_lack names tasks core rows.rows s lines fine (written ∙ rows.written))
segment_goes_parts names tasks core count s lines (t ∷ row) rest fine all rows written = record {
  row = row;
  fine = All-tail (IsFineSegment tasks) t row all;
  rest = rest;
  rows = rows;
  written = cc;
}

-- after a segment's line the same may follow as before it
pub segment_goes : (names : List (List ℕ)) (tasks : List (Option Periodic)) (core count : ℕ) (s : Segment)
    (lines : List Line) → IsFineSegment tasks s
    → AreFromSegment names tasks core count (segment_words names s ∷ lines)
    → AreFromSegment names tasks core count lines
segment_goes names tasks core count s lines fine are =
    segment_goes_parts names tasks core count s lines are.row are.rest fine are.fine are.rows are.written

-- after a line that is no segment's the row has ended
no_more_segments : (names : List (List ℕ)) (tasks : List (Option Periodic)) (core count : ℕ) (line : Line)
    (lines : List Line) (row : List Segment) (rest : List Line)
    → ((s : Segment) → IsFineSegment tasks s → line ≡ segment_words names s → ⊥)
    → All (IsFineSegment tasks) row
    → AreFromCore names tasks core count rest
    → line ∷ lines ≡ map (segment_words names) row ++ rest → AreFromCore names tasks core count (line ∷ lines)
no_more_segments names tasks core count line lines [] rest none all rows written =
    subst (AreFromCore names tasks core count) (sym written) rows
no_more_segments names tasks core count line lines (s ∷ row) rest none all rows written =
    absurd (none s (all 0 s (omega arith)) cc)

-- the row has ended where no line is left
no_lines_left : (names : List (List ℕ)) (tasks : List (Option Periodic)) (core count : ℕ) (row : List Segment)
    (rest : List Line)
    → AreFromCore names tasks core count rest → [] ≡ map (segment_words names) row ++ rest
    → AreFromCore names tasks core count []
no_lines_left names tasks core count [] rest rows written =
    subst (AreFromCore names tasks core count) (sym written) rows
no_lines_left names tasks core count (s ∷ row) rest rows written = absurd (cc)

-- where the first line is no segment, there are the next cores
pub bad_behind_row : (names : List (List ℕ)) (tasks : List (Option Periodic)) (core count first : ℕ)
    (lines : List Line) (bad : ℕ)
    → IsNoSegment names tasks lines → IsFirstBadFor (AreFromCore names tasks core count) first lines bad
    → IsFirstBadFor (AreFromSegment names tasks core count) first lines bad
bad_behind_row names tasks core count first lines bad none is =
    bad_of_both (AreFromSegment names tasks core count) (AreFromCore names tasks core count) first lines bad
    (λ some rows. record {
      row = [];
      fine = All-nil (IsFineSegment tasks);
      rest = some;
      rows = rows;
      written = refl;
    })
    (λ line rest more at are. no_more_segments names tasks core count line more are.row are.rest
    (λ s fine same. none s fine rest (at ∙ ap (λ l. l ∷ rest) same)) are.fine are.rows are.written)
    (λ at are. no_lines_left names tasks core count are.row are.rest are.rows are.written)
    is

-- after the segments of a row, at the line after them
pub bad_behind_segments : (names : List (List ℕ)) (tasks : List (Option Periodic)) (core count first : ℕ)
    (row : List Segment) (rest : List Line) (bad : ℕ)
    → All (IsFineSegment tasks) row → IsNoSegment names tasks rest
    → IsFirstBadFor (AreFromCore names tasks core count) (first + length row) rest bad
    → IsFirstBadFor (AreFromSegment names tasks core count) first (map (segment_words names) row ++ rest) bad
bad_behind_segments names tasks core count first [] rest bad all none is =
    bad_behind_row names tasks core count first rest bad none
    (subst (λ n. IsFirstBadFor (AreFromCore names tasks core count) n rest bad) (omega arith) is)
bad_behind_segments names tasks core count first (s ∷ row) rest bad all none is =
    bad_behind (AreFromSegment names tasks core count) (AreFromSegment names tasks core count) first
    (segment_words names s) (map (segment_words names) row ++ rest) bad
    (λ lines are. segment_back names tasks core count s lines (all 0 s (omega arith)) are)
    (λ lines are. segment_goes names tasks core count s lines (all 0 s (omega arith)) are)
    (bad_behind_segments names tasks core count (first + 1) row rest bad
    (All-tail (IsFineSegment tasks) s row all) none
    (subst (λ n. IsFirstBadFor (AreFromCore names tasks core count) n rest bad) (omega arith) is))

-- ---- cores, one after the other

-- the reader appends rows: the lines of one core more
pub core_lines-last : (names : List (List ℕ)) (core : ℕ) (rows : List (List Segment)) (row : List Segment)
    → core_lines (segment_words names) core (rows ++ row ∷ [])
    ≡ core_lines (segment_words names) core rows ++ core_words (core + length rows) ∷ map
    (segment_words names) row
core_lines-last names core [] row =
    ap (λ ls. core_words core ∷ ls) (append-nil (map (segment_words names) row))
    ∙ (let same : core ≡ core + 0 = omega arith in ap
    (λ n. core_words n ∷ map (segment_words names) row) same)
core_lines-last names core (first ∷ rows) row =
    let more = core_lines-last names (core + 1) rows row in
    let count : core + 1 + length rows ≡ core + length (first ∷ rows) = omega arith in
    ap (λ ls. (core_words core ∷ map (segment_words names) first) ++ ls)
    (more ∙ ap (λ n. core_lines (segment_words names) (core + 1) rows
    ++ core_words n ∷ map (segment_words names) row) count)
    ∙ sym (append_assoc (core_words core ∷ map (segment_words names) first)
    (core_lines (segment_words names) (core + 1) rows)
    (core_words (core + length (first ∷ rows)) ∷ map (segment_words names) row))

-- what holds of each row holds with the new one
pub all_snoc : {X : Type 0} (P : X → Type 0) (xs : List X) (x : X) → All P xs → P x → All P (xs ++ x ∷ [])
all_snoc P xs x all here = All-append P xs (x ∷ []) all (All-cons P x [] here (All-nil P))

-- the first bad line after a core's line and its segments
pub bad_behind_core : (names : List (List ℕ)) (tasks : List (Option Periodic))
    (core cores first second third : ℕ)
    (lines behind rest : List Line) (row : List Segment) (bad : ℕ)
    → core < cores → lines ≡ core_words core ∷ behind → second ≡ first + 1
    → All (IsFineSegment tasks) row → behind ≡ map (segment_words names) row ++ rest
    → third ≡ second + length row
    → IsNoSegment names tasks rest
    → IsFirstBadFor (AreFromCore names tasks (core + 1) (cores - (core + 1))) third rest bad
    → IsFirstBadFor (AreFromCore names tasks core (cores - core)) first lines bad
bad_behind_core names tasks core cores first second third lines behind rest row bad low written next
    all segments
    last none is =
    let left = cores - (core + 1) in
    let count : cores - core ≡ left + 1 = omega arith in
    let within : IsFirstBadFor (AreFromSegment names tasks (core + 1) left) (first + 1) behind bad =
    rw segments (bad_behind_segments names tasks (core + 1) left (first + 1) row rest bad all none
    (subst (λ n. IsFirstBadFor (AreFromCore names tasks (core + 1) left) n rest bad)
    (last ∙ ap (λ n. n + length row) next) is)) in
    rw written (rw count (bad_behind (AreFromCore names tasks core (left + 1))
    (AreFromSegment names tasks (core + 1) left) first (core_words core) behind bad
    (λ some are. rows_back names tasks core left some are)
    (λ some are. (rows_go names tasks core left (core_words core) some are).more)
    within))

-- no core's line where one is due
pub core_is_bad : (names : List (List ℕ)) (tasks : List (Option Periodic)) (core cores first : ℕ)
    (lines : List Line)
    → core < cores
    → IsOtherLine (core_words core) lines
    → IsFirstBadFor (AreFromCore names tasks core (cores - core)) first lines first
core_is_bad names tasks core cores first lines low other =
    let left = cores - (core + 1) in
    let count : cores - core ≡ left + 1 = omega arith in
    rw count (first_is_bad (AreFromCore names tasks core (left + 1)) first lines
    (rows_begun names tasks core (left + 1))
    (λ line back at rest are. other back
    (at ∙ ap (λ l. l ∷ back) (rows_go names tasks core left line rest are).is_core))
    (λ at are. no_lines_no_rows names tasks core (left + 1) are))

-- no end where it is due
pub end_is_bad : (names : List (List ℕ)) (tasks : List (Option Periodic)) (core cores first : ℕ)
    (lines : List Line)
    → cores ≤ core
    → IsOtherLine end_words lines
    → IsFirstBadFor (AreFromCore names tasks core (cores - core)) first lines first
end_is_bad names tasks core cores first lines past other =
    let count : cores - core ≡ 0 = omega arith in
    rw count (first_is_bad (AreFromCore names tasks core 0) first lines (rows_begun names tasks core 0)
    (λ line back at rest are. let all = end_goes names tasks core (line ∷ rest) are in
    let same : line ≡ end_words = cc in other back (at ∙ ap (λ l. l ∷ back) same))
    (λ at are. no_lines_no_rows names tasks core 0 are))

-- a line after the end
pub line_behind_end : (names : List (List ℕ)) (tasks : List (Option Periodic)) (core cores first second : ℕ)
    (lines behind : List Line) → cores ≤ core
    → lines ≡ end_words ∷ behind → second ≡ first + 1 → behind ≢ []
    → IsFirstBadFor (AreFromCore names tasks core (cores - core)) first lines second
line_behind_end names tasks core cores first second lines behind past written next some =
    let count : cores - core ≡ 0 = omega arith in
    rw written
    (rw count (bad_behind (AreFromCore names tasks core 0)
    (λ ls. ls ≡ []) first end_words behind second
    (λ rest none. rw none (record {
      rows = [];
      many = refl;
      fine = All-nil (λ row. All (IsFineSegment tasks) row);
      written = refl;
    }))
    (λ rest are. let all = end_goes names tasks core (end_words ∷ rest) are in cc)
    (rw next (first_is_bad (λ ls. ls ≡ []) (first + 1) behind (record { rest = []; text = refl })
    (λ line back at rest none. absurd (cc)) (λ at none. some at)))))

-- the loop's step: the lines so far are those of one core more
pub core_lines_more : (names : List (List ℕ)) (core : ℕ) (rows : List (List Segment)) (row : List Segment)
    (all left behind rest : List Line)
    → length rows ≡ core → all ≡ core_lines (segment_words names) 0 rows ++ left
    → left ≡ core_words core ∷ behind
    → behind ≡ map (segment_words names) row ++ rest
    → all ≡ core_lines (segment_words names) 0 (rows ++ row ∷ []) ++ rest
core_lines_more names core rows row all left behind rest many before first segments =
    let place : core ≡ 0 + length rows = omega arith in
    before ∙ (ap (λ ls. core_lines (segment_words names) 0 rows ++ ls)
    (first ∙ ap (λ ls. core_words core ∷ ls) segments)
    ∙ (sym (append_assoc (core_lines (segment_words names) 0 rows)
    (core_words core ∷ map (segment_words names) row) rest)
    ∙ ap (λ ls. ls ++ rest)
    (ap (λ n. core_lines (segment_words names) 0 rows ++ core_words n ∷ map (segment_words names) row) place
    ∙ sym (core_lines-last names 0 rows row))))
