-- The lines that have been read, and one more.
use Rattle.std.proofs.Common.{arith, ◌≡◌, ℕ, ◌+◌, true, false, List, [], ◌∷◌, ◌++◌, length, ap, sym, subst, ◌∙◌, append_assoc, length-append}
use Rattle.std.proofs.lemmas.List.{append-nil, length_push}
use Rattle.tab_words.specs.Lines.{lines_of}
use Rattle.host_trace.specs.TraceLines.{IsFirstBadTraceLine, IsMarkOf, SaysMark, is_passed_over, rows_from}
use Rattle.host_trace.specs.declared.mark.Mark.{Mark}
use Rattle.host_trace.proofs.RowLemmas.{marks_more, rows_from-append, rows_from-kept, rows_from-nil, rows_from-passed}
use Rattle.host_judge.specs.Faults.{IsBadLine, IsFaultIn, trace_row}
use Rattle.host_judge.specs.declared.fault.JudgeFault.{JudgeFault}
use Rattle.host_judge.specs.declared.fault.JudgeFault.TheVariants.{BadLine, NoMemory, ReadFault, TooLong}
use Rattle.host_judge.specs.Inside.Judged.{HasJudged}
use Rattle.host_judge.specs.Inside.Readings.{HasReadLines}
use Rattle.host_judge.specs.declared.reading.Reading.{Reading}

-- the rows after a line that is passed over
rows_passed : (lines : List (List ℕ)) (line : List ℕ) → is_passed_over line ≡ true
    → rows_from 1 (lines ++ line ∷ []) ≡ rows_from 1 lines
rows_passed lines line passed =
    rows_from-append 1 lines (line ∷ [])
    ∙ ap (λ rows. rows_from 1 lines ++ rows)
    (rows_from-passed (1 + length lines) line [] passed ∙ rows_from-nil (1 + length lines + 1))
    ∙ append-nil (rows_from 1 lines)

-- the rows after a line that is another
rows_kept : (lines : List (List ℕ)) (line : List ℕ) (number : ℕ) → is_passed_over line ≡ false
    → number ≡ length lines + 1 → rows_from 1 (lines ++ line ∷ []) ≡ rows_from 1 lines ++ trace_row number line ∷ []
rows_kept lines line number kept is =
    let count : 1 + length lines ≡ number = omega arith in
    rows_from-append 1 lines (line ∷ [])
    ∙ ap (λ rows. rows_from 1 lines ++ rows)
    (rows_from-kept (1 + length lines) line [] kept
    ∙ ap (λ rows. trace_row (1 + length lines) line ∷ rows) (rows_from-nil (1 + length lines + 1)))
    ∙ ap (λ n. rows_from 1 lines ++ trace_row n line ∷ []) count

-- a line that is passed over was read
pub read_passed : (lines : List (List ℕ)) (line : List ℕ) (old new : Reading) → HasReadLines lines old
    → is_passed_over line ≡ true → new.names ≡ old.names → new.judge ≡ old.judge → new.lines ≡ old.lines + 1
    → HasReadLines (lines ++ line ∷ []) new
read_passed lines line old new read passed names judge count = record {
  marks = read.marks;
  said = rw (names, rows_passed lines line passed) read.said;
  judged = rw judge read.judged;
  count = omega (arith, count, read.count, length_push lines line);
}

-- a line that says something was read
pub read_kept : (lines : List (List ℕ)) (line : List ℕ) (number : ℕ) (mark : Mark) (old new : Reading)
    → HasReadLines lines old → is_passed_over line ≡ false → number ≡ old.lines + 1 → mark.line ≡ number
    → SaysMark old.names line mark → new.names ≡ old.names → new.lines ≡ number
    → ((marks : List Mark) → HasJudged marks old.judge → HasJudged (marks ++ mark ∷ []) new.judge)
    → HasReadLines (lines ++ line ∷ []) new
read_kept lines line number mark old new read kept is placed says names count judged =
    let at : number ≡ length lines + 1 = omega (arith, is, read.count) in
    let said : IsMarkOf old.names (trace_row number line) mark = record { placed = placed; says = says } in
    record {
      marks = read.marks ++ mark ∷ [];
      said = rw (names, rows_kept lines line number kept at)
          (marks_more old.names (rows_from 1 lines) read.marks (trace_row number line) mark read.said said);
      judged = judged read.marks read.judged;
      count = omega (arith, count, at, length_push lines line);
    }

-- a line that says nothing is the first such
pub bad_line : (lines : List (List ℕ)) (line : List ℕ) (number : ℕ) (old : Reading) → HasReadLines lines old
    → is_passed_over line ≡ false → number ≡ old.lines + 1 → ((mark : Mark) → SaysMark old.names line mark → ⊥)
    → IsFirstBadTraceLine old.names (rows_from 1 (lines ++ line ∷ [])) (trace_row number line)
bad_line lines line number old read kept is nothing =
    let at : number ≡ length lines + 1 = omega (arith, is, read.count) in
    record {
      front = rows_from 1 lines;
      back = [];
      marks = read.marks;
      whole = rows_kept lines line number kept at;
      before = read.said;
      nothing = nothing;
    }

-- the fault of a bad line is that of the lines
pub bad_told : (names lines : List (List ℕ)) (line : List ℕ) (number : ℕ) (fault : JudgeFault)
    → IsBadLine number line fault → IsFirstBadTraceLine names (rows_from 1 lines) (trace_row number line)
    → IsFaultIn names lines fault
bad_told names lines line number (BadLine at text) is bad = rw (is.0, is.1) bad
bad_told names lines line number NoMemory is bad = tt
bad_told names lines line number ReadFault is bad = absurd is
bad_told names lines line number TooLong is bad = absurd is

-- a fault of lines is one of these and more after them
pub fault_more : (names lines more : List (List ℕ)) (fault : JudgeFault) → IsFaultIn names lines fault
    → IsFaultIn names (lines ++ more) fault
fault_more names lines more (BadLine at text) bad = record {
  front = bad.front;
  back = bad.back ++ rows_from (1 + length lines) more;
  marks = bad.marks;
  whole =
      rows_from-append 1 lines more
      ∙ ap (λ rows. rows ++ rows_from (1 + length lines) more) bad.whole
      ∙ append_assoc bad.front (trace_row at text.items ∷ bad.back) (rows_from (1 + length lines) more);
  before = bad.before;
  nothing = bad.nothing;
}
fault_more names lines more NoMemory bad = tt
fault_more names lines more ReadFault bad = absurd bad
fault_more names lines more TooLong many = omega (arith, many, length-append lines more)

-- the lines of a text up to these have been read after others
pub record GoesOn (text : List ℕ) (old new : Reading) (rest : List (List ℕ)) : Type 0 where
  pub front : List (List ℕ)
  pub whole : lines_of text ≡ front ++ rest
  pub read : (lines : List (List ℕ)) → HasReadLines lines old → HasReadLines (lines ++ front) new

-- before the first
pub begins : (text : List ℕ) (old : Reading) (rest : List (List ℕ)) → rest ≡ lines_of text
    → GoesOn text old old rest
begins text old rest is = record {
  front = [];
  whole = sym is;
  read = λ lines read. rw (append-nil lines) read;
}

-- after one more
pub goes_on : (text : List ℕ) (old now new : Reading) (line : List ℕ) (rest : List (List ℕ))
    → GoesOn text old now (line ∷ rest)
    → ((lines : List (List ℕ)) → HasReadLines lines now → HasReadLines (lines ++ line ∷ []) new) → GoesOn text old new rest
goes_on text old now new line rest on more = record {
  front = on.front ++ line ∷ [];
  whole = on.whole ∙ sym (append_assoc on.front (line ∷ []) rest);
  read = λ lines read.
      subst (λ all. HasReadLines all new) (append_assoc lines on.front (line ∷ []))
      (more (lines ++ on.front) (on.read lines read));
}

-- after the last
pub ends : (text : List ℕ) (old new : Reading) → GoesOn text old new []
    → (lines : List (List ℕ)) → HasReadLines lines old → HasReadLines (lines ++ lines_of text) new
ends text old new on lines read =
    rw (on.whole, append-nil on.front) (on.read lines read)

-- at a bad line
pub breaks : (text : List ℕ) (old now : Reading) (line : List ℕ) (rest : List (List ℕ)) (fault : JudgeFault)
    → GoesOn text old now (line ∷ rest) → now.names ≡ old.names
    → ((lines : List (List ℕ)) → HasReadLines lines now → IsFaultIn now.names (lines ++ line ∷ []) fault)
    → (lines : List (List ℕ)) → HasReadLines lines old → IsFaultIn old.names (lines ++ lines_of text) fault
breaks text old now line rest fault on same bad lines read =
    let whole : ((lines ++ on.front) ++ line ∷ []) ++ rest ≡ lines ++ lines_of text =
    append_assoc (lines ++ on.front) (line ∷ []) rest ∙ append_assoc lines on.front (line ∷ rest)
    ∙ ap (λ more. lines ++ more) (sym on.whole) in
    let told : IsFaultIn old.names ((lines ++ on.front) ++ line ∷ []) fault =
    subst (λ names. IsFaultIn names ((lines ++ on.front) ++ line ∷ []) fault) same
    (bad (lines ++ on.front) (on.read lines read)) in
    subst (λ all. IsFaultIn old.names all fault) whole
    (fault_more old.names ((lines ++ on.front) ++ line ∷ []) rest fault told)
