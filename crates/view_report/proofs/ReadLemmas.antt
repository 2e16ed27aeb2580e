-- What was read of a report, one line more.
use Rattle.std.proofs.Common.{◌≡◌, ℕ, ◌+◌, true, false, List, [], ◌∷◌, ◌++◌, length, length-append, map, refl, sym, ap, ◌∙◌, subst, append_assoc, append-nil, arith}
use Rattle.std.proofs.lemmas.List.{map-append}
use Rattle.std.proofs.lemmas.List.Elements.{All-append}
use Rattle.tab_words.specs.Lines.{lines_of}
use Rattle.tab_words.specs.Words.{words_of}
use Rattle.tab_words.specs.Texts.{Line, worded}
use Rattle.view_report.specs.Lines.{IsGoodSaid, SaysLine, begins_run, said_words}
use Rattle.view_report.specs.Reports.{LinesReport, ReportSoFar, SayTogether, may_be_next, no_line_yet, with_line}
use Rattle.view_report.specs.declared.said.Said.{Said}
use Rattle.view_report.specs.declared.said.Said.TheVariants.{Begun, Changed, Planned, Vcpu, Core, Done}

-- ---- lines

-- what lines say together, one line more
say_more : (far last : ReportSoFar) (saids : List Said) (said : Said) → SayTogether far saids last
    → may_be_next last said ≡ true → SayTogether far (saids ++ said ∷ []) (with_line last said)
say_more far last [] said together may = (
  subst (λ (f : ReportSoFar). may_be_next f said ≡ true) (sym together) may,
  ap (λ (f : ReportSoFar). with_line f said) together,
)
say_more far last (first ∷ saids) said together may =
    (together.0, say_more (with_line far first) last saids said together.1 may)

-- after a line the report has begun
has_place : (far : ReportSoFar) (said : Said) → (with_line far said).place ≡ 0 → ⊥
has_place far (Begun rounds cores events) none = omega (arith, none)
has_place far (Changed number change) none = omega (arith, none)
has_place far (Planned start) none = omega (arith, none)
has_place far (Vcpu ran) none = omega (arith, none)
has_place far (Core number ran) none = omega (arith, none)
has_place far Done none = omega (arith, none)

-- the lines of a report, one line more
lines_more : (before passed : List Line) (saids : List Said) (far : ReportSoFar) (line : Line) (said : Said)
    → LinesReport before passed saids far → SaysLine line said → may_be_next far said ≡ true
    → LinesReport (before ++ line ∷ []) passed (saids ++ said ∷ []) (with_line far said)
lines_more before passed saids far line said are says may = record {
  whole = ap (λ ls. ls ++ line ∷ []) are.whole ∙ (append_assoc passed (map said_words saids) (line ∷ [])
      ∙ ap (λ ls. passed ++ ls) (ap (λ (l : Line). map said_words saids ++ l ∷ []) says.written
      ∙ sym (map-append said_words saids (said ∷ []))));
  before = are.before;
  good = All-append IsGoodSaid saids (said ∷ []) are.good
      (λ k d low. let first : k ≡ 0 = omega arith in rw first says.good);
  together = say_more no_line_yet far saids said are.together may;
}

-- the lines before a report, one line more
passed_more : (before passed : List Line) (far : ReportSoFar) (line : Line) → LinesReport before passed [] far
    → begins_run line ≡ false → LinesReport (before ++ line ∷ []) (passed ++ line ∷ []) [] far
passed_more before passed far line are no_run = record {
  whole = ap (λ ls. ls ++ line ∷ []) (are.whole ∙ append-nil passed) ∙ sym (append-nil (passed ++ line ∷ []));
  before = All-append (λ (l : Line). begins_run l ≡ false) passed (line ∷ []) are.before
      (λ k d low. let first : k ≡ 0 = omega arith in rw first no_run);
  good = are.good;
  together = are.together;
}

-- ---- the lines so far

-- so many lines were read, and these are left
pub record AreLinesRead (bytes : List ℕ) (number : ℕ) (far : ReportSoFar) (left : List (List ℕ)) : Type 0 where
  pub passed : List Line
  pub saids : List Said
  pub before : List Line
  pub whole : worded bytes ≡ before ++ map words_of left
  pub lines : LinesReport before passed saids far
  pub fresh : far.place ≡ 0 → saids ≡ []
  pub many : length before ≡ number
  pub count : number + length left ≡ length (lines_of bytes)

-- before the first line
pub no_line_read : (bytes : List ℕ) (number : ℕ) (far : ReportSoFar) → number ≡ 0 → far ≡ no_line_yet
    → AreLinesRead bytes number far (lines_of bytes)
no_line_read bytes number far first is = rw (first, is) (record {
  passed = [];
  saids = [];
  before = [];
  whole = refl;
  lines = record {
    whole = refl;
    before = λ k d low. absurd (omega arith);
    good = λ k d low. absurd (omega arith);
    together = refl;
  };
  fresh = λ none. refl;
  many = refl;
  count = omega arith;
})

-- after a line of the report
pub line_read : (bytes : List ℕ) (number : ℕ) (far new : ReportSoFar) (line : List ℕ) (left : List (List ℕ))
    (said : Said) → AreLinesRead bytes number far (line ∷ left) → SaysLine (words_of line) said
    → may_be_next far said ≡ true → new ≡ with_line far said → AreLinesRead bytes (number + 1) new left
line_read bytes number far new line left said are says may is = rw is (record {
  passed = are.passed;
  saids = are.saids ++ said ∷ [];
  before = are.before ++ words_of line ∷ [];
  whole = are.whole ∙ sym (append_assoc are.before (words_of line ∷ []) (map words_of left));
  lines = lines_more are.before are.passed are.saids far (words_of line) said are.lines says may;
  fresh = λ none. absurd (has_place far said none);
  many = let many = are.many in omega (arith, length-append are.before (words_of line ∷ []));
  count = let count = are.count in omega arith;
})

-- after a line that is passed over
pub line_passed : (bytes : List ℕ) (number : ℕ) (far : ReportSoFar) (line : List ℕ) (left : List (List ℕ))
    → AreLinesRead bytes number far (line ∷ left) → far.place ≡ 0 → begins_run (words_of line) ≡ false
    → AreLinesRead bytes (number + 1) far left
line_passed bytes number far line left are none no_run = record {
  passed = are.passed ++ words_of line ∷ [];
  saids = [];
  before = are.before ++ words_of line ∷ [];
  whole = are.whole ∙ sym (append_assoc are.before (words_of line ∷ []) (map words_of left));
  lines = passed_more are.before are.passed far (words_of line)
      (subst (λ (saids : List Said). LinesReport are.before are.passed saids far) (are.fresh none) are.lines) no_run;
  fresh = λ again. refl;
  many = let many = are.many in omega (arith, length-append are.before (words_of line ∷ []));
  count = let count = are.count in omega arith;
}
