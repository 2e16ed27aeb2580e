-- The steps that have been read so far, line by line.
use Rattle.std.proofs.Common.{◌≡◌, ℕ, ◌+◌, true, false, List, [], ◌∷◌, ◌++◌, length, map, refl, sym, ap, ◌∙◌, subst, append_assoc, arith}
use Rattle.std.proofs.lemmas.List.Elements.{All-append}
use Rattle.std.proofs.lemmas.List.{append-nil, length-map, map-append}
use Rattle.std.specs.List.{All}
use Rattle.tab_words.specs.Lines.{lines_of}
use Rattle.tab_words.specs.Words.{words_of}
use Rattle.script_doc.specs.Statements.{Statement, is_skipped, statements_from, statements_of}
use Rattle.script_doc.specs.Steps.{AreSteps, IsFirstBadLine, IsNoStep, IsStep, IsStepWithin, step_words}
use Rattle.script_doc.specs.declared.step.Step.{Step}
use Rattle.script_doc.proofs.StatementLemmas.{statements_from-nil, statements_from-kept, statements_from-skipped}

-- what holds of one step holds of the list of it alone
All-one : (P : Step → Type 0) (step : Step) → P step → All P (step ∷ [])
All-one P step is = λ k d low.
    let first : k ≡ 0 = omega arith in
    rw first is

-- the lines before these are so many, and their statements are these steps
pub record AreRead (cores : ℕ) (bytes : List ℕ) (number : ℕ) (steps : List Step) (numbers : List ℕ)
    (lines : List (List ℕ)) : Type 0 where
  pub front : List Statement
  pub whole : statements_of bytes ≡ front ++ statements_from (number + 1) lines
  pub are : AreSteps cores front steps numbers
  pub count : number + length lines ≡ length (lines_of bytes)

-- before the first line
pub none_read : (cores : ℕ) (bytes : List ℕ) (number : ℕ) (steps : List Step) (numbers : List ℕ)
    → number ≡ 0 → steps ≡ [] → numbers ≡ []
    → AreRead cores bytes number steps numbers (lines_of bytes)
none_read cores bytes number steps numbers zero no_steps no_numbers =
    rw (zero, no_steps, no_numbers) (record {
      front = [];
      whole = refl;
      are = record { written = refl; placed = refl; within = λ k d low. absurd (omega arith) };
      count = omega arith;
    })

-- after a line that says nothing
pub skipped_read : (cores : ℕ) (bytes : List ℕ) (number : ℕ) (steps : List Step) (numbers : List ℕ)
    (line : List ℕ) (lines : List (List ℕ))
    → AreRead cores bytes number steps numbers (line ∷ lines) → is_skipped line ≡ true
    → AreRead cores bytes (number + 1) steps numbers lines
skipped_read cores bytes number steps numbers line lines read skipped = record {
  front = read.front;
  whole = read.whole ∙ ap (λ statements. read.front ++ statements) (statements_from-skipped (number + 1) line lines skipped);
  are = read.are;
  count = omega (arith, read.count);
}

-- one more statement that is a step, after the others
step_read : (cores : ℕ) (front : List Statement) (statement : Statement) (steps : List Step) (step : Step) (numbers : List ℕ)
    → AreSteps cores front steps numbers → IsStep cores statement.words step
    → AreSteps cores (front ++ statement ∷ []) (steps ++ step ∷ []) (numbers ++ statement.number ∷ [])
step_read cores front statement steps step numbers are is = record {
  written =
      map-append (λ (statement : Statement). statement.words) front (statement ∷ [])
      ∙ (ap (λ words. words ++ statement.words ∷ []) are.written
      ∙ (ap (λ (words : List (List ℕ)). map step_words steps ++ words ∷ []) is.written
      ∙ sym (map-append step_words steps (step ∷ []))));
  placed =
      map-append (λ (statement : Statement). statement.number) front (statement ∷ [])
      ∙ ap (λ lines. lines ++ statement.number ∷ []) are.placed;
  within =
      All-append (IsStepWithin cores) steps (step ∷ []) are.within
      (All-one (IsStepWithin cores) step is.within);
}

-- after a line that is a step
pub more_read : (cores : ℕ) (bytes : List ℕ) (number : ℕ) (steps : List Step) (numbers : List ℕ)
    (line : List ℕ) (lines : List (List ℕ)) (step : Step)
    → AreRead cores bytes number steps numbers (line ∷ lines) → is_skipped line ≡ false
    → IsStep cores (words_of line) step
    → AreRead cores bytes (number + 1) (steps ++ step ∷ []) (numbers ++ (number + 1) ∷ []) lines
more_read cores bytes number steps numbers line lines step read kept is =
    let statement : Statement = record { number = number + 1; words = words_of line } in
    record {
      front = read.front ++ statement ∷ [];
      whole =
          read.whole
          ∙ (ap (λ statements. read.front ++ statements) (statements_from-kept (number + 1) line lines kept)
          ∙ sym (append_assoc read.front (statement ∷ []) (statements_from (number + 1 + 1) lines)));
      are = step_read cores read.front statement steps step numbers read.are is;
      count = omega (arith, read.count);
    }

-- a line that is no step is the first such
pub bad_line : (cores : ℕ) (bytes : List ℕ) (number : ℕ) (steps : List Step) (numbers : List ℕ)
    (line : List ℕ) (lines : List (List ℕ))
    → AreRead cores bytes number steps numbers (line ∷ lines) → is_skipped line ≡ false
    → IsNoStep cores (words_of line)
    → IsFirstBadLine cores (statements_of bytes) (number + 1)
bad_line cores bytes number steps numbers line lines read kept none = record {
  front = read.front;
  statement = record { number = number + 1; words = words_of line };
  back = statements_from (number + 1 + 1) lines;
  steps = steps;
  lines = numbers;
  whole = read.whole ∙ ap (λ statements. read.front ++ statements) (statements_from-kept (number + 1) line lines kept);
  before = read.are;
  fault = none;
  number = refl;
}

-- after the last line
pub all_read : (cores : ℕ) (bytes : List ℕ) (number : ℕ) (steps : List Step) (numbers : List ℕ)
    → AreRead cores bytes number steps numbers [] → AreSteps cores (statements_of bytes) steps numbers
all_read cores bytes number steps numbers read =
    let whole : statements_of bytes ≡ read.front =
    read.whole ∙ (ap (λ statements. read.front ++ statements) (statements_from-nil (number + 1)) ∙ append-nil read.front) in
    subst (λ statements. AreSteps cores statements steps numbers) (sym whole) read.are

-- there is a line for each step, which the type of a list of steps asks for
pub one_line_each : (cores : ℕ) (statements : List Statement) (steps : List Step) (lines : List ℕ)
    → AreSteps cores statements steps lines
    → length lines ≡ length steps
one_line_each cores statements steps lines are =
    ap length (sym are.placed)
    ∙ (length-map statements (λ (statement : Statement). statement.number)
    ∙ (sym (length-map statements (λ (statement : Statement). statement.words))
    ∙ (ap length are.written ∙ length-map steps step_words)))
