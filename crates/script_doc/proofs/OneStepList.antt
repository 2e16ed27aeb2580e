-- A text states one list of steps at most, and has one first line at most that is no step: one of the
-- two, and never both.
use Rattle.std.proofs.Common.{◌≡◌, inl, inr, ℕ, ◌<◌, ◌≤◌, List, [], ◌∷◌, ◌++◌, length, map, decimal, refl, sym, ap, ◌∙◌, subst, arith}
use Rattle.std.proofs.Props.{props}
use Rattle.std.proofs.lemmas.Fmt.{decimal_injective}
use Rattle.std.proofs.lemmas.List.Elements.{All-head, All-tail}
use Rattle.std.specs.List.{All}
use Rattle.tab_core.specs.declared.TheConstants.{MAX_CORES}
use Rattle.tab_words.proofs.CommandLemmas.{other_word}
use Rattle.script_doc.specs.Statements.{Statement}
use Rattle.script_doc.specs.Steps.{AreSteps, IsFirstBadLine, IsNoStep, IsStepWithin, step_words}
use Rattle.script_doc.specs.declared.step.Step.{Step}
use Rattle.script_doc.specs.declared.step.Step.TheVariants.{Post, See, Decide, Run}
use Rattle.script_doc.specs.declared.step_list.StepList.{StepList}
use Rattle.script_doc.proofs.StatementLemmas.{splits}

-- ---- one list

-- the number of a core is written in one way
one_core : (cores c d : ℕ) (more others : List (List ℕ)) → cores ≤ MAX_CORES → c < cores → d < cores
    → decimal c ∷ more ≡ decimal d ∷ others → c ≡ d
one_core cores c d more others few low_c low_d same =
    let word : decimal c ≡ decimal d = cc in
    decimal_injective c d (omega arith) (omega arith) word

-- steps that are written alike are one
one_step : (cores : ℕ) (a b : Step) → cores ≤ MAX_CORES → IsStepWithin cores a → IsStepWithin cores b
    → step_words a ≡ step_words b → a ≡ b
one_step cores Post Post few of_a of_b same = refl
one_step cores Post (See d) few of_a of_b same = absurd (other_word _ _ refl same)
one_step cores Post (Decide d) few of_a of_b same = absurd (other_word _ _ refl same)
one_step cores Post (Run d) few of_a of_b same = absurd (other_word _ _ refl same)
one_step cores (See c) Post few of_a of_b same = absurd (other_word _ _ refl same)
one_step cores (See c) (See d) few of_a of_b same =
    (let words : decimal c ∷ [] ≡ decimal d ∷ [] = cc in ap See (one_core cores c d [] [] few of_a of_b words))
one_step cores (See c) (Decide d) few of_a of_b same = absurd (other_word _ _ refl same)
one_step cores (See c) (Run d) few of_a of_b same = absurd (other_word _ _ refl same)
one_step cores (Decide c) Post few of_a of_b same = absurd (other_word _ _ refl same)
one_step cores (Decide c) (See d) few of_a of_b same = absurd (other_word _ _ refl same)
one_step cores (Decide c) (Decide d) few of_a of_b same =
    (let words : decimal c ∷ [] ≡ decimal d ∷ [] = cc in
    ap Decide (one_core cores c d [] [] few of_a of_b words))
one_step cores (Decide c) (Run d) few of_a of_b same = absurd (other_word _ _ refl same)
one_step cores (Run c) Post few of_a of_b same = absurd (other_word _ _ refl same)
one_step cores (Run c) (See d) few of_a of_b same = absurd (other_word _ _ refl same)
one_step cores (Run c) (Decide d) few of_a of_b same = absurd (other_word _ _ refl same)
one_step cores (Run c) (Run d) few of_a of_b same =
    (let words : decimal c ∷ [] ≡ decimal d ∷ [] = cc in ap Run (one_core cores c d [] [] few of_a of_b words))

-- two lists of steps that are written alike are one
one_list : (cores : ℕ) (us ws : List Step) → cores ≤ MAX_CORES → All (IsStepWithin cores) us
    → All (IsStepWithin cores) ws → map step_words us ≡ map step_words ws → us ≡ ws
one_list cores [] [] few of_us of_ws same = refl
one_list cores [] (w ∷ ws) few of_us of_ws same = absurd cc
one_list cores (u ∷ us) [] few of_us of_ws same = absurd cc
one_list cores (u ∷ us) (w ∷ ws) few of_us of_ws same =
    let words : step_words u ≡ step_words w = cc in
    let others : map step_words us ≡ map step_words ws = cc in
    let first : u ≡ w = one_step cores u w few (All-head (IsStepWithin cores) u us of_us)
    (All-head (IsStepWithin cores) w ws of_ws) words in
    let rest : us ≡ ws = one_list cores us ws few (All-tail (IsStepWithin cores) u us of_us)
    (All-tail (IsStepWithin cores) w ws of_ws) others in
    cc

-- a text states one list of steps at most, on one list of lines
pub one_step_list : (cores : ℕ) (statements : List Statement) (steps others : List Step)
    (lines places : List ℕ) → cores ≤ MAX_CORES → AreSteps cores statements steps lines
    → AreSteps cores statements others places → (steps ≡ others) × (lines ≡ places)
one_step_list cores statements steps others lines places few are also = (
  one_list cores steps others few are.within also.within (sym are.written ∙ also.written),
  sym are.placed ∙ also.placed,
)

-- ---- steps have no bad line

-- a statement among steps is a step
step_or_none : (cores : ℕ) (front : List Statement) (statement : Statement) (back : List Statement) (steps : List Step)
    → map (λ (statement : Statement). statement.words) (front ++ statement ∷ back) ≡ map step_words steps
    → All (IsStepWithin cores) steps → IsNoStep cores statement.words → ⊥
step_or_none cores [] statement back [] written within none = absurd cc
step_or_none cores [] statement back (step ∷ steps) written within none =
    none step (record { written = cc; within = All-head (IsStepWithin cores) step steps within })
step_or_none cores (first ∷ front) statement back [] written within none = absurd cc
step_or_none cores (first ∷ front) statement back (step ∷ steps) written within none =
    let rest : map (λ (statement : Statement). statement.words) (front ++ statement ∷ back) ≡ map step_words steps = cc in
    step_or_none cores front statement back steps rest (All-tail (IsStepWithin cores) step steps within) none

-- statements that are steps have no bad line
pub bad_or_steps : (cores : ℕ) (statements : List Statement) (line : ℕ) (steps : List Step) (lines : List ℕ)
    → IsFirstBadLine cores statements line → AreSteps cores statements steps lines → ⊥
bad_or_steps cores statements line steps lines bad are =
    step_or_none cores bad.front bad.statement bad.back steps
    (subst (λ (rs : List Statement). map (λ (statement : Statement). statement.words) rs ≡ map step_words steps)
    bad.whole are.written) are.within bad.fault

-- ---- one bad line

-- a text has one first bad line at most, since all statements before one are steps
pub one_bad_line : (cores : ℕ) (statements : List Statement) (line other : ℕ)
    → IsFirstBadLine cores statements line → IsFirstBadLine cores statements other → line ≡ other
one_bad_line cores statements line other first also =
    elim (splits first.front also.front first.statement also.statement first.back also.back
    (sym first.whole ∙ also.whole)) [
      | inl same ↦ first.number ∙ ap (λ (s : Statement). s.number) same.1 ∙ sym also.number
      | inr (inl earlier) ↦ absurd (step_or_none cores first.front first.statement earlier.more also.steps
          (subst (λ (ss : List Statement). map (λ (s : Statement). s.words) ss ≡ map step_words also.steps)
          earlier.whole also.before.written) also.before.within first.fault)
      | inr (inr later) ↦ absurd (step_or_none cores also.front also.statement later.more first.steps
          (subst (λ (ss : List Statement). map (λ (s : Statement). s.words) ss ≡ map step_words first.steps)
          later.whole first.before.written) first.before.within also.fault)
    ]

-- ---- values of the type that is read

-- such a value of its parts
abbrev step_list_with : (steps : List Step) (lines : List ℕ) → length lines ≡ length steps → StepList
step_list_with steps lines each = record { steps = steps; lines = lines; one_line_each = each }

-- that there is a line for each step has one proof
one_proof : (steps : List Step) (lines : List ℕ) → IsProp (length lines ≡ length steps)
one_proof steps lines = hlevel props

-- a list of steps is its steps and its lines
pub same_step_list : (a b : StepList) → a.steps ≡ b.steps → a.lines ≡ b.lines → a ≡ b
same_step_list a b steps lines =
    let At : List Step → List ℕ → Type 0 = λ s l. (each : length l ≡ length s) → a ≡ step_list_with s l each in
    let here : At a.steps a.lines =
    λ each. ap (step_list_with a.steps a.lines) (one_proof a.steps a.lines a.one_line_each each) in
    subst (At b.steps) lines (subst (λ s. At s a.lines) steps here) b.one_line_each
