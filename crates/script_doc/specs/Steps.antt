-- The grammar of a list of steps.
use Rattle.std.specs.Prelude.{◌≡◌, ℕ, ◌<◌, List, [], ◌∷◌, ◌++◌, codes, decimal, map}
use Rattle.std.specs.List.{All}
use Rattle.script_doc.specs.Statements.{Statement}
use Rattle.script_doc.specs.declared.step.Step.{Step}
use Rattle.script_doc.specs.declared.step.Step.TheVariants.{Post, See, Decide, Run}

-- the words that a step is written as
abbrev pub step_words : Step → List (List ℕ)
step_words Post = codes "post" ∷ []
step_words (See core) = codes "see" ∷ decimal core ∷ []
step_words (Decide core) = codes "decide" ∷ decimal core ∷ []
step_words (Run core) = codes "run" ∷ decimal core ∷ []

-- the step is of a core below this count, if it is of one
abbrev pub IsStepWithin : ℕ → Step → Type 0
IsStepWithin cores Post = Unit {0}
IsStepWithin cores (See core) = core < cores
IsStepWithin cores (Decide core) = core < cores
IsStepWithin cores (Run core) = core < cores

-- the words are those of this step of a host with so many cores
pub record IsStep (cores : ℕ) (words : List (List ℕ)) (step : Step) : Type 0 where
  pub written : words ≡ step_words step
  pub within : IsStepWithin cores step

-- the words are those of no step
abbrev pub IsNoStep : ℕ → List (List ℕ) → Type 0
IsNoStep cores words = (step : Step) → IsStep cores words step → ⊥

-- the statements are these steps, on the lines of these numbers
pub record AreSteps (cores : ℕ) (statements : List Statement) (steps : List Step) (lines : List ℕ) : Type 0 where
  pub written : map (λ statement. statement.words) statements ≡ map step_words steps
  pub placed : map (λ statement. statement.number) statements ≡ lines
  pub within : All (IsStepWithin cores) steps

-- the first statement that is no step is on this line
pub record IsFirstBadLine (cores : ℕ) (statements : List Statement) (line : ℕ) : Type 0 where
  pub front : List Statement
  pub statement : Statement
  pub back : List Statement
  pub steps : List Step
  pub lines : List ℕ
  pub whole : statements ≡ front ++ statement ∷ back
  pub before : AreSteps cores front steps lines
  pub fault : IsNoStep cores statement.words
  pub number : line ≡ statement.number
