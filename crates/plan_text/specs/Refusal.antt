-- The line of the refusal of a plan text.
use Rattle.std.specs.Prelude.{ℕ, List, ◌++◌, codes, decimal}

-- the line of the refusal of a plan text whose first bad line has this number, from 1
unfoldable pub plan_fault_line : ℕ → List ℕ
plan_fault_line line = codes "refused: plan line " ++ (decimal line ++ codes "\n")
