-- Lines of a run that are gathered before they are written.
use Rattle.std.specs.Prelude.{ℕ, List}

-- the names of the vCPUs by number, and the bytes that are gathered and not yet written
pub record StintLinesView : Type 0 where
  pub names : List (List ℕ)
  pub gathered : List ℕ
