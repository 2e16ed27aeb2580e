-- Lines that are gathered, and the tails that they are put together from.
use Rattle.std.specs.Prelude.{ℕ, ◌≤◌, List}
use Rattle.tab_core.specs.declared.TheConstants.{MAX_VCPUS}
use Rattle.line_bytes.specs.Tails.{AreTails}
use Rattle.line_bytes.specs.declared.block.TheConstants.{BLOCK}
use Rattle.line_bytes.specs.declared.tail.Tail.{Tail}

-- the tails are those of these names, with a space after each, and no more is gathered than there is room for
pub record HoldsLines (names : List (List ℕ)) (tails : List Tail) (count : ℕ) : Type 0 where
  pub are : AreTails names 32 MAX_VCPUS tails
  pub few : count ≤ BLOCK
