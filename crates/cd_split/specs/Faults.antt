-- What a refusal of splitting tells.
use Rattle.std.specs.Prelude.{◌≡◌, ℕ, List}
use Rattle.tab_core.specs.declared.periodic.Periodic.{Periodic}
use Rattle.tab_core.specs.declared.piece.Piece.{Piece}
use Rattle.cd_split.specs.Splitting.{IsSplitRefused}
use Rattle.cd_split.specs.declared.fault.SplitFault.{SplitFault}
use Rattle.cd_split.specs.declared.fault.SplitFault.TheVariants.{NoRoom, NoMemory}

-- the fault is that of where splitting ends without room; out of memory says nothing of the cores
abbrev pub IsSplitFault : List (List Piece) → ℕ → Periodic → SplitFault → Type 0
IsSplitFault cores vcpu task (NoRoom named rest over) =
    (named ≡ vcpu) × IsSplitRefused cores vcpu task rest over
IsSplitFault cores vcpu task NoMemory = Unit {0}
