-- One step of splitting the left-over vCPUs in turn, and where it gets stuck.
use Rattle.std.specs.Prelude.{◌≡◌, ℕ, List, Option, Some, slice_get, slice_set, sum_by}
use Rattle.tab_core.specs.declared.host.Host.{Host}
use Rattle.tab_core.specs.declared.periodic.Periodic.{Periodic}
use Rattle.tab_core.specs.declared.piece.Piece.{Piece}
use Rattle.cd_split.specs.Faults.{IsSplitFault}
use Rattle.cd_split.specs.Shares.{AreOf, FitTheirCores, HaveAdjacentWindows, StandApart}
use Rattle.cd_split.specs.Splitting.{IsSplit}
use Rattle.cd_split.specs.declared.fault.SplitFault.{SplitFault}
use Rattle.cd_split.specs.declared.fault.SplitFault.TheVariants.{NoMemory, NoRoom}
use Rattle.plan_make.specs.Planned.{IsFirstStayingWithoutRoom}
use Rattle.plan_make.specs.SplitInTurn.{IsFirstStuck, home_of, with_pieces}

-- what a split gives: the pieces that splitting asks for, of all the vCPU's cost, in windows that
-- follow one another
pub record AreShares (cores : List (List Piece)) (vcpu : ℕ) (task : Periodic)
    (pieces : List Piece) : Type 0 where
  pub splits : IsSplit cores vcpu task pieces
  pub are_of : AreOf vcpu task.period pieces
  pub fit : FitTheirCores cores pieces
  pub stand_apart : StandApart pieces
  pub windows : HaveAdjacentWindows 0 task.period pieces
  pub cost : sum_by (λ p. p.cost) pieces ≡ task.cost

-- the vCPU is split: its pieces are after those of the cores, and the last of them is on its home
pub record AddsPieces (cores : List (List Piece)) (vcpu : ℕ) (task : Periodic)
    (end : List (List Piece)) (home : ℕ) : Type 0 where
  pub pieces : List Piece
  pub shares : AreShares cores vcpu task pieces
  pub end_is : end ≡ with_pieces cores pieces
  pub home_is : home ≡ home_of pieces

-- the next left-over vCPU is split
pub record SplitsNext (tasks : List (Option Periodic)) (cores : List (List Piece)) (homes : List (Option ℕ))
    (vcpu : ℕ) (end : List (List Piece)) (homes' : List (Option ℕ)) : Type 0 where
  pub task : Periodic
  pub at : slice_get tasks vcpu ≡ Some (Some task)
  pub home : ℕ
  pub added : AddsPieces cores vcpu task end home
  pub homes_are : homes' ≡ slice_set homes vcpu (Some home)

-- the next left-over vCPU can't be split
abbrev pub IsRefusedNext : List (Option Periodic) → List (List Piece) → ℕ → SplitFault → Type 0
IsRefusedNext tasks cores vcpu fault = (task : Periodic) × (slice_get tasks vcpu ≡ Some (Some task))
    × IsSplitFault cores vcpu task fault

-- splitting in turn ends at that vCPU; out of memory says nothing of the cores
abbrev pub IsStuckFault : List (Option Periodic) → List (List Piece) → List (Option ℕ) → List ℕ
    → SplitFault → Type 0
IsStuckFault tasks start core_of left (NoRoom vcpu rest over) =
    IsFirstStuck tasks start core_of left vcpu rest over
IsStuckFault tasks start core_of left NoMemory = Unit {0}

-- the host has a vCPU without room; out of memory says nothing of the host
abbrev pub IsLayoutFault : List (Option ℕ) → Host → SplitFault → Type 0
IsLayoutFault old_homes host (NoRoom vcpu rest over) = IsFirstStayingWithoutRoom old_homes host vcpu rest over
IsLayoutFault old_homes host NoMemory = Unit {0}
