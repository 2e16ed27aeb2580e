-- The pieces that each vCPU has on the cores while the left-over ones are split in turn.
use Rattle.std.specs.Prelude.{◌≡◌, ◌⊎◌, ℕ, ◌≤◌, ◌==◌, Bool, true, List, All, Option, Some, length, slice_get, sum_by}
use Rattle.std.specs.List.{list_any}
use Rattle.tab_core.specs.declared.periodic.Periodic.{Periodic}
use Rattle.tab_core.specs.declared.piece.Piece.{Piece}
use Rattle.table_form.specs.Planning.Drafts.{cost_on}
use Rattle.worst_fit.specs.Placement.{IsPlaced, PlacesEach}
use Rattle.cd_split.specs.Cores.{LackVcpu, pieces_on}

-- the piece is of an admitted vCPU and has its period
pub record IsOfAdmitted (tasks : List (Option Periodic)) (p : Piece) : Type 0 where
  pub task : Periodic
  pub at : slice_get tasks p.vcpu ≡ Some (Some task)
  pub period : p.period ≡ task.period

-- the two windows don't meet
abbrev pub WindowsApart : Piece → Piece → Type 0
WindowsApart p q = (p.to ≤ q.from) ⊎ (q.to ≤ p.from)

-- one of the pieces is the vCPU's
abbrev pub has_piece : ℕ → List Piece → Bool
has_piece vcpu pieces = list_any (λ p. p.vcpu == vcpu) pieces

-- each vCPU with a home has a piece there and its cost on the cores, in pieces of its period whose
-- windows don't meet on different cores; no other vCPU has a piece
pub record AreAllottedTo (tasks : List (Option Periodic)) (homes : List (Option ℕ))
    (cores : List (List Piece)) : Type 0 where
  pub of_tasks : (core at : ℕ) (p : Piece) → slice_get (pieces_on cores core) at ≡ Some p
      → IsOfAdmitted tasks p
  pub costs : (vcpu home : ℕ) (task : Periodic) → slice_get homes vcpu ≡ Some (Some home)
      → slice_get tasks vcpu ≡ Some (Some task) → sum_by (cost_on vcpu) cores ≡ task.cost
  pub lack : (vcpu : ℕ) → (IsPlaced homes vcpu → ⊥) → All (LackVcpu vcpu) cores
  pub at_home : (vcpu home : ℕ) → slice_get homes vcpu ≡ Some (Some home)
      → has_piece vcpu (pieces_on cores home) ≡ true
  pub apart : (core other i j : ℕ) (p q : Piece) → slice_get (pieces_on cores core) i ≡ Some p
      → slice_get (pieces_on cores other) j ≡ Some q
      → p.vcpu ≡ q.vcpu → (core ≡ other) ⊎ WindowsApart p q

-- the vCPUs are on these cores with these homes, but for those that are still left over
pub record AreLaidOut (tasks : List (Option Periodic)) (cores : List (List Piece))
    (homes : List (Option ℕ)) (left : List ℕ) : Type 0 where
  pub places : PlacesEach tasks (length cores) (record { core_of = homes; left = left })
  pub allotted : AreAllottedTo tasks homes cores
