-- The left-over vCPUs are split one after the other, each beside the pieces of those before it.
-- Source: the partitioning of M. Vanga, A. Gujarati, B. B. Brandenburg, "Tableau: a high-throughput
-- and predictable VM scheduler for high-density workloads", EuroSys 2018: C=D splitting of the vCPUs
-- that worst-fit decreasing placement leaves over.
use Rattle.std.specs.Prelude.{◌≡◌, ℕ, List, [], ◌∷◌, ◌++◌, Option, Some, slice_get, slice_set}
use Rattle.tab_core.specs.declared.over.Over.{Over}
use Rattle.tab_core.specs.declared.periodic.Periodic.{Periodic}
use Rattle.tab_core.specs.declared.piece.Piece.{Piece}
use Rattle.cd_split.specs.Cores.{pieces_on}
use Rattle.cd_split.specs.Splitting.{IsSplit, IsSplitRefused}

-- the cores with further pieces, each after the others of its core
abbrev pub with_pieces : List (List Piece) → List Piece → List (List Piece)
with_pieces cores [] = cores
with_pieces cores (p ∷ ps) = with_pieces (slice_set cores p.core (pieces_on cores p.core ++ p ∷ [])) ps

-- the home of a vCPU that was split: the core of its last piece
abbrev pub home_of : List Piece → ℕ
home_of [] = 0
home_of (p ∷ []) = p.core
home_of (p ∷ q ∷ ps) = home_of (q ∷ ps)

-- splitting gives one vCPU these pieces beside those that are there
pub record GetsSplit (tasks : List (Option Periodic)) (cores : List (List Piece)) (vcpu : ℕ)
    (pieces : List Piece) : Type 0 where
  pub task : Periodic
  pub at : slice_get tasks vcpu ≡ Some (Some task)
  pub splits : IsSplit cores vcpu task pieces

-- the vCPUs are split one after the other, which leads from these cores and homes to those
abbrev pub SplitsEach : List (Option Periodic) → List (List Piece) → List (Option ℕ) → List ℕ
    → List (List Piece) → List (Option ℕ) → Type 0
SplitsEach tasks cores homes [] end homes' = (end ≡ cores) × (homes' ≡ homes)
SplitsEach tasks cores homes (vcpu ∷ left) end homes' =
    (pieces : List Piece) × GetsSplit tasks cores vcpu pieces × SplitsEach tasks (with_pieces cores pieces)
    (slice_set homes vcpu (Some (home_of pieces))) left end homes'

-- of the left-over vCPUs the first that can't be split beside those before it: so many ticks of it
-- are left, and these are the overloaded intervals that they would make on the unused cores
pub record IsFirstStuck (tasks : List (Option Periodic)) (start : List (List Piece))
    (core_of : List (Option ℕ)) (left : List ℕ) (vcpu rest : ℕ) (over : List Over) : Type 0 where
  pub before : List ℕ
  pub after : List ℕ
  pub left_is : left ≡ before ++ vcpu ∷ after
  pub cores : List (List Piece)
  pub homes : List (Option ℕ)
  pub split : SplitsEach tasks start core_of before cores homes
  pub task : Periodic
  pub at : slice_get tasks vcpu ≡ Some (Some task)
  pub refuses : IsSplitRefused cores vcpu task rest over
