-- The vCPUs that are on one core in one piece each, as worst fit has placed them.
use Rattle.std.specs.Prelude.{◌≡◌, ℕ, ◌+◌, ◌<◌, ◌==◌, if◌then◌else◌, List, [], ◌∷◌, ◌++◌, All, Option, None, Some, length, map}
use Rattle.tab_core.specs.declared.periodic.Periodic.{Periodic}
use Rattle.tab_core.specs.declared.piece.Piece.{Piece}
use Rattle.table_form.specs.Planning.Jobs.{Subtask, subtask_of}
use Rattle.cd_split.specs.Cores.{pieces_on}

-- all of a vCPU, in each of its periods
abbrev pub unsplit : ℕ → Periodic → Subtask
unsplit vcpu task = record { vcpu = vcpu; cost = task.cost; from = 0; to = task.period; period = task.period }

-- all of the vCPU, if it has a task and its home is this core
abbrev pub unsplit_at : ℕ → ℕ → Option Periodic → Option ℕ → List Subtask
unsplit_at core vcpu None home = []
unsplit_at core vcpu (Some task) None = []
unsplit_at core vcpu (Some task) (Some home) = if home == core then unsplit vcpu task ∷ [] else []

-- the vCPUs that are unsplit on a core, by rising number, of which the first is `vcpu`
unfoldable pub unsplit_from : ℕ → ℕ → List (Option Periodic) → List (Option ℕ) → List Subtask
unsplit_from core vcpu [] homes = []
unsplit_from core vcpu (task ∷ tasks) [] = []
unsplit_from core vcpu (task ∷ tasks) (home ∷ homes) =
    unsplit_at core vcpu task home ++ unsplit_from core (vcpu + 1) tasks homes

-- each core has the pieces of the vCPUs that are unsplit there, and no other
pub record StandUnsplit (tasks : List (Option Periodic)) (core_of : List (Option ℕ)) (count : ℕ)
    (cores : List (List Piece)) : Type 0 where
  pub size : length cores ≡ count
  pub own : (core : ℕ) → All (λ p. p.core ≡ core) (pieces_on cores core)
  pub stand : (core : ℕ) → core < count
      → map subtask_of (pieces_on cores core) ≡ unsplit_from core 0 tasks core_of
