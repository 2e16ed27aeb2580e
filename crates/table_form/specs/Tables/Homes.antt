-- The homes of vCPUs: the core of each that is admitted.
use Rattle.std.specs.Prelude.{◌≡◌, ℕ, ◌&&◌, Bool, true, false, nat_lt, IsTrue, List, [], ◌∷◌, length, Option, Some, None, slice_get}
use Rattle.tab_core.specs.declared.periodic.Periodic.{Periodic}
use Rattle.table_form.specs.Tables.Rows.{Row}

-- the vCPU's home is the core
abbrev pub IsHome : List (Option ℕ) → ℕ → ℕ → Type 0
IsHome homes core v = slice_get homes v ≡ Some (Some core)

-- a task has a home below the count of rows, and nobody else has one
abbrev pub is_housed : ℕ → Option Periodic → Option ℕ → Bool
is_housed count None None = true
is_housed count None (Some core) = false
is_housed count (Some task) None = false
is_housed count (Some task) (Some core) = nat_lt core count

-- each task has a home below the count of cores, and no other vCPU has one
abbrev pub are_housed : ℕ → List (Option Periodic) → List (Option ℕ) → Bool
are_housed count [] [] = true
are_housed count [] (home ∷ homes) = false
are_housed count (task ∷ tasks) [] = false
are_housed count (task ∷ tasks) (home ∷ homes) = is_housed count task home && are_housed count tasks homes

-- each task has a home among the rows, and no other vCPU has one
abbrev pub HaveHomes : List (Option Periodic) → List (Option ℕ) → List Row → Type 0
HaveHomes tasks homes rows = IsTrue (are_housed (length rows) tasks homes)
