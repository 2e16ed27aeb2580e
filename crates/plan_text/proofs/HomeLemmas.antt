-- A plan's homes beside its tasks.
use Rattle.std.proofs.Common.{suc, ap, ◌≡◌, ℕ, List, [], ◌∷◌, length, Option, true, refl}
use Rattle.std.proofs.lemmas.Bool.{and_parts}
use Rattle.tab_core.specs.declared.periodic.Periodic.{Periodic}
use Rattle.table_form.specs.Tables.Rows.{Row}
use Rattle.table_form.specs.Tables.Homes.{HaveHomes, are_housed, is_housed}

-- a plan has as many homes as tasks
pub same_count : (count : ℕ) (tasks : List (Option Periodic)) (homes : List (Option ℕ))
    → are_housed count tasks homes ≡ true → length homes ≡ length tasks
same_count count [] [] h = refl
same_count count [] (home ∷ homes) h = absurd (cc)
same_count count (task ∷ tasks) [] h = absurd (cc)
same_count count (task ∷ tasks) (home ∷ homes) h =
    ap suc (same_count count tasks homes
    (and_parts (is_housed count task home) (are_housed count tasks homes) h).1)

-- the writer walks homes and tasks side by side
pub as_many_homes : (tasks : List (Option Periodic)) (homes : List (Option ℕ)) (rows : List Row)
    → HaveHomes tasks homes rows → length homes ≡ length tasks
as_many_homes tasks homes rows h = same_count (length rows) tasks homes h
