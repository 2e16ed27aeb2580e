-- How far the rows of a plan text have been read.
use Rattle.std.specs.Prelude.{◌≡◌, ℕ, List, Option}
use Rattle.tab_core.specs.declared.periodic.Periodic.{Periodic}
use Rattle.table_form.specs.declared.segment.Segment.{Segment}
use Rattle.plan_text.specs.Inside.Reading.{IsReadTo, TextLeft}

-- what a reader of rows has: the names of the vCPUs, their tasks, and the lines that are left
pub record RowsLeft : Type 0 where
  pub names : List (List ℕ)
  pub tasks : List (Option Periodic)
  pub left : TextLeft

-- of the text for these names, cores and tasks the reader has read all up to the end of these rows
pub record HasRead (names : List (List ℕ)) (cores : ℕ) (tasks : List (Option Periodic)) (bytes : List ℕ)
    (rows : List (List Segment)) (reader : RowsLeft) : Type 0 where
  pub own_names : reader.names ≡ names
  pub own_tasks : reader.tasks ≡ tasks
  pub homes : List (Option ℕ)
  pub read : IsReadTo names cores tasks bytes homes rows reader.left
