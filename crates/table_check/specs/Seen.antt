-- What is seen of rows that are checked as they come, of which none is kept.
use Rattle.std.specs.Prelude.{◌≡◌, ℕ, List, Option}
use Rattle.tab_core.specs.declared.periodic.Periodic.{Periodic}
use Rattle.table_form.specs.Tables.Serves.{Apart}
use Rattle.table_form.specs.declared.segment.Segment.{Segment}
use Rattle.table_check.specs.Inside.Counters.{CountSupply}
use Rattle.table_check.specs.Inside.Marks.{AreMarked}
use Rattle.table_check.specs.Shapes.{HaveGoodShapes, rows_of}

-- what is kept of the rows: marks of the ticks at which each vCPU is in one of them, and counters of
-- what each gets in each of its periods
pub record Seen : Type 0 where
  pub tasks : List (Option Periodic)
  pub marks : List ℕ
  pub counters : List ℕ

-- the rows were seen for these tasks: their shapes are good and no vCPU is on two of them at a time, their
-- ticks are marked, and the counters have what they give
pub record HaveSeen (tasks : List (Option Periodic)) (raw : List (List Segment)) (seen : Seen) : Type 0 where
  pub for_tasks : seen.tasks ≡ tasks
  pub shapes : HaveGoodShapes raw
  pub apart : Apart (rows_of raw)
  pub marked : AreMarked (rows_of raw) seen.marks
  pub counted : CountSupply seen.tasks (rows_of raw) seen.counters
