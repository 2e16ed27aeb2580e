-- What a plan text stands for: a home for each task, and rows of segments.
use Rattle.std.specs.Prelude.{◌≡◌, ℕ, ◌<◌, ◌^◌, IsTrue, true, List, length, Option}
use Rattle.std.specs.List.{All}
use Rattle.std.specs.Option.{ForSome}
use Rattle.tab_core.specs.declared.periodic.Periodic.{Periodic}
use Rattle.tab_words.specs.Texts.{Line, worded}
use Rattle.table_form.specs.declared.raw_tables.RawTables.{RawTables}
use Rattle.table_form.specs.declared.segment.Segment.{Segment}
use Rattle.table_form.specs.Tables.Homes.{are_housed}
use Rattle.table_form.specs.Tables.Serves.{has_task}
use Rattle.plan_text.specs.PlanLines.{owner_words, plan_lines}

-- the line of a segment
abbrev pub segment_words : List (List ℕ) → Segment → Line
segment_words names s = owner_words names s.owner s.end

-- a segment that a text may have: its end is below 2^32, and its owner has a task
pub record IsFineSegment (tasks : List (Option Periodic)) (s : Segment) : Type 0 where
  pub small : s.end < 2 ^ 32
  pub owned : ForSome s.owner (λ v. has_task tasks v ≡ true)

-- the rows have only segments that a text may have
abbrev pub AreFineRows : List (Option Periodic) → List (List Segment) → Type 0
AreFineRows tasks rows = All (λ row. All (IsFineSegment tasks) row) rows

-- tables that a text for so many cores and these tasks may stand for: each task has one home below
-- the count of cores, and nobody else has one; there is a row for each core, of such segments
pub record IsFine (cores : ℕ) (tasks : List (Option Periodic)) (raw : RawTables) : Type 0 where
  pub housed : IsTrue (are_housed cores tasks raw.homes)
  pub rows : length raw.rows ≡ cores
  pub segments : AreFineRows tasks raw.rows

-- the lines are the text of these tables
pub record AreLinesOf (names : List (List ℕ)) (cores : ℕ) (tasks : List (Option Periodic)) (lines : List Line)
    (raw : RawTables) : Type 0 where
  pub fine : IsFine cores tasks raw
  pub written : lines ≡ plan_lines (segment_words names) names tasks raw.homes raw.rows

-- the bytes are a text of these tables
abbrev pub IsPlanText : List (List ℕ) → ℕ → List (Option Periodic) → List ℕ → RawTables → Type 0
IsPlanText names cores tasks bytes raw = AreLinesOf names cores tasks (worded bytes) raw

-- the lines are the text of some tables
pub record IsSomePlan (names : List (List ℕ)) (cores : ℕ) (tasks : List (Option Periodic))
    (lines : List Line) : Type 0 where
  pub raw : RawTables
  pub text : AreLinesOf names cores tasks lines raw

-- the bytes are a text of some tables with these rows
pub record IsTextOfRows (names : List (List ℕ)) (cores : ℕ) (tasks : List (Option Periodic)) (bytes : List ℕ)
    (rows : List (List Segment)) : Type 0 where
  pub raw : RawTables
  pub own : raw.rows ≡ rows
  pub text : IsPlanText names cores tasks bytes raw
