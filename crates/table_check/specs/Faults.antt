-- Which tables are good, and the first fault of those that aren't: shapes come first, then clashes,
-- then shortages.
use Rattle.std.specs.Prelude.{List, Option}
use Rattle.tab_core.specs.declared.periodic.Periodic.{Periodic}
use Rattle.table_form.specs.Tables.Serves.{Apart, Serves}
use Rattle.table_form.specs.declared.segment.Segment.{Segment}
use Rattle.table_check.specs.Clashes.{IsFirstClash}
use Rattle.table_check.specs.Shapes.{HaveGoodShapes, IsFirstBadShape, rows_of}
use Rattle.table_check.specs.Shortages.{IsFirstShort}
use Rattle.table_check.specs.declared.fault.CheckFault.{CheckFault}
use Rattle.table_check.specs.declared.fault.CheckFault.TheVariants.{BadShape, Twice, Short, NoMemory}

-- the segments make rows that give each task its cost in each of its periods and have each vCPU on
-- one core at a time
pub record AreGood (tasks : List (Option Periodic)) (raw : List (List Segment)) : Type 0 where
  pub shapes : HaveGoodShapes raw
  pub apart : Apart (rows_of raw)
  pub serves : Serves tasks (rows_of raw)

-- the first fault of the tables
abbrev pub HasCheckFault : List (Option Periodic) → List (List Segment) → CheckFault → Type 0
HasCheckFault tasks raw (BadShape core place) = IsFirstBadShape raw core place
HasCheckFault tasks raw (Twice v tick core other) = HaveGoodShapes raw
    × IsFirstClash (rows_of raw) v tick core other
HasCheckFault tasks raw (Short v period_no got cost) =
    HaveGoodShapes raw × Apart (rows_of raw) × IsFirstShort tasks (rows_of raw) v period_no got cost
HasCheckFault tasks raw NoMemory = ⊥
