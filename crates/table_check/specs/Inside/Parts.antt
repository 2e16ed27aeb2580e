-- What each part of the check finds: the first bad shape, and the first shortage.
use Rattle.std.specs.Prelude.{◌≡◌, ℕ, List, Option, Some, None}
use Rattle.tab_core.specs.declared.periodic.Periodic.{Periodic}
use Rattle.table_form.specs.Tables.Rows.{Row}
use Rattle.table_form.specs.Tables.Serves.{Serves}
use Rattle.table_form.specs.declared.segment.Segment.{Segment}
use Rattle.table_check.specs.Shapes.{IsFirstBadShape}
use Rattle.table_check.specs.Shortages.{IsFirstShort}
use Rattle.table_check.specs.declared.fault.CheckFault.{CheckFault}
use Rattle.table_check.specs.declared.fault.CheckFault.TheVariants.{BadShape}
use Rattle.table_check.specs.declared.shortage.Shortage.{Shortage}

-- the fault is that the segments of some core make no row, and tells the lowest such core
abbrev pub IsShapeFault : List (List Segment) → CheckFault → Type 0
IsShapeFault raw fault = (core : ℕ) × (place : ℕ) × (fault ≡ BadShape core place) × IsFirstBadShape raw core place

-- the first shortage of the rows, or that they serve each task
abbrev pub IsShortageOf : List (Option Periodic) → List Row → Option Shortage → Type 0
IsShortageOf tasks rows None = Serves tasks rows
IsShortageOf tasks rows (Some short) = IsFirstShort tasks rows short.vcpu short.period_no short.got short.cost
