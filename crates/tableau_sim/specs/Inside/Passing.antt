-- A plan text whose rows are checked as they are read.
use Rattle.std.specs.Prelude.{◌≡◌, ℕ, List, Option, length}
use Rattle.tab_core.specs.declared.host.Host.{Host}
use Rattle.tab_core.specs.declared.periodic.Periodic.{Periodic}
use Rattle.table_form.specs.declared.raw_tables.RawTables.{RawTables}
use Rattle.table_form.specs.declared.segment.Segment.{Segment}
use Rattle.vcpu_names.specs.Names.{names_of}
use Rattle.plan_text.specs.Meaning.{IsPlanText}
use Rattle.plan_text.specs.RowReading.{HasRead, RowsLeft}
use Rattle.table_check.specs.Faults.{AreGood}
use Rattle.table_check.specs.Seen.{HaveSeen, Seen}

-- the text is that of good tables for this host, whose vCPUs have these tasks
pub record IsGoodText (host : Host) (tasks : List (Option Periodic)) (text : List ℕ) : Type 0 where
  pub raw : RawTables
  pub is_text : IsPlanText (names_of host.vcpus) host.cores tasks text raw
  pub good : AreGood tasks raw.rows

-- the rows of so many cores were read, and seen by the checks
pub record HavePassed (host : Host) (tasks : List (Option Periodic)) (text : List ℕ) (core : ℕ)
    (reader : RowsLeft) (checks : Seen) : Type 0 where
  pub rows : List (List Segment)
  pub many : length rows ≡ core
  pub read : HasRead (names_of host.vcpus) host.cores tasks text rows reader
  pub seen : HaveSeen tasks rows checks
