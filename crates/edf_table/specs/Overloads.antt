-- The overloaded interval that a refusal reports.
use Rattle.std.specs.Prelude.{◌≡◌, ℕ, List, [], ◌∷◌}
use Rattle.tab_core.specs.declared.over.Over.{Over}
use Rattle.tab_core.specs.declared.piece.Piece.{Piece}
use Rattle.table_form.specs.Planning.Jobs.{Job, jobs_of}
use Rattle.table_form.specs.Planning.Demand.{demand_in, IsFirstOverload}
use Rattle.edf_table.specs.declared.fault.EdfFault.{EdfFault}
use Rattle.edf_table.specs.declared.fault.EdfFault.TheVariants.{Miss, NoMemory}

-- the core of pieces that share one: that of the first
abbrev pub core_of : List Piece → ℕ
core_of [] = 0
core_of (p ∷ ps) = p.core

-- the overloaded interval that is reported of a core's jobs: of those of least end the one of
-- greatest begin, with what the jobs inside it cost
pub record IsReportedOverload (core : ℕ) (jobs : List Job) (over : Over) : Type 0 where
  pub on : over.core ≡ core
  pub first : IsFirstOverload jobs over.from over.to
  pub asked : over.demand ≡ demand_in jobs over.from over.to

-- the overloaded interval that is reported of a core's pieces
abbrev pub IsReportedOf : List Piece → Over → Type 0
IsReportedOf pieces over = IsReportedOverload (core_of pieces) (jobs_of pieces) over

-- a miss names that interval; out of memory says nothing of the pieces
abbrev pub IsEdfFault : List Piece → EdfFault → Type 0
IsEdfFault pieces (Miss from to demand) =
    IsReportedOf pieces (record { core = core_of pieces; from = from; to = to; demand = demand })
IsEdfFault pieces NoMemory = Unit {0}
