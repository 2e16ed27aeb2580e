-- Where the vCPUs of a host are: placed unsplit by worst fit, and then the left-over ones split.
-- Some may have homes from an earlier plan, at which they stay where they can.
-- Source: the partitioning of M. Vanga, A. Gujarati, B. B. Brandenburg, "Tableau: a high-throughput
-- and predictable VM scheduler for high-density workloads", EuroSys 2018. That vCPUs stay is this
-- project's.
use Rattle.std.specs.Prelude.{ℕ, List, [], Option}
use Rattle.tab_core.specs.declared.host.Host.{Host}
use Rattle.tab_core.specs.declared.periodic.Periodic.{Periodic}
use Rattle.tab_core.specs.declared.piece.Piece.{Piece}
use Rattle.period_choice.specs.Tasks.{AreTasksOf}
use Rattle.worst_fit.specs.Placement.{IsStayingPlacement}
use Rattle.worst_fit.specs.declared.placed.Placed.{Placed}
use Rattle.plan_make.specs.SplitInTurn.{SplitsEach}
use Rattle.plan_make.specs.Unsplit.{StandUnsplit}

-- the tasks of a host, and where worst fit has placed them beside those that stay at these old homes
pub record IsStayingStart (old_homes : List (Option ℕ)) (host : Host) (tasks : List (Option Periodic))
    (placed : Placed) (cores : List (List Piece)) : Type 0 where
  pub tasks_are : AreTasksOf host tasks
  pub placement : IsStayingPlacement old_homes tasks host.cores placed
  pub stand : StandUnsplit tasks placed.core_of host.cores cores

-- from there the left-over vCPUs are split in turn: to these pieces on each core and these homes
pub record IsStayingLayout (old_homes : List (Option ℕ)) (host : Host) (tasks : List (Option Periodic))
    (cores : List (List Piece)) (homes : List (Option ℕ)) : Type 0 where
  pub placed : Placed
  pub start : List (List Piece)
  pub is_start : IsStayingStart old_homes host tasks placed start
  pub split : SplitsEach tasks start placed.core_of placed.left cores homes

-- where no vCPU has an old home
abbrev pub IsLayout : Host → List (Option Periodic) → List (List Piece) → List (Option ℕ) → Type 0
IsLayout = IsStayingLayout []
