-- The plan that a host gets, and the first vCPU without room where it gets none. It may begin with
-- homes from an earlier plan, at which vCPUs stay where they can.
-- Source: the planner of M. Vanga, A. Gujarati, B. B. Brandenburg, "Tableau: a high-throughput and
-- predictable VM scheduler for high-density workloads", EuroSys 2018, in ticks, periods and ties of
-- this project. That vCPUs stay is this project's.
use Rattle.std.specs.Prelude.{◌≡◌, ℕ, List, [], ◌∷◌, ◌++◌, Option, map}
use Rattle.tab_core.specs.Vcpus.{capped_set}
use Rattle.tab_core.specs.declared.host.Host.{Host}
use Rattle.tab_core.specs.declared.over.Over.{Over}
use Rattle.tab_core.specs.declared.periodic.Periodic.{Periodic}
use Rattle.tab_core.specs.declared.piece.Piece.{Piece}
use Rattle.table_form.specs.Planning.EdfRow.{edf_row}
use Rattle.table_form.specs.Planning.Jobs.{jobs_of}
use Rattle.table_form.specs.Tables.Plans.{PlanView}
use Rattle.worst_fit.specs.declared.placed.Placed.{Placed}
use Rattle.coalesce.specs.Joining.{AreJoined}
use Rattle.plan_make.specs.Layout.{IsStayingLayout, IsStayingStart}
use Rattle.plan_make.specs.SplitInTurn.{IsFirstStuck}

-- the pieces of all cores in one list, core by core
abbrev pub all_pieces : List (List Piece) → List Piece
all_pieces [] = []
all_pieces (ps ∷ cores) = ps ++ all_pieces cores

-- the host's plan from these old homes: its vCPUs are laid out, each core's row is made by earliest
-- deadline first, and its slivers are joined, of which the host's capped vCPUs get none
pub record IsStayingPlan (old_homes : List (Option ℕ)) (host : Host) (plan : PlanView) : Type 0 where
  pub cores : List (List Piece)
  pub layout : IsStayingLayout old_homes host plan.tasks cores plan.homes
  pub capped : plan.capped ≡ capped_set host.vcpus
  pub joined : AreJoined (all_pieces cores) plan.capped host.sliver
      (map (λ pieces. edf_row (jobs_of pieces)) cores) plan.rows

-- the host's plan, where no vCPU has an old home
abbrev pub IsPlanned : Host → PlanView → Type 0
IsPlanned = IsStayingPlan []

-- the host's first left-over vCPU that can't be split beside those that stay at these old homes: so
-- many ticks of it are left, and these are the overloaded intervals that they would make on the
-- unused cores
pub record IsFirstStayingWithoutRoom (old_homes : List (Option ℕ)) (host : Host) (vcpu rest : ℕ)
    (over : List Over) : Type 0 where
  pub tasks : List (Option Periodic)
  pub placed : Placed
  pub start : List (List Piece)
  pub is_start : IsStayingStart old_homes host tasks placed start
  pub stuck : IsFirstStuck tasks start placed.core_of placed.left vcpu rest over

-- the first, where no vCPU has an old home
abbrev pub IsFirstWithoutRoom : Host → ℕ → ℕ → List Over → Type 0
IsFirstWithoutRoom = IsFirstStayingWithoutRoom []
