use Rattle.std.proofs.Common.{◌≡◌, ◌≢◌, ℕ, ◌<◌, Some}
use Rattle.table_form.specs.Tables.Homes.{IsHome}
use Rattle.table_form.specs.Tables.Serves.{owner_at}
use Rattle.run_limit.specs.Inside.Walks.{IsSeen}
use Rattle.run_limit.proofs.visits.visits_of.Given as goal

-- the rows so far are marked
abbrev pub invariant-loop-row : goal.invariant-loop-row
invariant-loop-row l = (c d v x : ℕ) → d < l.row → c ≢ d → IsHome l.plan.tables.homes c v
    → owner_at l.plan.tables.rows d x ≡ Some v → IsSeen l.visits c d
