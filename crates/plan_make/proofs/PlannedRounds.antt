-- The rows of a plan are a round long.
use Rattle.std.proofs.Common.{◌≡◌, All, List, [], ℕ, Option, length, map, slice_get, Some, option_map, ap, ◌∙◌, inl, inr, arith}
use Rattle.std.proofs.lemmas.List.{length-map}
use Rattle.std.proofs.lemmas.Option.{slice_get-map, slice_get_cases, slice_get_within}
use Rattle.tab_core.specs.declared.TheConstants.{ROUND}
use Rattle.tab_core.specs.declared.host.Host.{Host}
use Rattle.tab_core.specs.declared.piece.Piece.{Piece}
use Rattle.table_form.specs.Planning.EdfRow.{edf_row}
use Rattle.table_form.specs.Planning.Jobs.{jobs_of}
use Rattle.table_form.specs.Tables.Plans.{PlanView}
use Rattle.table_form.specs.Tables.Rows.{Row}
use Rattle.edf_table.proofs.Inside.{length-edf_row}
use Rattle.coalesce.proofs.Lengths.{joined_length}
use Rattle.plan_make.specs.Planned.{IsPlanned, IsStayingPlan}
use Rattle.plan_make.proofs.ListMembers.{all_from_places}

-- each row of a planned host is a round long, since joining keeps the length of the row by EDF
pub staying_rounds : (old_homes : List (Option ℕ)) (host : Host) (plan : PlanView)
    → IsStayingPlan old_homes host plan
    → All (λ (row : Row). length row ≡ ROUND) plan.rows
staying_rounds old_homes host plan is = all_from_places (λ (row : Row). length row ≡ ROUND) plan.rows (λ core new at.
    elim ((slice_get_cases is.cores core).1) [
      | inl (pieces, within, at_pieces, same) ↦
          let row = edf_row (jobs_of pieces) in
          let at_row : slice_get (map (λ (ps : List Piece). edf_row (jobs_of ps)) is.cores) core ≡ Some row =
          slice_get-map (λ (ps : List Piece). edf_row (jobs_of ps)) is.cores core
          ∙ ap (option_map (λ (ps : List Piece). edf_row (jobs_of ps))) at_pieces in
          joined_length _ _ host.sliver row new (is.joined.each core row new at_row at)
          ∙ length-edf_row (jobs_of pieces)
      | inr (past, none) ↦ absurd (
          let within = slice_get_within plan.rows core new at in
          let size = length-map is.cores (λ (ps : List Piece). edf_row (jobs_of ps)) in
          let joined = is.joined.size in
          omega arith)
    ])

-- each row of a planned host is a round long where no vCPU has an old home
pub planned_rounds : (host : Host) (plan : PlanView) → IsPlanned host plan
    → All (λ (row : Row). length row ≡ ROUND) plan.rows
planned_rounds = staying_rounds []
