-- The rules of splitting, from what the search for a core and for a cut finds.
use Rattle.std.proofs.Common.{ℕ, List, [], ◌∷◌, Option, Some, None, subst, sym}
use Rattle.std.specs.List.{AllZip}
use Rattle.tab_core.specs.declared.over.Over.{Over}
use Rattle.tab_core.specs.declared.piece.Piece.{Piece}
use Rattle.table_form.specs.Planning.Jobs.{Subtask}
use Rattle.cd_split.specs.Inside.Search.{IsCutPiece, IsHomePiece, IsHomeless, IsUncut}
use Rattle.cd_split.specs.Splitting.{IsOverloadWith, Left, Splits, left_after_cut, rest_of, subtask_on_core, unused_without}
use Rattle.cd_split.specs.Splitting.Splits.{AtHome, Cut, NoRoom}

-- a home ends the splitting
pub splits_at_home : (cores : List (List Piece)) (left : Left) (unused : List ℕ) (piece : Piece)
    → IsHomePiece cores left unused piece → Splits cores left unused (subtask_on_core piece ∷ []) None
splits_at_home cores left unused piece home =
    subst (λ (s : Subtask). Splits cores left unused ((piece.core, s) ∷ []) None) (sym home.shape)
    (AtHome left unused piece.core home.first)

-- what comes after a cut comes with it
pub splits_after_cut : (cores : List (List Piece)) (left : Left) (unused : List ℕ) (piece : Piece)
    (subtasks : List (ℕ × Subtask)) (refused : Option (ℕ × List Over))
    → IsHomeless cores left unused → IsCutPiece cores left unused piece →
    Splits cores (left_after_cut left piece.cost) (unused_without piece.core unused) subtasks refused
    → Splits cores left unused (subtask_on_core piece ∷ subtasks) refused
splits_after_cut cores left unused piece subtasks refused homeless cut next =
    subst (λ (s : Subtask). Splits cores left unused ((piece.core, s) ∷ subtasks) refused) (sym cut.shape)
    (Cut left unused piece.core piece.cost subtasks refused homeless cut.two_unused cut.first cut.greatest next)

-- where neither search finds a core, splitting ends
pub splits_no_more : (cores : List (List Piece)) (left : Left) (unused : List ℕ) (over : List Over)
    → IsHomeless cores left unused → IsUncut cores left unused →
    AllZip (IsOverloadWith cores (rest_of left)) unused over
    → Splits cores left unused [] (Some (left.rest, over))
splits_no_more cores left unused over homeless uncut overs = NoRoom left unused over homeless uncut overs
