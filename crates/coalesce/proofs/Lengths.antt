-- A joined row has as many cells as the row that was joined.
use Rattle.std.proofs.Common.{◌≡◌, ℕ, Bool, List, [], ◌∷◌, length, subst, sym, ◌∙◌, arith}
use Rattle.tab_core.specs.declared.piece.Piece.{Piece}
use Rattle.table_form.specs.Tables.Rows.{Row}
use Rattle.table_form.specs.Tables.Segments.{AreMaximal, SegmentView, segments_from}
use Rattle.coalesce.specs.Joining.{IsJoined}
use Rattle.coalesce.proofs.Filled.{filled_maximal}
use Rattle.coalesce.proofs.Swapping.{swaps_keep}
use Rattle.table_form.proofs.SegmentLemmas.{maximal_of_row}

-- maximal segments have one end, which measures both rows
one_end : (start : ℕ) (ts : List SegmentView) (a b : ℕ) → AreMaximal start ts a → AreMaximal start ts b
    → a ≡ b
one_end start [] a b of_a of_b = sym of_a ∙ of_b
one_end start (t ∷ ts) a b of_a of_b = one_end t.end ts a b of_a.2 of_b.2

-- a plan's rows are whole, since the rows of a draft are
pub joined_length : (pieces : List Piece) (may_grow : ℕ → Bool) (sliver : ℕ) (row joined : Row)
    → IsJoined pieces may_grow sliver row joined → length joined ≡ length row
joined_length pieces may_grow sliver row joined is =
    let first = maximal_of_row 0 row (length row) (omega arith) in
    let swapped = swaps_keep pieces sliver 0 (length row) is.end (segments_from 0 row) is.swaps first in
    let filled = filled_maximal may_grow sliver is.end (length row) swapped in
    one_end 0 (segments_from 0 joined) (length joined) (length row)
    (maximal_of_row 0 joined (length joined) (omega arith))
    (subst (λ ts. AreMaximal 0 ts (length row)) (sym is.fills) filled)
