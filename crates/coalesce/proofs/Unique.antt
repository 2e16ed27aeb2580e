-- A row has one joined row: there is one leftmost swap, and so one end of the swaps.
use Rattle.std.proofs.Common.{◌≡◌, ℕ, Bool, List, [], ◌∷◌, ◌++◌, ◌<◌, length, get_or, refl, ap, subst, sym, ◌∙◌, arith}
use Rattle.std.proofs.lemmas.List.{ext_get_or}
use Rattle.std.proofs.lemmas.Option.{slice_get-get_or}
use Rattle.tab_core.specs.declared.piece.Piece.{Piece}
use Rattle.table_form.specs.Planning.Drafts.{pieces_at}
use Rattle.table_form.specs.Tables.Rows.{Row}
use Rattle.table_form.specs.Tables.Segments.{SegmentView, segments_from}
use Rattle.coalesce.specs.Joining.{AreJoined, CanSwap, IsJoined, NoSwap, may_have_more, SwapsTo, filled, swapped}
use Rattle.coalesce.specs.Joining.SwapsTo.{Again, Done}
use Rattle.table_form.proofs.SegmentLemmas.{same_row}

-- what holds of a row holds of the rest of it
no_swap_behind : (pieces : List Piece) (sliver : ℕ) (w : SegmentView) (ws : List SegmentView)
    → NoSwap pieces sliver (w ∷ ws)
    → NoSwap pieces sliver ws
no_swap_behind pieces sliver w ws quiet before after x y z is can =
    quiet (w ∷ before) after x y z (ap (λ ts. w ∷ ts) is) can

-- no swap is further left than the leftmost
none_earlier : (pieces : List Piece) (sliver : ℕ) (x y z : SegmentView) (after : List SegmentView)
    (w : SegmentView)
    (ws : List SegmentView) (x' y' z' : SegmentView) (after' : List SegmentView)
    → x ∷ y ∷ z ∷ after ≡ w ∷ (ws ++ x' ∷ y' ∷ z' ∷ after') → CanSwap pieces sliver x y z
    → NoSwap pieces sliver
    (w ∷ (ws ++ x' ∷ y' ∷ [])) → ⊥
none_earlier pieces sliver x y z after w [] x' y' z' after' same can quiet =
    quiet [] [] x y z (cc) can
none_earlier pieces sliver x y z after w (v ∷ []) x' y' z' after' same can quiet =
    quiet [] (y' ∷ []) x y z (cc) can
none_earlier pieces sliver x y z after w (v ∷ u ∷ ws) x' y' z' after' same can quiet =
    quiet [] (ws ++ x' ∷ y' ∷ []) x y z (cc) can

-- two leftmost swaps of a row are at one place
same_swap : (pieces : List Piece) (sliver : ℕ) (before : List SegmentView) (x y z : SegmentView)
    (after before' : List SegmentView) (x' y' z' : SegmentView) (after' : List SegmentView)
    → before ++ x ∷ y ∷ z ∷ after ≡ before' ++ x' ∷ y' ∷ z' ∷ after' → CanSwap pieces sliver x y z
    → CanSwap pieces sliver x' y' z'
    → NoSwap pieces sliver (before ++ x ∷ y ∷ []) → NoSwap pieces sliver (before' ++ x' ∷ y' ∷ [])
    → before ++ swapped x y z after ≡ before' ++ swapped x' y' z' after'
same_swap pieces sliver [] x y z after [] x' y' z' after' same can can' quiet quiet' =
    let a : x ≡ x' = cc in
    let b : y ≡ y' = cc in
    let c : z ≡ z' = cc in
    let d : after ≡ after' = cc in
    ap (λ s. swapped s y z after) a ∙ ap (λ s. swapped x' s z after) b
    ∙ ap (λ s. swapped x' y' s after) c ∙ ap
    (swapped x' y' z') d
same_swap pieces sliver [] x y z after (w ∷ ws) x' y' z' after' same can can' quiet quiet' =
    absurd (none_earlier pieces sliver x y z after w ws x' y' z' after' same can quiet')
same_swap pieces sliver (w ∷ ws) x y z after [] x' y' z' after' same can can' quiet quiet' =
    absurd (none_earlier pieces sliver x' y' z' after' w ws x y z after (sym same) can' quiet)
same_swap pieces sliver (w ∷ ws) x y z after (w' ∷ ws') x' y' z' after' same can can' quiet quiet' =
    let here : w ≡ w' = cc in
    let there : ws ++ x ∷ y ∷ z ∷ after ≡ ws' ++ x' ∷ y' ∷ z' ∷ after' = cc in
    let rest = same_swap pieces sliver ws x y z after ws' x' y' z' after' there can can'
    (no_swap_behind pieces sliver w (ws ++ x ∷ y ∷ []) quiet)
    (no_swap_behind pieces sliver w' (ws' ++ x' ∷ y' ∷ []) quiet') in
    ap (λ s. s ∷ (ws ++ swapped x y z after)) here ∙ ap (λ ss. w' ∷ ss) rest

-- the swaps of a row end in one row
swaps_unique : (pieces : List Piece) (sliver : ℕ) (a b row : List SegmentView) → SwapsTo pieces sliver a row
    → SwapsTo pieces sliver b row → a ≡ b
swaps_unique pieces sliver a b row (Done quiet) (Done quiet') = refl
swaps_unique pieces sliver a b row (Done quiet) (Again q before after x y z is can left swaps) =
    absurd (quiet before after x y z is can)
swaps_unique pieces sliver a b row (Again r before after x y z is can left swaps) (Done quiet) =
    absurd (quiet before after x y z is can)
swaps_unique pieces sliver a b row (Again r before after x y z is can left swaps)
    (Again q before' after' x' y' z' is' can' left' swaps') =
    let same = same_swap pieces sliver before' x' y' z' after' before x y z after (sym is' ∙ is)
    can' can left' left in
    swaps_unique pieces sliver a b (before ++ swapped x y z after) swaps
    (subst (SwapsTo pieces sliver b) same swaps')

-- the joined row is one
pub joined_unique : (pieces : List Piece) (may_grow : ℕ → Bool) (sliver : ℕ) (row a b : Row)
    → IsJoined pieces may_grow sliver row a → IsJoined pieces may_grow sliver row b → a ≡ b
joined_unique pieces may_grow sliver row a b s t =
    let same = swaps_unique pieces sliver s.end t.end (segments_from 0 row) s.swaps t.swaps in
    same_row a b (s.fills ∙ ap (filled may_grow sliver) same ∙ sym t.fills)

-- the rows of all cores are determined
pub rows_unique : (pieces : List Piece) (capped : List Bool) (sliver : ℕ) (rows a b : List Row) → AreJoined pieces capped sliver rows a
    → AreJoined pieces capped sliver rows b → a ≡ b
rows_unique pieces capped sliver rows a b s t = ext_get_or [] a b (s.size ∙ sym t.size) (λ core lt. (
    let lt_row : core < length rows = omega (arith, s.size, lt) in
    let lt_b : core < length b = omega (arith, t.size, lt_row) in
    let row = get_or rows core [] in
    let at = slice_get-get_or rows core [] lt_row in
    joined_unique (pieces_at pieces core) (may_have_more pieces capped) sliver row (get_or a core [])
    (get_or b core [])
    (s.each core row (get_or a core []) at (slice_get-get_or a core [] lt))
    (t.each core row (get_or b core []) at (slice_get-get_or b core [] lt_b))))
