-- The row that the two passes make is the joined row.
use Rattle.std.proofs.Common.{◌≡◌, ℕ, zero, suc, ◌+◌, ◌-◌, ◌≤◌, ◌⊎◌, Bool, ◌&&◌, ltb, cond, List, [], ◌∷◌, ◌++◌, length, slice_get, Option, Some, None, refl, ap, subst, sym, ◌∙◌, inl, inr, arith, length-append}
use Rattle.std.proofs.lemmas.Option.{same_Some}
use Rattle.tab_core.specs.declared.piece.Piece.{Piece}
use Rattle.table_form.specs.Planning.Drafts.{pieces_at}
use Rattle.table_form.specs.Tables.Rows.{Row}
use Rattle.table_form.specs.Tables.Segments.{SegmentView, put_front, segments_from}
use Rattle.coalesce.specs.Joining.{AreJoined, IsJoined, filled_after, given_sliver, is_given, may_have_more}
use Rattle.coalesce.proofs.Filled.{filled_after_length}
use Rattle.coalesce.proofs.Swapping.{swaps_shorten}

-- only whether each vCPU may grow counts
same_given : (f g : ℕ → Bool) (sliver : ℕ) (x y : SegmentView) → ((v : ℕ) → f v ≡ g v)
    → given_sliver f sliver x y ≡ given_sliver g sliver x y
same_given f g sliver x y same = ap (λ b. cond b (record { owner = x.owner; end = y.end }) y)
    (same_test x.owner y.owner (y.end - x.end))
  where
    same_test : (o u : Option ℕ) (ticks : ℕ) → is_given f sliver o u ticks ≡ is_given g sliver o u ticks
    same_test None u ticks = refl
    same_test (Some v) (Some w) ticks = refl
    same_test (Some v) None ticks = ap (λ b. ltb ticks sliver && b) (same v)

-- sets that agree on each vCPU fill alike
same_filled : (f g : ℕ → Bool) (sliver : ℕ) (x : SegmentView) (ts : List SegmentView) → ((v : ℕ) → f v ≡ g v)
    → filled_after f sliver x ts ≡ filled_after g sliver x ts
same_filled f g sliver x [] same = refl
same_filled f g sliver x (y ∷ ts) same =
    ap (λ s. put_front s (filled_after f sliver y ts)) (same_given f g sliver x y same) ∙ ap
    (put_front (given_sliver g sliver x y)) (same_filled f g sliver y ts same)

-- which lets the code's set stand for the count of pieces
pub joined_by : (pieces : List Piece) (f g : ℕ → Bool) (sliver : ℕ) (row joined : Row) → ((v : ℕ) → f v ≡ g v)
    → IsJoined pieces f sliver row joined → IsJoined pieces g sliver row joined
joined_by pieces f g sliver row joined same is = record {
  end = is.end;
  swaps = is.swaps;
  fills = is.fills
      ∙ same_filled f g sliver _ is.end same;
}

-- the rows of the first cores are joined
pub record JoinedSoFar (pieces : List Piece) (capped : List Bool) (sliver : ℕ) (rows : List Row)
    (core : ℕ) (joined : List Row) : Type 0 where
  pub size : length joined ≡ core
  pub each : (c : ℕ) (row new : Row) → slice_get rows c ≡ Some row → slice_get joined c ≡ Some new → IsJoined
      (pieces_at pieces c) (may_have_more pieces capped) sliver row new

-- one row more
pub one_joined : (pieces : List Piece) (capped : List Bool) (sliver : ℕ) (rows : List Row) (core : ℕ) (joined : List Row)
    (row new : Row)
    → slice_get rows core ≡ Some row
    → IsJoined (pieces_at pieces core) (may_have_more pieces capped) sliver row new
    → JoinedSoFar pieces capped sliver rows core joined
    → JoinedSoFar pieces capped sliver rows (core + 1) (joined ++ new ∷ [])
one_joined pieces capped sliver rows core joined row new at is so_far = record {
  size = omega (arith, length-append joined (new ∷ []), so_far.size);
  each = λ c row' new' row_at new_at. elim (last_cases joined c new' new_at) [
    | inl old ↦ so_far.each c row' new' row_at old
    | inr last ↦
        let here : c ≡ core = last.0 ∙ so_far.size in
        let same_row : row ≡ row' = same_Some row row' (sym at ∙ ap (slice_get rows) (sym here) ∙ row_at) in
        subst (λ r. IsJoined (pieces_at pieces c) (may_have_more pieces capped) sliver r new') same_row
        (subst (λ n. IsJoined (pieces_at pieces c) (may_have_more pieces capped) sliver row n) last.1
        (subst (λ k. IsJoined (pieces_at pieces k) (may_have_more pieces capped) sliver row new) (sym here) is))
  ];
}
  where
    last_cases : (xs : List Row) (c : ℕ) (y : Row) → slice_get (xs ++ new ∷ []) c ≡ Some y →
        (slice_get xs c ≡ Some y) ⊎ ((c ≡ length xs) × (new ≡ y))
    last_cases [] zero y at = inr (refl, same_Some new y at)
    last_cases [] (suc c) y at = absurd cc
    last_cases (x ∷ xs) zero y at = inl at
    last_cases (x ∷ xs) (suc c) y at = elim (last_cases xs c y at) [
      | inl old ↦ inl old
      | inr last ↦ inr
          (ap suc last.0, last.1)
    ]

-- no row has more segments than before
pub no_more_segments : (pieces : List Piece) (may_grow : ℕ → Bool) (sliver : ℕ) (row joined : Row)
    → IsJoined pieces may_grow sliver row joined
    → length (segments_from 0 joined) ≤ length (segments_from 0 row)
no_more_segments pieces may_grow sliver row joined is =
    omega (
      arith,
      ap length is.fills,
      filled_after_length may_grow sliver
          (record { owner = None; end = 0 }) is.end,
      swaps_shorten pieces sliver is.end (segments_from 0 row) is.swaps,
    )

-- rows that equal joined rows have no more segments than before
pub joined_as : (pieces pieces' : List Piece) (capped capped' : List Bool) (sliver : ℕ)
    (rows rows' joined joined' : List Row)
    → pieces' ≡ pieces → capped' ≡ capped
    → rows' ≡ rows → joined ≡ joined' → AreJoined pieces' capped' sliver rows' joined'
    → AreJoined pieces capped sliver rows joined
joined_as pieces pieces' capped capped' sliver rows rows' joined joined' of_pieces of_capped of_rows of_joined
    are =
    subst (λ ps. AreJoined ps capped sliver rows joined) of_pieces
    (subst (λ set. AreJoined pieces' set sliver rows joined) of_capped
    (subst (λ rs. AreJoined pieces' capped' sliver rs joined) of_rows
    (subst (AreJoined pieces' capped' sliver rows') (sym of_joined) are)))
