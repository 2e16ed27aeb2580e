-- Segments of which no three may be swapped: longer ones may not either, so one pass finds each
-- leftmost swap.
use Rattle.std.proofs.Common.{◌≡◌, ℕ, ◌≤◌, List, [], ◌∷◌, ◌++◌, refl, ap, subst, sym, ◌∙◌, inl, inr, arith, append_assoc}
use Rattle.std.proofs.lemmas.List.{same_from_push}
use Rattle.tab_core.specs.declared.piece.Piece.{Piece}
use Rattle.table_form.specs.Tables.Segments.{SegmentView, put_front, put_before}
use Rattle.coalesce.specs.Joining.{CanSwap, NoSwap}
use Rattle.table_form.proofs.AppendingLemmas.{before_last, last_of}
use Rattle.table_form.proofs.SegmentLemmas.{front_cases, front_joins, front_stays, same_first}

-- the second is the same or longer, and ends no earlier
record Longer (t t' : SegmentView) : Type 0 where
  same : t'.owner ≡ t.owner
  later : t.end ≤ t'.end

-- a segment that stays as it is
itself : (t : SegmentView) → Longer t t
itself t = record { same = refl; later = omega arith }

-- what may be swapped with longer segments may be swapped with shorter ones
shorter_swap : (pieces : List Piece) (sliver : ℕ) (x y y' z z' : SegmentView) → Longer y y' → Longer z z'
    → CanSwap pieces sliver x y' z' → CanSwap pieces sliver x y z
shorter_swap pieces sliver x y y' z z' of_y of_z can = record {
  first = can.first;
  second = can.second;
  first_owns = can.first_owns;
  second_owns = sym of_y.same ∙ can.second_owns;
  first_again = sym of_z.same ∙ can.first_again;
  short = omega (arith, can.short, of_y.later);
  no_begin = λ at k p listed own low high. can.no_begin at k p listed own low
      (omega (arith, high, of_z.later));
  no_end = λ at k p listed own low high. can.no_end at k p listed own low (omega (arith, high, of_z.later));
}

-- no segments have no swap
pub none_quiet : (pieces : List Piece) (sliver : ℕ) → NoSwap pieces sliver []
none_quiet pieces sliver [] after x y z is can = cc
none_quiet pieces sliver (w ∷ before) after x y z is can = cc

-- the first segments of a row without a swap have none
first_quiet : (pieces : List Piece) (sliver : ℕ) (xs ys : List SegmentView)
    → NoSwap pieces sliver (xs ++ ys) → NoSwap pieces sliver xs
first_quiet pieces sliver xs ys quiet before after x y z is can = quiet before (after ++ ys) x y z
    (ap (λ ts. ts ++ ys) is ∙ append_assoc before (x ∷ y ∷ z ∷ after) ys) can

-- one more that can't be swapped with the last two
one_more_quiet : (pieces : List Piece) (sliver : ℕ) (xs : List SegmentView) (s : SegmentView)
    → NoSwap pieces sliver xs
    → ((before : List SegmentView) (x y : SegmentView) → xs ≡ before ++ x ∷ y ∷ []
    → CanSwap pieces sliver x y s → ⊥)
    → NoSwap pieces sliver (xs ++ s ∷ [])
one_more_quiet pieces sliver xs s quiet cannot before [] x y z is can =
    let same = same_from_push xs (before ++ x ∷ y ∷ []) s z
    (is ∙ sym (append_assoc before (x ∷ y ∷ []) (z ∷ []))) in
    cannot before x y same.0 (subst (CanSwap pieces sliver x y) (sym same.1) can)
one_more_quiet pieces sliver xs s quiet cannot before (a ∷ after) x y z is can =
    let last = last_of a after in
    let same = same_from_push xs (before ++ x ∷ y ∷ z ∷ last.0) s last.1
    (is ∙ ap (λ ts. before ++ x ∷ y ∷ z ∷ ts) last.2
    ∙ sym (append_assoc before (x ∷ y ∷ z ∷ last.0) (last.1 ∷ []))) in
    quiet before last.0 x y z same.0 can

-- the last may end later
pub last_grows : (pieces : List Piece) (sliver : ℕ) (xs : List SegmentView) (t t' : SegmentView)
    → t'.owner ≡ t.owner
    → t.end ≤ t'.end
    → NoSwap pieces sliver (xs ++ t ∷ []) → NoSwap pieces sliver (xs ++ t' ∷ [])
last_grows pieces sliver xs t t' same le quiet =
    one_more_quiet pieces sliver xs t' (first_quiet pieces sliver xs (t ∷ []) quiet)
    (λ before x y is can. quiet before [] x y t
    (ap (λ ts. ts ++ t ∷ []) is ∙ append_assoc before (x ∷ y ∷ []) (t ∷ []))
    (shorter_swap pieces sliver x y y t t' (itself y) (record { same = same; later = le }) can))

-- the last two segments may grow as they do after a swap
pub two_grow : (pieces : List Piece) (sliver : ℕ) (xs : List SegmentView) (u u' t t' : SegmentView)
    → u'.owner ≡ u.owner
    → u.end ≤ u'.end → t'.owner ≡ t.owner → t.end ≤ t'.end
    → NoSwap pieces sliver (xs ++ u ∷ t ∷ []) → NoSwap pieces sliver (xs ++ u' ∷ t' ∷ [])
two_grow pieces sliver xs u u' t t' of_u le_u of_t le_t quiet =
    subst (NoSwap pieces sliver) (append_assoc xs (u' ∷ []) (t' ∷ []))
    (one_more_quiet pieces sliver (xs ++ u' ∷ []) t'
    (last_grows pieces sliver xs u u' of_u le_u (first_quiet pieces sliver (xs ++ u ∷ []) (t ∷ [])
    (subst (NoSwap pieces sliver) (sym (append_assoc xs (u ∷ []) (t ∷ []))) quiet))) last)
  where
    last : (before : List SegmentView) (x y : SegmentView) → xs ++ u' ∷ [] ≡ before ++ x ∷ y ∷ []
        → CanSwap pieces sliver x y t' → ⊥
    last before x y is can =
        let same = same_from_push xs (before ++ x ∷ []) u' y
        (is ∙ sym (append_assoc before (x ∷ []) (y ∷ []))) in
        quiet before [] x u t
        (ap (λ ts. ts ++ u ∷ t ∷ []) same.0 ∙ append_assoc before (x ∷ []) (u ∷ t ∷ []))
        (shorter_swap pieces sliver x u u' t t' (record { same = of_u; later = le_u })
        (record { same = of_t; later = le_t })
        (subst (λ s. CanSwap pieces sliver x s t') (sym same.1) can))

-- the next segment is appended, where it can't be swapped with the last two
pub append_quiet : (pieces : List Piece) (sliver : ℕ) (out : List SegmentView) (s : SegmentView)
    → NoSwap pieces sliver out
    → ((before : List SegmentView) (x y : SegmentView) → out ≡ before ++ x ∷ y ∷ []
    → CanSwap pieces sliver x y s → ⊥)
    → ((before : List SegmentView) (t : SegmentView) → out ≡ before ++ t ∷ [] → t.end ≤ s.end)
    → NoSwap pieces sliver (put_before out (s ∷ []))
append_quiet pieces sliver [] s quiet cannot rises = one_more_quiet pieces sliver [] s quiet cannot
append_quiet pieces sliver (o ∷ out) s quiet cannot rises =
    let last = last_of o out in
    subst (λ ts. NoSwap pieces sliver (put_before ts (s ∷ []))) (sym last.2)
    (subst (NoSwap pieces sliver) (sym (before_last last.0 last.1 (s ∷ [])))
    (behind last.0 last.1 last.2))
  where
    behind : (xs : List SegmentView) (t : SegmentView) → o ∷ out ≡ xs ++ t ∷ []
        → NoSwap pieces sliver (xs ++ put_front t (s ∷ []))
    behind xs t is = elim (front_cases t.owner (s ∷ [])) [
      | inr with ↦ (let same = same_first t.owner s [] with in
          subst (λ ts. NoSwap pieces sliver (xs ++ ts)) (sym (front_joins t s [] same))
          (last_grows pieces sliver xs t s (sym same) (rises xs t is) (subst (NoSwap pieces sliver) is quiet)))
      | inl other ↦ subst (λ ts. NoSwap pieces sliver (xs ++ ts)) (sym (front_stays t (s ∷ []) other))
          (subst (NoSwap pieces sliver) (ap (λ ts. ts ++ s ∷ []) is ∙ append_assoc xs (t ∷ []) (s ∷ []))
          (one_more_quiet pieces sliver (o ∷ out) s quiet cannot))
    ]
