-- The second rule gives idle cells away, and only to vCPUs that may have more and have a cell in the row.
use Rattle.std.proofs.Common.{◌≡◌, ℕ, zero, suc, ◌+◌, ◌-◌, ◌<◌, ◌≤◌, Bool, true, false, cond, ltb, List, [], ◌∷◌, ◌++◌, replicate, take, drop, slice_get, Option, Some, None, refl, ap, subst, sym, ◌∙◌, inl, inr, arith}
use Rattle.std.specs.List.{count_by}
use Rattle.std.proofs.lemmas.Bool.{and_parts, cases_lt, false≢true, ne_eqb}
use Rattle.std.proofs.lemmas.List.{length-replicate}
use Rattle.std.proofs.lemmas.List.Sums.{sum_by-cons}
use Rattle.tab_core.proofs.Lists.{get_front}
use Rattle.table_form.specs.Tables.Rows.{Row}
use Rattle.table_form.specs.Tables.Serves.{cells_within, is_cell_of}
use Rattle.table_form.specs.Tables.Segments.{AreMaximal, SegmentView}
use Rattle.coalesce.specs.Joining.{filled_after, given_sliver, is_given}
use Rattle.coalesce.proofs.Filled.{filled_after_maximal, given_end}
use Rattle.coalesce.proofs.Moved.{get_behind, get_replicate}
use Rattle.table_form.proofs.SegmentLemmas.{cells_of, cells_of-cons, cells_of-nil, cells_of_front}

-- what a cell becomes: it stays, or it was idle and is now of a vCPU that may have more
pub data IsGrown (may_grow : ℕ → Bool) (c d : Option ℕ) : Type 0 where
  Stays : d ≡ c → IsGrown may_grow c d
  Gets : c ≡ None → (v : ℕ) → may_grow v ≡ true → d ≡ Some v → IsGrown may_grow c d

-- only idle cells differ
pub Grows : (ℕ → Bool) → Row → Row → Type 0
Grows may_grow [] [] = Unit {0}
Grows may_grow [] (d ∷ ds) = ⊥
Grows may_grow (c ∷ cs) [] = ⊥
Grows may_grow (c ∷ cs) (d ∷ ds) = IsGrown may_grow c d × Grows may_grow cs ds

-- rows without cells, where inductions end
grows_nil : (may_grow : ℕ → Bool) → Grows may_grow [] []
unfolding Grows
grows_nil may_grow = tt

-- a run whose owner stays, or that was idle, before rows that grow
grows_run : (may_grow : ℕ → Bool) (n : ℕ) (o p : Option ℕ) (cs ds : Row) → IsGrown may_grow o p
    → Grows may_grow cs ds
    → Grows may_grow (replicate n o ++ cs) (replicate n p ++ ds)
unfolding Grows
grows_run may_grow zero o p cs ds same rest = rest
grows_run may_grow (suc n) o p cs ds same rest = (same, grows_run may_grow n o p cs ds same rest)

-- an interval's cells are a part of those after its start
grows_drop : (may_grow : ℕ → Bool) (n : ℕ) (cs ds : Row) → Grows may_grow cs ds
    → Grows may_grow (drop n cs) (drop n ds)
unfolding Grows
grows_drop may_grow zero cs ds g = g
grows_drop may_grow (suc n) [] [] g = tt
grows_drop may_grow (suc n) [] (d ∷ ds) g = absurd g
grows_drop may_grow (suc n) (c ∷ cs) [] g = absurd g
grows_drop may_grow (suc n) (c ∷ cs) (d ∷ ds) g = grows_drop may_grow n cs ds g.1

-- no vCPU loses a cell
count_grows : (may_grow : ℕ → Bool) (v n : ℕ) (cs ds : Row) → Grows may_grow cs ds
    → count_by (λ cell. is_cell_of v cell) (take n cs) ≤ count_by
    (λ cell. is_cell_of v cell) (take n ds)
unfolding Grows
count_grows may_grow v zero cs ds g = omega arith
count_grows may_grow v (suc n) [] [] g = omega arith
count_grows may_grow v (suc n) [] (d ∷ ds) g = absurd g
count_grows may_grow v (suc n) (c ∷ cs) [] g = absurd g
count_grows may_grow v (suc n) (c ∷ cs) (d ∷ ds) g =
    let rest = count_grows may_grow v n cs ds g.1 in
    let one : Option ℕ → ℕ = λ cell. cond (is_cell_of v cell) 1 0 in
    omega (arith, sum_by-cons one c (take n cs), sum_by-cons one d (take n ds), rest, no_less c d g.0)
  where
    no_less : (c d : Option ℕ) → IsGrown may_grow c d
        → cond (is_cell_of v c) 1 0 ≤ cond (is_cell_of v d) 1 0
    no_less c d (Gets idle w may is) =
        let none : ◌≡◌ {A = ℕ} (cond (is_cell_of v c) 1 0) 0 = rw idle refl in omega arith
    no_less c d (Stays same) =
        let e : ◌≡◌ {A = ℕ} (cond (is_cell_of v d) 1 0) (cond (is_cell_of v c) 1 0) = ap {B = ℕ}
        (λ o. cond (is_cell_of v o) 1 0) same in omega arith

-- no vCPU has fewer cells of the filled row in any interval
pub within_grows : (may_grow : ℕ → Bool) (v from to : ℕ) (row joined : Row) → Grows may_grow row joined
    → cells_within v row from to ≤ cells_within v joined from to
unfolding cells_within
within_grows may_grow v from to row joined g = count_grows may_grow v (to - from) (drop from row)
    (drop from joined) (grows_drop may_grow from row joined g)

-- a vCPU that may not have more gets no cell
count_stays : (may_grow : ℕ → Bool) (v n : ℕ) (cs ds : Row) → may_grow v ≡ false → Grows may_grow cs ds
    → count_by (λ cell. is_cell_of v cell) (take n ds) ≡ count_by (λ cell. is_cell_of v cell) (take n cs)
unfolding Grows
count_stays may_grow v zero cs ds no_more g = refl
count_stays may_grow v (suc n) [] [] no_more g = refl
count_stays may_grow v (suc n) [] (d ∷ ds) no_more g = absurd g
count_stays may_grow v (suc n) (c ∷ cs) [] no_more g = absurd g
count_stays may_grow v (suc n) (c ∷ cs) (d ∷ ds) no_more g =
    let rest = count_stays may_grow v n cs ds no_more g.1 in
    let one : Option ℕ → ℕ = λ cell. cond (is_cell_of v cell) 1 0 in
    omega (arith, sum_by-cons one c (take n cs), sum_by-cons one d (take n ds), rest, no_other c d g.0)
  where
    no_other : (c d : Option ℕ) → IsGrown may_grow c d
        → ◌≡◌ {A = ℕ} (cond (is_cell_of v d) 1 0) (cond (is_cell_of v c) 1 0)
    no_other c d (Stays same) = ap {B = ℕ} (λ o. cond (is_cell_of v o) 1 0) same
    no_other c d (Gets idle w may is) =
        rw (idle, is) (ap {B = ℕ} (λ b. cond b 1 0) (ne_eqb v w (λ same. false≢true
        (sym no_more ∙ ap may_grow same ∙ may))))

-- a vCPU that may not have more has as many cells as before in each interval
pub within_stays : (may_grow : ℕ → Bool) (v from to : ℕ) (row joined : Row) → may_grow v ≡ false
    → Grows may_grow row joined → cells_within v joined from to ≡ cells_within v row from to
unfolding cells_within
within_stays may_grow v from to row joined no_more g = count_stays may_grow v (to - from) (drop from row)
    (drop from joined) no_more (grows_drop may_grow from row joined g)

-- what a segment becomes
pub data IsGift (may_grow : ℕ → Bool) (x y : SegmentView) (owner : Option ℕ) : Type 0 where
  Kept : owner ≡ y.owner → IsGift may_grow x y owner
  Gift : (v : ℕ) → x.owner ≡ Some v → y.owner ≡ None → may_grow v ≡ true → owner ≡ x.owner
      → IsGift may_grow x y owner

-- the rule's test as one of the two cases
gift_of : (may_grow : ℕ → Bool) (sliver : ℕ) (x y : SegmentView)
    → IsGift may_grow x y (given_sliver may_grow sliver x y).owner
gift_of may_grow sliver x y = by_test (is_given may_grow sliver x.owner y.owner (y.end - x.end)) refl
  where
    owners : (o u : Option ℕ) → x.owner ≡ o → y.owner ≡ u
        → is_given may_grow sliver o u (y.end - x.end) ≡ true
        → IsGift may_grow x y x.owner
    owners None u of_x of_y holds = absurd (false≢true holds)
    owners (Some v) (Some w) of_x of_y holds = absurd (false≢true holds)
    owners (Some v) None of_x of_y holds = Gift v of_x of_y
        (and_parts (ltb (y.end - x.end) sliver) (may_grow v) holds).1 refl

    by_test : (b : Bool) → is_given may_grow sliver x.owner y.owner (y.end - x.end) ≡ b → IsGift may_grow x y
        (given_sliver may_grow sliver x y).owner
    by_test true holds = rw holds (owners x.owner y.owner refl refl holds)
    by_test false no_ = rw no_ (Kept refl)

-- in both only an idle segment changes its owner
gift_grows : (may_grow : ℕ → Bool) (x y : SegmentView) (owner : Option ℕ) → IsGift may_grow x y owner
    → IsGrown may_grow y.owner owner
gift_grows may_grow x y owner (Kept same) = Stays same
gift_grows may_grow x y owner (Gift v of_x of_y may is) = Gets of_y v may (is ∙ of_x)

-- the cells of the segments after the first
filled_cells : (may_grow : ℕ → Bool) (sliver start : ℕ) (x y : SegmentView) (ts : List SegmentView) (end : ℕ)
    → AreMaximal start (y ∷ ts) end
    → cells_of start (filled_after may_grow sliver x (y ∷ ts)) ≡ replicate (y.end - start)
    (given_sliver may_grow sliver x y).owner ++ cells_of y.end (filled_after may_grow sliver y ts)
filled_cells may_grow sliver start x y ts end m =
    let g = given_sliver may_grow sliver x y in
    let e = given_end may_grow sliver x y in
    let rest = subst (λ n. AreMaximal n (filled_after may_grow sliver y ts) end) (sym e)
    (filled_after_maximal may_grow sliver y.end y ts end m.2) in
    cells_of_front start g (filled_after may_grow sliver y ts) end (omega (arith, e, m.0)) rest ∙ ap
    (λ n. replicate (n - start) g.owner ++ cells_of n (filled_after may_grow sliver y ts)) e

-- the filled row has each vCPU's cells of before
pub filled_grows : (may_grow : ℕ
    → Bool) (sliver start : ℕ) (x : SegmentView) (ts : List SegmentView) (end : ℕ)
    → AreMaximal start ts end
    → Grows may_grow (cells_of start ts) (cells_of start (filled_after may_grow sliver x ts))
filled_grows may_grow sliver start x [] end m =
    subst (λ row. Grows may_grow row row) (sym (cells_of-nil start)) (grows_nil may_grow)
filled_grows may_grow sliver start x (y ∷ ts) end m =
    subst (Grows may_grow (cells_of start (y ∷ ts)))
    (sym (filled_cells may_grow sliver start x y ts end m))
    (subst (λ row. Grows may_grow row (replicate (y.end - start) (given_sliver may_grow sliver x y).owner
    ++ cells_of y.end (filled_after may_grow sliver y ts))) (sym (cells_of-cons start y ts))
    (grows_run may_grow (y.end - start) y.owner (given_sliver may_grow sliver x y).owner (cells_of y.end ts)
    (cells_of y.end (filled_after may_grow sliver y ts))
    (gift_grows may_grow x y (given_sliver may_grow sliver x y).owner (gift_of may_grow sliver x y))
    (filled_grows may_grow sliver y.end y ts end m.2)))

-- a cell after the segment x is as before, or of a vCPU that may grow and has x or a cell
pub data IsGrownCell (may_grow : ℕ → Bool) (owner : Option ℕ) (row : Row) (place v : ℕ) : Type 0 where
  Was : slice_get row place ≡ Some (Some v) → IsGrownCell may_grow owner row place v
  HasBefore : may_grow v ≡ true → owner ≡ Some v → IsGrownCell may_grow owner row place v
  HasCell : may_grow v ≡ true → (other : ℕ) → slice_get row other ≡ Some (Some v)
      → IsGrownCell may_grow owner row place v

-- a cell with an owner has one owner
inside : (o : Option ℕ) (v : ℕ) → ◌≡◌ {A = Option (Option ℕ)} (Some o) (Some (Some v)) → o ≡ Some v
inside o v e = cc

-- where each vCPU's cell of the filled row comes from, for the promise that it keeps to one core
pub grown_cell : (may_grow : ℕ
    → Bool) (sliver start : ℕ) (x : SegmentView) (ts : List SegmentView) (end place v : ℕ)
    → AreMaximal start ts end
    → slice_get (cells_of start (filled_after may_grow sliver x ts)) place ≡ Some (Some v)
    → IsGrownCell may_grow x.owner (cells_of start ts) place v
grown_cell may_grow sliver start x [] end place v m at = Was at
grown_cell may_grow sliver start x (y ∷ ts) end place v m at =
    let n = y.end - start in
    let g = given_sliver may_grow sliver x y in
    let rest = cells_of y.end (filled_after may_grow sliver y ts) in
    let run : Option ℕ → Row = λ o. replicate n o in
    let is = sym (ap (λ row. slice_get row place) (filled_cells may_grow sliver start x y ts end m)) ∙ at in
    let row_is = cells_of-cons start y ts in
    elim (cases_lt place n) [
      | inl here ↦
          let owner = inside g.owner v (sym (get_front (run g.owner) rest place
          (omega (arith, length-replicate n g.owner, here)) ∙ get_replicate n g.owner place here) ∙ is) in
          first_run here owner (gift_of may_grow sliver x y)
      | inr behind ↦
          let later = sym (get_behind (run g.owner) rest place (place - n)
          (omega (arith, length-replicate n g.owner, behind))) ∙ is in
          further behind (grown_cell may_grow sliver y.end y ts end (place - n) v m.2 later)
    ]
  where
    at_run : (i : ℕ) → i < y.end - start → slice_get (cells_of start (y ∷ ts)) i ≡ Some y.owner
    at_run i lt = ap (λ row. slice_get row i) (cells_of-cons start y ts) ∙ get_front
        (replicate (y.end - start) y.owner) (cells_of y.end ts) i
        (omega (arith, length-replicate (y.end - start) y.owner, lt))
        ∙ get_replicate (y.end - start) y.owner i lt

    past_run : (i j : ℕ) → i ≡ (y.end - start) + j → slice_get (cells_of start (y ∷ ts)) i ≡ slice_get
        (cells_of y.end ts) j
    past_run i j e = ap (λ row. slice_get row i) (cells_of-cons start y ts) ∙ get_behind
        (replicate (y.end - start) y.owner) (cells_of y.end ts) i j
        (omega (arith, length-replicate (y.end - start) y.owner, e))

    first_run : place < y.end - start → (given_sliver may_grow sliver x y).owner ≡ Some v → IsGift may_grow x y
        (given_sliver may_grow sliver x y).owner → IsGrownCell may_grow x.owner (cells_of start (y ∷ ts)) place v
    first_run here owner (Kept same) = Was (at_run place here ∙ ap Some (sym same ∙ owner))
    first_run here owner (Gift w of_x of_y may is) =
        let of_v : x.owner ≡ Some v = sym is ∙ owner in
        HasBefore (subst (λ u. may_grow u ≡ true) (same_number (sym of_x ∙ of_v)) may) of_v
      where
        same_number : {a b : ℕ} → ◌≡◌ {A = Option ℕ} (Some a) (Some b) → a ≡ b
        same_number e = cc

    further : y.end - start ≤ place
        → IsGrownCell may_grow y.owner (cells_of y.end ts) (place - (y.end - start)) v
        → IsGrownCell may_grow x.owner (cells_of start (y ∷ ts)) place v
    further behind (Was was) = Was (past_run place (place - (y.end - start)) (omega (arith, behind)) ∙ was)
    further behind (HasBefore may owner) = HasCell may 0 (at_run 0 some ∙ ap Some owner)
      where
        some : 0 < y.end - start
        some = omega (arith, m.0)
    further behind (HasCell may other found) = HasCell may ((y.end - start) + other)
        (past_run ((y.end - start) + other) other refl ∙ found)
