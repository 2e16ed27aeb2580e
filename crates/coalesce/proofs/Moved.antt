-- A swap of segments makes cells of two owners change places.
use Rattle.std.proofs.Common.{◌≡◌, ℕ, zero, suc, ◌+◌, ◌-◌, ◌<◌, ◌≤◌, List, [], ◌∷◌, ◌++◌, length, replicate, slice_get, Option, Some, refl, ap, subst, sym, ◌∙◌, inl, inr, arith, append_assoc, length-append}
use Rattle.std.proofs.lemmas.Bool.{cases_lt}
use Rattle.std.proofs.lemmas.List.{length-replicate}
use Rattle.tab_core.specs.declared.piece.Piece.{Piece}
use Rattle.tab_core.proofs.Lists.{get_front}
use Rattle.table_form.specs.Tables.Rows.{Row}
use Rattle.table_form.specs.Tables.Segments.{AreMaximal, SegmentView, put_front}
use Rattle.coalesce.specs.Joining.{swapped}
use Rattle.coalesce.proofs.Counts.{AreMoved}
use Rattle.coalesce.proofs.Swapping.{IsSwap}
use Rattle.table_form.proofs.SegmentLemmas.{cells_of, cells_of-cons, cells_of-nil, cells_of_front, replicate_parts}

-- the tick at which the segments end
end_of : ℕ → List SegmentView → ℕ
end_of start [] = start
end_of start (t ∷ ts) = end_of t.end ts

-- the segments after it some are maximal from their end on
behind_maximal : (start : ℕ) (xs ys : List SegmentView) (end : ℕ) → AreMaximal start (xs ++ ys) end
    → AreMaximal
    (end_of start xs) ys end
unfolding end_of
behind_maximal start [] ys end m = m
behind_maximal start (x ∷ xs) ys end m = behind_maximal x.end xs ys end m.2

-- the cells of segments in two parts
cells_of_append : (start : ℕ) (xs ys : List SegmentView)
    → cells_of start (xs ++ ys) ≡ cells_of start xs ++ cells_of
    (end_of start xs) ys
unfolding end_of
cells_of_append start [] ys = ap (λ cells. cells ++ cells_of start ys) (sym (cells_of-nil start))
cells_of_append start (x ∷ xs) ys =
    cells_of-cons start x (xs ++ ys) ∙ ap (λ cells. replicate (x.end - start) x.owner ++ cells)
    (cells_of_append x.end xs ys)
    ∙ sym (append_assoc (replicate (x.end - start) x.owner) (cells_of x.end xs)
    (cells_of (end_of x.end xs) ys))
    ∙ ap (λ cells. cells ++ cells_of (end_of x.end xs) ys) (sym (cells_of-cons start x xs))

-- how many cells the segments of the first part have
length-cells_of : (start : ℕ) (xs ys : List SegmentView) (end : ℕ) → AreMaximal start (xs ++ ys) end → length
    (cells_of start xs) + start ≡ end_of start xs
unfolding end_of
length-cells_of start [] ys end m = let none = ap length (cells_of-nil start) in omega arith
length-cells_of start (x ∷ xs) ys end m =
    let rest = length-cells_of x.end xs ys end m.2 in
    omega (
      arith,
      ap length (cells_of-cons start x xs),
      length-append (replicate (x.end - start) x.owner)
          (cells_of x.end xs),
      length-replicate (x.end - start) x.owner,
      rest,
      m.0,
    )

-- the cells of a swap, before and after it
pub cells_moved : (pieces : List Piece) (sliver : ℕ) (row next : List SegmentView) (end : ℕ)
    (swap : IsSwap pieces sliver row next) → AreMaximal 0 row end
    → AreMoved (cells_of 0 row) (cells_of 0 next) swap.x.end (swap.y.end - swap.x.end)
    (swap.z.end - swap.y.end) swap.can.first swap.can.second
cells_moved pieces sliver row next end swap m =
    let x = swap.x in
    let y = swap.y in
    let z = swap.z in
    let can = swap.can in
    let e = end_of 0 swap.before in
    let m' = subst (λ ts. AreMaximal 0 ts end) swap.row_is m in
    let three = behind_maximal 0 swap.before (x ∷ y ∷ z ∷ swap.after) end m' in
    let lead = cells_of 0 swap.before in
    let lead_size = length-cells_of 0 swap.before (x ∷ y ∷ z ∷ swap.after) end m' in
    let own : ℕ → Row = λ n. replicate (n - e) (Some can.first) in
    let back = cells_of z.end swap.after in
    let old : cells_of 0 row ≡ lead ++ (replicate (x.end - e) x.owner ++
    (replicate (y.end - x.end) y.owner ++ (replicate (z.end - y.end) z.owner ++ back)))
    = ap (cells_of 0) swap.row_is ∙ cells_of_append 0 swap.before (x ∷ y ∷ z ∷ swap.after)
    ∙ ap (λ cells. lead ++ cells) (cells_of-cons e x (y ∷ z ∷ swap.after) ∙ ap
    (λ cells. replicate (x.end - e) x.owner ++ cells)
    (cells_of-cons x.end y (z ∷ swap.after) ∙ ap (λ cells. replicate (y.end - x.end) y.owner ++ cells)
    (cells_of-cons y.end z swap.after))) in
    let grown = x.end + (z.end - y.end) in
    let new : cells_of 0 next
    ≡ lead ++ (replicate (grown - e) x.owner ++ (replicate (z.end - grown) y.owner ++ back))
    = ap (cells_of 0) swap.next_is ∙ cells_of_append 0 swap.before (swapped x y z swap.after)
    ∙ ap (λ cells. lead ++ cells) (cells_of-cons e (record { owner = x.owner; end = grown })
    (put_front (record { owner = y.owner; end = z.end }) swap.after)
    ∙ ap (λ cells. replicate (grown - e) x.owner ++ cells)
    (cells_of_front grown (record { owner = y.owner; end = z.end }) swap.after end
    (omega (arith, three.2.0, three.2.2.0)) three.2.2.2)) in
    let a_size : grown - x.end ≡ z.end - y.end = omega arith in
    let l_size : z.end - grown ≡ y.end - x.end = omega (arith, three.2.0, three.2.2.0) in
    let parts : replicate (grown - e) x.owner ++ (replicate (z.end - grown) y.owner ++ back) ≡ replicate
    (x.end - e) x.owner ++ (replicate (grown - x.end) x.owner ++ (replicate (z.end - grown) y.owner ++ back))
    = replicate_parts x.owner e x.end grown (replicate (z.end - grown) y.owner ++ back)
    (omega (arith, three.0))
    (omega arith) in
    record {
      front = lead ++ replicate (x.end - e) x.owner;
      back = back;
      size = omega (
        arith,
        length-append lead (replicate (x.end - e) x.owner),
        length-replicate
            (x.end - e) x.owner,
        lead_size,
        three.0,
      );
      old = old ∙ ap (λ o. lead ++ (replicate (x.end - e) x.owner ++
          (replicate (y.end - x.end) o ++ (replicate (z.end - y.end) z.owner ++ back)))) can.second_owns
          ∙ ap (λ o. lead ++ (replicate (x.end - e) x.owner ++
          (replicate (y.end - x.end) (Some can.second) ++ (replicate (z.end - y.end) o ++ back))))
          can.first_again
          ∙ sym (append_assoc lead (replicate (x.end - e) x.owner)
          (replicate (y.end - x.end) (Some can.second)
          ++ (replicate (z.end - y.end) (Some can.first) ++ back)));
      new = new ∙ ap (λ cells. lead ++ cells) parts
          ∙ ap (λ n. lead ++ (replicate (x.end - e) x.owner ++
          (replicate n x.owner ++ (replicate (z.end - grown) y.owner ++ back)))) a_size
          ∙ ap (λ n. lead ++ (replicate (x.end - e) x.owner ++
          (replicate (z.end - y.end) x.owner ++ (replicate n y.owner ++ back)))) l_size
          ∙ ap (λ o. lead ++ (replicate (x.end - e) x.owner ++
          (replicate (z.end - y.end) o ++ (replicate (y.end - x.end) y.owner ++ back)))) can.first_owns
          ∙ ap (λ o. lead ++ (replicate (x.end - e) x.owner ++
          (replicate (z.end - y.end) (Some can.first) ++ (replicate (y.end - x.end) o ++ back))))
          can.second_owns
          ∙ sym (append_assoc lead (replicate (x.end - e) x.owner)
          (replicate (z.end - y.end) (Some can.first)
          ++ (replicate (y.end - x.end) (Some can.second) ++ back)));
    }

-- a cell after the first list
pub get_behind : (xs ys : Row) (i j : ℕ) → i ≡ length xs + j → slice_get (xs ++ ys) i ≡ slice_get ys j
get_behind [] ys i j e = ap (slice_get ys) (omega (arith, e))
get_behind (x ∷ xs) ys zero j e = absurd (omega (arith, e))
get_behind (x ∷ xs) ys (suc i) j e = get_behind xs ys i j (omega (arith, e))

-- a cell of a run
pub get_replicate : (n : ℕ) (o : Option ℕ) (i : ℕ) → i < n → slice_get (replicate n o) i ≡ Some o
get_replicate zero o i lt = absurd (omega arith)
get_replicate (suc n) o zero lt = refl
get_replicate (suc n) o (suc i) lt = get_replicate n o i (omega arith)

-- a cell of a run before others
get_run : (n : ℕ) (o : Option ℕ) (cells : Row) (i : ℕ) → i < n → slice_get (replicate n o ++ cells) i ≡ Some o
get_run n o cells i lt = get_front (replicate n o) cells i (omega (arith, length-replicate n o, lt))
    ∙ get_replicate n o i lt

-- a cell after a run, among the others
get_past_run : (n : ℕ) (o : Option ℕ) (cells : Row) (i j : ℕ) → i ≡ n + j → slice_get
    (replicate n o ++ cells) i ≡ slice_get cells j
get_past_run n o cells i j e = get_behind (replicate n o) cells i j (omega (arith, length-replicate n o, e))

-- the first cell of what changes places is the second vCPU's, and the last one the first's
pub first_cell : (row row' : Row) (b l a first second : ℕ) → AreMoved row row' b l a first second → 0 < l
    → slice_get row b ≡ Some (Some second)
first_cell row row' b l a first second moved some =
    ap (λ r. slice_get r b) moved.old ∙ get_behind moved.front _ b 0 (omega (arith, moved.size)) ∙ get_run l
    (Some second) _ 0 some

-- windows of both vCPUs are known at the two ends of what changes places
pub last_cell : (row row' : Row) (b l a first second y : ℕ) → AreMoved row row' b l a first second → b + l ≤ y
    → y < b + l + a → slice_get row y ≡ Some (Some first)
last_cell row row' b l a first second y moved le lt =
    ap (λ r. slice_get r y) moved.old ∙ get_behind moved.front _ y (y - b) (omega (arith, moved.size, le))
    ∙ get_past_run l (Some second) _ (y - b) (y - b - l) (omega (arith, le))
    ∙ get_run a (Some first) moved.back
    (y - b - l) (omega (arith, le, lt))

-- a cell after the swap is what it was, or one of the two vCPUs' between the ticks
pub data CellAfter (row : Row) (b l a first second x v : ℕ) : Type 0 where
  AsBefore : slice_get row x ≡ Some (Some v) → CellAfter row b l a first second x v
  OfFirst : v ≡ first → b ≤ x → x < b + l + a → CellAfter row b l a first second x v
  OfSecond : v ≡ second → b ≤ x → x < b + l + a → CellAfter row b l a first second x v

-- a cell with an owner has one owner
inside : (v w : ℕ) → ◌≡◌ {A = Option (Option ℕ)} (Some (Some v)) (Some (Some w)) → w ≡ v
inside v w e = cc

-- which of these a cell is, by its place
pub cell_after : (row row' : Row) (b l a first second x v : ℕ) → AreMoved row row' b l a first second
    → slice_get row' x ≡ Some (Some v) → CellAfter row b l a first second x v
cell_after row row' b l a first second x v moved at =
    let at' = sym (ap (λ r. slice_get r x) moved.new) ∙ at in
    elim (cases_lt x b) [
      | inl early ↦ AsBefore (ap (λ r. slice_get r x) moved.old ∙ get_front moved.front _ x
          (omega (arith, moved.size, early))
          ∙ sym (get_front moved.front _ x (omega (arith, moved.size, early))) ∙ at')
      | inr late ↦
          let rest = sym (get_behind moved.front (replicate a (Some first) ++
          (replicate l (Some second) ++ moved.back)) x (x - b) (omega (arith, moved.size, late))) ∙ at' in
          elim (cases_lt x (b + a)) [
            | inl in_first ↦ OfFirst (inside first v (sym
                (get_run a (Some first) _ (x - b) (omega (arith, late, in_first))) ∙ rest)) late
                (omega (arith, in_first))
            | inr past_first ↦
                let rest' = sym (get_past_run a (Some first) (replicate l (Some second) ++ moved.back) (x - b)
                (x - b - a) (omega (arith, late, past_first))) ∙ rest in
                elim (cases_lt x (b + l + a)) [
                  | inl in_second ↦ OfSecond (inside second v
                      (sym (get_run l (Some second) _ (x - b - a)
                      (omega (arith, late, past_first, in_second)))
                      ∙ rest')) late in_second
                  | inr past ↦
                      let rest'' = sym (get_past_run l (Some second) moved.back (x - b - a) (x - b - a - l)
                      (omega (arith, past))) ∙ rest' in
                      AsBefore (ap (λ r. slice_get r x) moved.old ∙ get_behind moved.front _ x (x - b)
                      (omega (arith, moved.size, late))
                      ∙ get_past_run l (Some second) _ (x - b) (x - b - l) (omega (arith, past))
                      ∙ get_past_run a
                      (Some first) moved.back (x - b - l) (x - b - a - l) (omega (arith, past)) ∙ rest'')
                ]
          ]
    ]
