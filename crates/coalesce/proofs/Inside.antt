-- A swap keeps each job's cells inside its window: one window of the first vCPU and one of the
-- second contain all the ticks that change places.
use Rattle.std.proofs.Common.{◌≡◌, ◌≢◌, ℕ, ◌+◌, ◌-◌, ◌*◌, ◌<◌, ◌≤◌, List, ◌∷◌, ◌++◌, slice_get, Some, ◌⊎◌, ap, subst, sym, ◌∙◌, inl, inr, arith}
use Rattle.std.proofs.Math.Nat.{mul-le-mul_left}
use Rattle.std.proofs.lemmas.Bool.{cases_eq, cases_lt}
use Rattle.std.proofs.lemmas.Option.{same_Some}
use Rattle.tab_core.specs.declared.piece.Piece.{Piece}
use Rattle.table_form.specs.Tables.Rows.{Row}
use Rattle.table_form.specs.Tables.Segments.{AreMaximal, SegmentView}
use Rattle.table_form.specs.Planning.Windows.{DistinctVcpus, ServesWindows}
use Rattle.coalesce.specs.Joining.{NoEdge, SwapsTo, swapped}
use Rattle.coalesce.specs.Joining.SwapsTo.{Again, Done}
use Rattle.coalesce.proofs.Counts.{AreMoved, IsOutside, same_before}
use Rattle.coalesce.proofs.Counts.IsOutside.{Another, Before, Behind}
use Rattle.coalesce.proofs.Moved.{CellAfter, cell_after, cells_moved, first_cell, last_cell}
use Rattle.coalesce.proofs.Moved.CellAfter.{AsBefore, OfFirst, OfSecond}
use Rattle.coalesce.proofs.Swapping.{IsSwap, parts_of, swap_keeps, swap_of}
use Rattle.table_form.proofs.SegmentLemmas.{cells_of}
use Rattle.table_form.proofs.Supplies.{cells_before-end}

-- the tick is in a window of the vCPU's piece
pub record InWindow (pieces : List Piece) (vcpu tick : ℕ) : Type 0 where
  pub at : ℕ
  pub piece : Piece
  pub listed : slice_get pieces at ≡ Some piece
  pub owner : piece.vcpu ≡ vcpu
  pub window : ℕ
  pub begun : window * piece.period + piece.from ≤ tick
  pub not_over : tick < window * piece.period + piece.to

-- each cell that isn't idle is in a window of its vCPU's piece
abbrev pub AreInWindows : List Piece → Row → Type 0
AreInWindows pieces row = (vcpu tick : ℕ) → slice_get row tick ≡ Some (Some vcpu) → InWindow pieces vcpu tick

-- pieces of one vCPU on a core are one
pub one_piece : (pieces : List Piece) (i j : ℕ) (p q : Piece) → DistinctVcpus pieces → slice_get pieces i ≡ Some p
    → slice_get pieces j ≡ Some q → p.vcpu ≡ q.vcpu → p ≡ q
one_piece pieces i j p q distinct at at' same = same_Some p q
    (sym at ∙ ap (slice_get pieces) (distinct i j p q at at' same) ∙ at')

-- a window of the piece holds all of what changes places
record Holds (p : Piece) (low high : ℕ) : Type 0 where
  window : ℕ
  begun : window * p.period + p.from ≤ low
  over : high ≤ window * p.period + p.to

-- then each other one ends before it or begins after it
outside_windows : (p : Piece) (low high k : ℕ) → Holds p low high
    → ((k * p.period + p.from ≤ low) ⊎ (high ≤ k * p.period + p.from)) ×
    ((k * p.period + p.to ≤ low) ⊎ (high ≤ k * p.period + p.to))
outside_windows p low high k holds = elim (cases_lt k holds.window) [
  | inl earlier ↦
      let more = mul-le-mul_left {m = k + 1} {n = holds.window} p.period (omega arith) in (
        inl (omega (arith, more, holds.begun, p.begins, p.within)),
        inl (omega (arith, more, holds.begun, p.within)),
      )
  | inr not_earlier ↦ elim (cases_lt holds.window k) [
    | inl later ↦
        let more = mul-le-mul_left {m = holds.window + 1} {n = k} p.period (omega arith) in
        (inr (omega (arith, more, holds.over, p.within)), inr (omega (arith, more, holds.over, p.within)))
    | inr not_later ↦
        let same : k ≡ holds.window = omega (arith, not_earlier, not_later) in
        let product = ap (λ n. n * p.period) same in
        (inl (omega (arith, product, holds.begun)), inr (omega (arith, product, holds.over)))
  ]
]

-- what the rule asks, where cells change places
pub record MayMove (pieces : List Piece) (row row' : Row) (b l a first second : ℕ) : Type 0 where
  pub moved : AreMoved row row' b l a first second
  pub some_second : 0 < l
  pub some_first : 0 < a
  pub differ : first ≢ second
  pub no_begin : NoEdge (λ p. p.from) pieces first b (b + l + a)
  pub no_end : NoEdge (λ p. p.to) pieces second b (b + l + a)

-- the window of the last tick contains all of them, as none of the first vCPU's begins among them
first_holds : (pieces : List Piece) (row row' : Row) (b l a first second : ℕ)
    → MayMove pieces row row' b l a first second → AreInWindows pieces row
    → (i : ℕ) × (p : Piece) × (slice_get pieces i ≡ Some p) × (p.vcpu ≡ first) × Holds p b (b + l + a)
first_holds pieces row row' b l a first second may inside =
    let y = b + l + a - 1 in
    let some_a = may.some_first in
    let w = inside first y (last_cell row row' b l a first second y may.moved (omega arith) (omega arith)) in
    let p = w.piece in (
      w.at,
      p,
      w.listed,
      w.owner,
      record {
        window = w.window;
        begun = elim (cases_lt b (w.window * p.period + p.from)) [
          | inr le ↦ le
          | inl late ↦ absurd {A = w.window * p.period + p.from ≤ b}
              (may.no_begin w.at w.window p w.listed w.owner late
              (omega (arith, w.begun)))
        ];
        over = omega (arith, w.not_over);
      },
    )

-- the window of the first tick contains all of them, as none of the second vCPU's ends among them
second_holds : (pieces : List Piece) (row row' : Row) (b l a first second : ℕ)
    → MayMove pieces row row' b l a first second → AreInWindows pieces row
    → (i : ℕ) × (p : Piece) × (slice_get pieces i ≡ Some p) × (p.vcpu ≡ second) × Holds p b (b + l + a)
second_holds pieces row row' b l a first second may inside =
    let w = inside second b (first_cell row row' b l a first second may.moved may.some_second) in
    let p = w.piece in (
      w.at,
      p,
      w.listed,
      w.owner,
      record {
        window = w.window;
        begun = w.begun;
        over = elim (cases_lt (w.window * p.period + p.to) (b + l + a)) [
          | inr le ↦ le
          | inl early ↦ absurd (may.no_end w.at w.window p w.listed w.owner w.not_over early)
        ];
      },
    )

-- the ends of each window of each piece are outside of what changes places, or it is another vCPU's
from_sides : (b l a first second v n : ℕ) → (n ≤ b) ⊎ (b + l + a ≤ n) → IsOutside b l a first second v n
from_sides b l a first second v n (inl le) = Before le
from_sides b l a first second v n (inr le) = Behind le

-- counts of cells up to a window's begin and end stay
ends_outside : (pieces : List Piece) (row row' : Row) (b l a first second : ℕ)
    → MayMove pieces row row' b l a first second → DistinctVcpus pieces → AreInWindows pieces row
    → (i k : ℕ) (p : Piece) → slice_get pieces i ≡ Some p
    → IsOutside b l a first second p.vcpu (k * p.period + p.from) × IsOutside b l a first second p.vcpu
    (k * p.period + p.to)
ends_outside pieces row row' b l a first second may distinct inside i k p listed =
    elim (cases_eq p.vcpu first) [
      | inl is_first ↦ held (first_holds pieces row row' b l a first second may inside) is_first
      | inr no_first ↦ elim (cases_eq p.vcpu second) [
        | inl is_second ↦ held (second_holds pieces row row' b l a first second may inside) is_second
        | inr no_second ↦ (Another no_first no_second, Another no_first no_second)
      ]
    ]
  where
    held : {v : ℕ} → (j : ℕ) × (q : Piece) × (slice_get pieces j ≡ Some q) × (q.vcpu ≡ v)
        × Holds q b (b + l + a)
        → p.vcpu ≡ v
        → IsOutside b l a first second p.vcpu (k * p.period + p.from) × IsOutside b l a first second p.vcpu
        (k * p.period + p.to)
    held found own =
        let same = one_piece pieces found.0 i found.1 p distinct found.2 listed (found.3 ∙ sym own) in
        let sides = outside_windows p b (b + l + a) k
        (subst (λ (r : Piece). Holds r b (b + l + a)) same found.4) in (
          from_sides b l a first second p.vcpu (k * p.period + p.from) sides.0,
          from_sides b l a first second p.vcpu
              (k * p.period + p.to) sides.1,
        )

-- each window keeps its number of cells
pub move_serves : (pieces : List Piece) (row row' : Row) (b l a first second : ℕ)
    → MayMove pieces row row' b l a first second → DistinctVcpus pieces → AreInWindows pieces row
    → ServesWindows pieces row → ServesWindows pieces row'
move_serves pieces row row' b l a first second may distinct inside serves i k p listed lt =
    let from = k * p.period + p.from in
    let to = k * p.period + p.to in
    let out = ends_outside pieces row row' b l a first second may distinct inside i k p listed in
    let lead = same_before row row' b l a first second p.vcpu from may.moved out.0 in
    let all = same_before row row' b l a first second p.vcpu to may.moved out.1 in
    let le : from ≤ to = omega (arith, p.begins) in
    let was = cells_before-end p.vcpu row from to le in
    let is = cells_before-end p.vcpu row' from to le in
    omega (arith, lead, all, was, is, serves i k p listed lt)

-- each cell stays in a window
pub move_keeps : (pieces : List Piece) (row row' : Row) (b l a first second : ℕ)
    → MayMove pieces row row' b l a first second → AreInWindows pieces row → AreInWindows pieces row'
move_keeps pieces row row' b l a first second may inside v x at = by_cell
    (cell_after row row' b l a first second x v may.moved at)
  where
    held : {w : ℕ} → (j : ℕ) × (q : Piece) × (slice_get pieces j ≡ Some q) × (q.vcpu ≡ w)
        × Holds q b (b + l + a)
        → v ≡ w → b ≤ x → x < b + l + a → InWindow pieces v x
    held found own le lt = record {
      at = found.0;
      piece = found.1;
      listed = found.2;
      owner = found.3 ∙ sym own;
      window = found.4.window;
      begun = omega (arith, found.4.begun, le);
      not_over = omega (arith, found.4.over, lt);
    }

    by_cell : CellAfter row b l a first second x v → InWindow pieces v x
    by_cell (AsBefore was) = inside v x was
    by_cell (OfFirst own le lt) = held (first_holds pieces row row' b l a first second may inside) own le lt
    by_cell (OfSecond own le lt) = held (second_holds pieces row row' b l a first second may inside) own le lt

-- a swap is such a move
may_move : (pieces : List Piece) (sliver : ℕ) (row next : List SegmentView) (end : ℕ)
    (swap : IsSwap pieces sliver row next) → AreMaximal 0 row end
    → MayMove pieces (cells_of 0 row) (cells_of 0 next) swap.x.end (swap.y.end - swap.x.end)
    (swap.z.end - swap.y.end) swap.can.first swap.can.second
may_move pieces sliver row next end swap m =
    let parts = parts_of 0 swap.before swap.x (swap.y ∷ swap.z ∷ swap.after) end
    (subst (λ ts. AreMaximal 0 ts end) swap.row_is m) in
    let three = parts.second in
    let total : swap.z.end ≡ swap.x.end + (swap.y.end - swap.x.end) + (swap.z.end - swap.y.end) = omega
    (arith, three.2.0, three.2.2.0) in
    record {
      moved = cells_moved pieces sliver row next end swap m;
      some_second = omega (arith, three.2.0);
      some_first = omega (arith, three.2.2.0);
      differ = λ same. three.1 (swap.can.first_owns ∙ ap Some same ∙ sym swap.can.second_owns);
      no_begin = subst (λ n. NoEdge (λ p. p.from) pieces swap.can.first swap.x.end n) total swap.can.no_begin;
      no_end = subst (λ n. NoEdge (λ p. p.to) pieces swap.can.second swap.x.end n) total swap.can.no_end;
    }

-- what the swaps keep
pub record AreServed (pieces : List Piece) (row : Row) : Type 0 where
  pub serves : ServesWindows pieces row
  pub inside : AreInWindows pieces row

-- one swap after the other
pub swaps_serve : (pieces : List Piece) (sliver bound : ℕ) (end row : List SegmentView) → DistinctVcpus pieces
    → SwapsTo pieces sliver end row → AreMaximal 0 row bound
    → AreServed pieces (cells_of 0 row) → AreServed pieces (cells_of 0 end)
swaps_serve pieces sliver bound end _ distinct (Done quiet) m served = served
swaps_serve pieces sliver bound end _ distinct (Again row before after x y z is can left swaps) m served =
    let next = before ++ swapped x y z after in
    let swap = swap_of pieces sliver row before after x y z is can in
    let may = may_move pieces sliver row next bound swap m in
    swaps_serve pieces sliver bound end next distinct swaps
    (swap_keeps pieces sliver 0 bound row next swap m) (record {
      serves = move_serves pieces (cells_of 0 row) (cells_of 0 next) swap.x.end (swap.y.end - swap.x.end)
          (swap.z.end - swap.y.end) swap.can.first swap.can.second may distinct served.inside served.serves;
      inside = move_keeps pieces (cells_of 0 row) (cells_of 0 next) swap.x.end (swap.y.end - swap.x.end)
          (swap.z.end - swap.y.end) swap.can.first swap.can.second may served.inside;
    })
