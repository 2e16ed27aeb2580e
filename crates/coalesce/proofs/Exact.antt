-- A row that serves windows and keeps to them has in each period of a vCPU exactly its piece's cost.
use Rattle.std.proofs.Common.{◌≡◌, ℕ, ◌+◌, ◌*◌, ◌/◌, ◌<◌, ◌≤◌, List, slice_get, Some, ap, subst, sym, ◌∙◌, inl, inr, arith}
use Rattle.std.proofs.Math.Nat.{mul-le-mul_left}
use Rattle.std.proofs.lemmas.Bool.{cases_lt}
use Rattle.tab_core.specs.declared.TheConstants.{ROUND}
use Rattle.tab_core.specs.declared.piece.Piece.{Piece}
use Rattle.table_form.specs.Planning.Drafts.{cost_on}
use Rattle.table_form.specs.Planning.Windows.{DistinctVcpus}
use Rattle.table_form.specs.Tables.Rows.{Row}
use Rattle.table_form.specs.Tables.Serves.{cells_within}
use Rattle.table_form.proofs.Supplies.{cells_within-none, cells_within-only, cost_on-is}
use Rattle.coalesce.proofs.Inside.{AreInWindows, AreServed, InWindow, one_piece}

-- a tick of a period that is in a window of the piece is in the period's window
in_that_window : (p : Piece) (k window tick : ℕ) → k * p.period ≤ tick → tick < (k + 1) * p.period
    → window * p.period + p.from ≤ tick → tick < window * p.period + p.to
    → (k * p.period + p.from ≤ tick) × (tick < k * p.period + p.to)
in_that_window p k window tick starts ends begun not_over = elim (cases_lt k window) [
  | inl later ↦
      let more = mul-le-mul_left {m = k + 1} {n = window} p.period (omega arith) in
      absurd (omega (arith, more))
  | inr not_later ↦ elim (cases_lt window k) [
    | inl earlier ↦
        let more = mul-le-mul_left {m = window + 1} {n = k} p.period (omega arith) in
        absurd (omega (arith, more, p.within))
    | inr not_earlier ↦
        let same : window ≡ k = omega arith in
        let product = ap (λ n. n * p.period) same in
        (omega (arith, product), omega (arith, product))
  ]
]

-- a cell of the vCPU in the period is in a window of its piece
cell_in_window : (pieces : List Piece) (row : Row) (i k : ℕ) (p : Piece) → DistinctVcpus pieces
    → AreInWindows pieces row → slice_get pieces i ≡ Some p → (tick : ℕ) → k * p.period ≤ tick
    → tick < (k + 1) * p.period → slice_get row tick ≡ Some (Some p.vcpu)
    → (k * p.period + p.from ≤ tick) × (tick < k * p.period + p.to)
cell_in_window pieces row i k p distinct inside listed tick starts ends at =
    let w = inside p.vcpu tick at in
    let same = one_piece pieces w.at i w.piece p distinct w.listed listed w.owner in
    in_that_window p k w.window tick starts ends
    (subst (λ (q : Piece). w.window * q.period + q.from ≤ tick) same w.begun)
    (subst (λ (q : Piece). tick < w.window * q.period + q.to) same w.not_over)

-- a vCPU gets in each of its periods what its piece here costs
pub exact_in_row : (pieces : List Piece) (row : Row) (v k period : ℕ) → DistinctVcpus pieces
    → AreServed pieces row
    → ((i : ℕ) (p : Piece) → slice_get pieces i ≡ Some p → p.vcpu ≡ v → p.period ≡ period)
    → k < ROUND / period
    → cost_on v pieces ≡ cells_within v row (k * period) ((k + 1) * period)
exact_in_row pieces row v k period distinct served periods lt =
    cost_on-is v (cells_within v row (k * period) ((k + 1) * period)) pieces distinct
    (λ i p listed own.
    let t = periods i p listed own in
    subst (λ u. p.cost ≡ cells_within u row (k * period) ((k + 1) * period)) own
    (subst (λ n. p.cost ≡ cells_within p.vcpu row (k * n) ((k + 1) * n)) t
    (of_piece i p listed (subst (λ n. k < ROUND / n) (sym t) lt))))
    (λ none. cells_within-none v row (k * period) ((k + 1) * period)
    (λ tick starts ends at. no_window none tick (served.inside v tick at)))
  where
    no_window : ((i : ℕ) (p : Piece) → slice_get pieces i ≡ Some p → p.vcpu ≡ v → ⊥) → (tick : ℕ)
        → InWindow pieces v tick → ⊥
    no_window none tick w = none w.at w.piece w.listed w.owner

    of_piece : (i : ℕ) (p : Piece) → slice_get pieces i ≡ Some p → k < ROUND / p.period
        → p.cost ≡ cells_within p.vcpu row (k * p.period) ((k + 1) * p.period)
    of_piece i p listed within =
        let in_window = cell_in_window pieces row i k p distinct served.inside listed in
        sym (cells_within-only p.vcpu row (k * p.period) (k * p.period + p.from) (k * p.period + p.to)
        ((k + 1) * p.period) (omega arith) (omega (arith, p.begins)) (omega (arith, p.within))
        (λ tick starts before at. absurd (omega (
          arith,
          before,
          p.begins,
          p.within,
          (in_window tick starts (omega (arith, before, p.begins, p.within)) at).0,
        )))
        (λ tick behind ends at. absurd (omega (
          arith,
          behind,
          (in_window tick (omega (arith, behind)) ends at).1,
        )))
        ∙ served.serves i k p listed within)
