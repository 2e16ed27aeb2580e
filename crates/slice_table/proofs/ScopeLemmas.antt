-- The other rows that matter to a core, row by row.
use Rattle.std.proofs.Common.{◌≡◌, ◌≢◌, ℕ, zero, suc, get_or, ◌+◌, ◌<◌, List, [], ◌∷◌, ◌++◌, length, length-append, Some, inl, inr, ap, sym, ◌∙◌, arith}
use Rattle.std.specs.Prelude.{slice_get, slice_index}
use Rattle.std.proofs.Math.Seq.{get_or-append_seam}
use Rattle.std.proofs.lemmas.Bool.{cases_lt}
use Rattle.std.proofs.lemmas.List.{get_or_append_left}
use Rattle.table_form.specs.Tables.Homes.{IsHome}
use Rattle.table_form.specs.Tables.Plans.{PlanView}
use Rattle.table_form.specs.Tables.Rows.{Row}
use Rattle.table_form.specs.Tables.Serves.{flat, owner_at}
use Rattle.table_form.proofs.SpotLemmas.{flat_some}
use Rattle.slice_table.specs.Inside.Sweeps.{AreOthers}

-- a row that doesn't matter is left out
pub others_skip : (plan : PlanView) (c count : ℕ) (others : List ℕ) → AreOthers plan c count others
    → (count ≢ c → (v x : ℕ) → IsHome plan.homes c v → owner_at plan.rows count x ≡ Some v → ⊥)
    → AreOthers plan c (count + 1) others
others_skip plan c count others are none = record {
  within = λ k lt. (let within = are.within k lt in omega arith);
  other = are.other;
  listed = λ d v x lt ne home stands. elim (cases_lt d count) [
    | inl before ↦ are.listed d v x before ne home stands
    | inr last ↦
        let here : d ≡ count = omega arith in
        absurd (none (λ e. ne (here ∙ e)) v x home
        (ap (λ (n : ℕ). owner_at plan.rows n x) (sym here) ∙ stands))
  ];
}

-- another row is listed
pub others_push : (plan : PlanView) (c count : ℕ) (others : List ℕ) → AreOthers plan c count others
    → count ≢ c
    → AreOthers plan c (count + 1) (others ++ count ∷ [])
others_push plan c count others are ne =
    let size = length-append others (count ∷ []) in
    let old : (k : ℕ) → k < length others → slice_index (others ++ count ∷ []) k ≡ slice_index others k =
    λ k lt. get_or_append_left others (count ∷ []) 0 k lt in
    let last : (k : ℕ) → k ≡ length others → slice_index (others ++ count ∷ []) k ≡ count =
    λ k is. ap (slice_index (others ++ count ∷ [])) is ∙ get_or-append_seam others count [] 0 in
    record {
      within = λ k lt. elim (cases_lt k (length others)) [
        | inl before ↦ (let same = old k before in let within = are.within k before in omega arith)
        | inr past ↦ (let same = last k (omega arith) in omega arith)
      ];
      other = λ k lt e. elim (cases_lt k (length others)) [
        | inl before ↦ are.other k before (sym (old k before) ∙ e)
        | inr past ↦ ne (sym (last k (omega arith)) ∙ e)
      ];
      listed = λ d v x lt d_ne home stands. elim (cases_lt d count) [
        | inl before ↦
            let at = are.listed d v x before d_ne home stands in
            (at.0, omega (arith, at.1), old at.0 at.1 ∙ at.2)
        | inr past ↦ (length others, omega arith, last (length others) (omega arith) ∙ omega arith)
      ];
    }

-- an owner in a row that is there is one of its cells
pub cell_read : (rows : List Row) (d x v : ℕ) (row : Row) → d < length rows → row ≡ get_or rows d row
    → owner_at rows d x ≡ Some v → slice_get row x ≡ Some (Some v)
cell_read [] d x v row lt is stands = absurd (omega arith)
cell_read (r ∷ rows) zero x v row lt is stands =
    flat_some (slice_get row x) v (ap (λ (cells : Row). flat (slice_get cells x)) is ∙ stands)
cell_read (r ∷ rows) (suc d) x v row lt is stands = cell_read rows d x v row (omega arith) is stands
