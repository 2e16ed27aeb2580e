-- Each cell that isn't idle is inside a window of its vCPU's piece.
use Rattle.std.proofs.Common.{◌≡◌, ℕ, zero, suc, ◌+◌, ◌<◌, ◌≤◌, ltb, leb, List, [], ◌∷◌, ◌++◌, length, get_or, slice_get, option_map, Option, Some, None, ap, subst, sym, ◌∙◌, inl, inr, arith}
use Rattle.std.proofs.Math.Seq.{get_or-append_seam}
use Rattle.std.proofs.lemmas.Bool.{cases_eq, cases_lt, and_parts, leb-true, ltb-true}
use Rattle.std.proofs.lemmas.List.{get_or_append_left, length-map}
use Rattle.std.proofs.lemmas.Option.{slice_get-get_or, slice_get-map}
use Rattle.tab_core.specs.declared.TheConstants.{ROUND}
use Rattle.tab_core.specs.declared.piece.Piece.{Piece}
use Rattle.table_form.specs.Planning.EdfRow.{edf_cells, edf_row, owner_of}
use Rattle.table_form.specs.Planning.Jobs.{Job, jobs_of}
use Rattle.edf_table.specs.Inside.Progress.{MetBefore, cell, had}
use Rattle.table_form.specs.Planning.Windows.{IsInWindow}
use Rattle.edf_table.proofs.Cells.{edf_cells-suc, length-edf_cells}
use Rattle.edf_table.proofs.Counts.{had_le_had}
use Rattle.edf_table.proofs.First.{IsFirst, first_pending_is}
use Rattle.edf_table.proofs.Pieces.{job_place, no_jobs}

-- the tick's cell among the first n
cell_at : (js : List Job) (n x : ℕ) → x < n → get_or (edf_cells js n) x None ≡ cell js x
cell_at js zero x lt = absurd (omega arith)
cell_at js (suc n) x lt = rw (edf_cells-suc js n) (elim (cases_eq x n) [
  | inl same ↦
      (let seam =
      subst (λ m. get_or (edf_cells js n ++ cell js n ∷ []) m None ≡ cell js n) (length-edf_cells js n)
      (get_or-append_seam (edf_cells js n) (cell js n) [] None) in
      subst (λ m. get_or (edf_cells js n ++ cell js n ∷ []) m None ≡ cell js m) (sym same) seam)
  | inr ne ↦ get_or_append_left (edf_cells js n) (cell js n ∷ []) None x
      (omega (arith, length-edf_cells js n)) ∙ cell_at js n x (omega arith)
])

-- the row's cell is the owner of the tick's job
pub row_at : (js : List Job) (x : ℕ) → x < ROUND → slice_get (edf_row js) x ≡ Some (owner_of (cell js x))
unfolding edf_row
row_at js x lt =
    slice_get-map owner_of (edf_cells js ROUND) x
    ∙ ap (option_map owner_of) (slice_get-get_or (edf_cells js ROUND) x None
    (omega (arith, length-edf_cells js ROUND)) ∙ ap Some (cell_at js ROUND x lt))

-- a row has a cell for each tick of the round
pub length-edf_row : (js : List Job) → length (edf_row js) ≡ ROUND
unfolding edf_row
length-edf_row js = length-map (edf_cells js ROUND) owner_of ∙ length-edf_cells js ROUND

-- a job that gets a tick before the end of the round gets it before its deadline
not_late : (js : List Job) (j : Job) (x : ℕ) → MetBefore js (ROUND + 1) → x < ROUND
    → IsFirst (edf_cells js x) x js (Some j) → (j.release ≤ x) × (x < j.deadline)
not_late js j x met lt first =
    let both = and_parts (leb j.release x) (ltb (had js j x) j.cost) first.1 in
    let lacks : had js j x < j.cost = ltb-true _ _ both.1 in (
      leb-true _ _ both.0,
      elim (cases_lt x j.deadline) [
        | inl before ↦ before
        | inr late ↦
            (let in_time = met j first.0 (omega arith) in
            let kept = had_le_had js j j.deadline x late in
            absurd (omega arith))
      ],
    )

-- the owner of a cell has a piece, one of whose windows has the tick
in_window : (ps : List Piece) (d : Piece) (x v : ℕ) (c : Option Job)
    → MetBefore (jobs_of ps) (ROUND + 1) → x < ROUND
    → IsFirst (edf_cells (jobs_of ps) x) x (jobs_of ps) c → owner_of c ≡ Some v →
    IsInWindow ps v x
in_window ps d x v None met lt first owner = cc
in_window ps d x v (Some j) met lt first owner =
    let place = job_place ps d j first.0 in
    let p = get_or ps place.0 d in
    let window = subst (λ (i : Job). (i.release ≤ x) × (x < i.deadline)) (sym place.4)
    (not_late (jobs_of ps) j x met lt first) in
    let vcpu : j.vcpu ≡ v = cc in
    record {
      at = place.0;
      piece = p;
      listed = slice_get-get_or ps place.0 d place.1;
      owner = ap (λ (i : Job). i.vcpu) place.4 ∙ vcpu;
      window = place.2;
      in_round = place.3;
      after_begin = window.0;
      before_end = window.1;
    }

-- without pieces no cell has an owner
idle_alone : (x v : ℕ) (c : Option Job) → IsFirst (edf_cells (jobs_of []) x) x (jobs_of []) c
    → owner_of c ≡ Some v → ⊥
idle_alone x v None first owner = cc
idle_alone x v (Some j) first owner = no_jobs j first.0

-- a cell lies in its job's window, of any list of pieces
cell_in_window : (ps : List Piece) (x v : ℕ) (c : Option Job) → MetBefore (jobs_of ps) (ROUND + 1)
    → x < ROUND → IsFirst (edf_cells (jobs_of ps) x) x (jobs_of ps) c → owner_of c ≡ Some v →
    IsInWindow ps v x
cell_in_window [] x v c met lt first owner = absurd (idle_alone x v c first owner)
cell_in_window (p ∷ ps) x v c met lt first owner = in_window (p ∷ ps) p x v c met lt first owner

-- read off the row: the clause `inside`
pub row_in_windows : (ps : List Piece) (v x : ℕ) → MetBefore (jobs_of ps) (ROUND + 1) → x < ROUND
    → slice_get (edf_row (jobs_of ps)) x ≡ Some (Some v) → IsInWindow ps v x
row_in_windows ps v x met lt at =
    let owner : owner_of (cell (jobs_of ps) x) ≡ Some v = (let here = row_at (jobs_of ps) x lt in cc) in
    cell_in_window ps x v (cell (jobs_of ps) x) met lt
    (first_pending_is (edf_cells (jobs_of ps) x) x (jobs_of ps)) owner
