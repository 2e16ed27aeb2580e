-- The joined rows of a draft make a plan.
use Rattle.std.proofs.Common.{◌≡◌, ◌≢◌, ℕ, zero, suc, ◌+◌, ◌-◌, ◌*◌, ◌/◌, ◌%◌, ◌<◌, ◌≤◌, Bool, true, false, ◌&&◌, not, cond, eqb, List, [], ◌∷◌, length, get_or, slice_get, Option, Some, None, refl, ap, subst, sym, ◌∙◌, inl, inr, arith}
use Rattle.std.specs.List.{count_by}
use Rattle.std.specs.Prelude.{IsTrue}
use Rattle.std.proofs.Math.Nat.{add-mul-mod_self_right, mod-add-div', mod-eq_of_lt}
use Rattle.std.proofs.lemmas.Bool.{and_parts, cases_eq, eq-eqb, eqb-true, ne_eqb}
use Rattle.std.proofs.lemmas.List.Sums.{sum_by-cons}
use Rattle.std.proofs.lemmas.Option.{same_Some, slice_get-get_or, slice_get_within}
use Rattle.tab_core.specs.VcpuSets.{has_vcpu}
use Rattle.tab_core.specs.declared.TheConstants.{ROUND}
use Rattle.tab_core.specs.declared.periodic.Periodic.{Periodic}
use Rattle.tab_core.specs.declared.piece.Piece.{Piece}
use Rattle.table_form.specs.Planning.Drafts.{HaveOwnCores, HavePeriods, IsDraft, KeepInWindows, has_in_window, pieces_at}
use Rattle.table_form.specs.Tables.Homes.{are_housed}
use Rattle.table_form.specs.Tables.Plans.{IsPlan}
use Rattle.table_form.specs.Tables.Rows.{Row}
use Rattle.table_form.specs.Tables.Serves.{cell_of, cells_within, flat, owner_at}
use Rattle.table_form.specs.Tables.Segments.{segments_from}
use Rattle.table_form.proofs.Drafting.{distinct_at, found_in, on_core, window_of}
use Rattle.table_form.proofs.Filters.{slice_get-filter}
use Rattle.table_form.proofs.Supplies.{cells_within-le}
use Rattle.table_form.proofs.Serving.{GiveCosts, GiveExactly, IsPlaceOf, KeepPlaces, period_of_task, rows_apart, rows_owned, rows_serve, rows_serve_exactly}
use Rattle.coalesce.specs.Joining.{AreJoined, IsJoined, filled, has_single_piece, may_have_more}
use Rattle.coalesce.proofs.Exact.{exact_in_row}
use Rattle.coalesce.proofs.Grown.{Grows, IsGrownCell, filled_grows, grown_cell, within_grows, within_stays}
use Rattle.coalesce.proofs.Grown.IsGrownCell.{HasBefore, HasCell, Was}
use Rattle.coalesce.proofs.Inside.{AreInWindows, AreServed, swaps_serve}
use Rattle.coalesce.proofs.Swapping.{swaps_keep}
use Rattle.table_form.proofs.SegmentLemmas.{cells_of, cells_of_segments, maximal_of_row}

-- a row of a draft keeps to the windows of its core's pieces
draft_row_inside : (pieces : List Piece) (rows : List Row) (core : ℕ) (row : Row) → KeepInWindows pieces rows
    → slice_get rows core ≡ Some row → AreInWindows (pieces_at pieces core) row
draft_row_inside pieces rows core row inside at vcpu tick cell =
    let owner = ap (λ r. cell_of r tick) at ∙ ap flat cell in
    let found = found_in (has_in_window vcpu tick) (pieces_at pieces core) (inside vcpu tick core owner) in
    let is = window_of vcpu tick found.it found.passes in
    let parts = mod-add-div' tick (found.it).period in
    record {
      at = found.place;
      piece = found.it;
      listed = found.at;
      owner = is.owner;
      window = tick / (found.it).period;
      begun = omega (arith, parts, is.begun);
      not_over = omega (arith, parts, is.not_over);
    }

-- a joined row: after the swaps it serves each job in its window, and then only idle cells are given away
pub record IsGrownRow (pieces : List Piece) (capped : List Bool) (core : ℕ) (new : Row) : Type 0 where
  pub swapped : Row
  pub served : AreServed (pieces_at pieces core) swapped
  pub grows : Grows (may_have_more pieces capped) swapped new
  pub cells : (place v : ℕ) → slice_get new place ≡ Some (Some v) → IsGrownCell
      (may_have_more pieces capped) None swapped place v

-- both rules, one after the other, on one core's row
joined_row : (pieces : List Piece) (capped : List Bool) (sliver core : ℕ) (row new : Row) → HaveOwnCores pieces → AreServed
    (pieces_at pieces core) row → IsJoined (pieces_at pieces core) (may_have_more pieces capped) sliver row new
    → IsGrownRow pieces capped core new
joined_row pieces capped sliver core row new own served is =
    let m = maximal_of_row 0 row (length row) (omega arith) in
    let m' = swaps_keep (pieces_at pieces core) sliver 0 (length row) is.end
    (segments_from 0 row) is.swaps m in
    let new_is : new ≡ cells_of 0 (filled (may_have_more pieces capped) sliver is.end) =
    sym (cells_of_segments 0 new)
    ∙ ap (cells_of 0) is.fills in
    record {
      swapped = cells_of 0 is.end;
      served = swaps_serve (pieces_at pieces core) sliver (length row) is.end (segments_from 0 row)
          (distinct_at pieces core own) is.swaps m
          (subst (AreServed (pieces_at pieces core)) (sym (cells_of_segments 0 row)) served);
      grows = subst (Grows (may_have_more pieces capped) (cells_of 0 is.end)) (sym new_is)
          (filled_grows (may_have_more pieces capped) sliver 0 (record { owner = None; end = 0 }) is.end
          (length row) m');
      cells = λ place v at. grown_cell (may_have_more pieces capped) sliver 0
          (record { owner = None; end = 0 }) is.end
          (length row) place v m' (ap (λ r. slice_get r place) (sym new_is) ∙ at);
    }

-- each row of the plan is such
pub grown_rows : (tasks : List (Option Periodic)) (pieces : List Piece) (homes : List (Option ℕ)) (capped : List Bool) (sliver : ℕ)
    (rows joined : List Row) → IsDraft tasks pieces homes rows → AreJoined pieces capped sliver rows joined
    → (core : ℕ) (new : Row) → slice_get joined core ≡ Some new → IsGrownRow pieces capped core new
grown_rows tasks pieces homes capped sliver rows joined draft are core new at =
    let lt = slice_get_within joined core new at in
    let row = get_or rows core [] in
    let row_at = slice_get-get_or rows core [] (omega (arith, lt, are.size)) in
    joined_row pieces capped sliver core row new draft.own_cores
    (record {
      serves = draft.serves core row row_at;
      inside = draft_row_inside pieces rows core row draft.inside row_at;
    }) (are.each core row new row_at at)

-- each job has at least its cost inside its window
pub jobs_served : (pieces : List Piece) (capped : List Bool) (core : ℕ) (new : Row) → IsGrownRow pieces capped core new
    → (i k : ℕ) (p : Piece)
    → slice_get (pieces_at pieces core) i ≡ Some p → k < ROUND / p.period
    → p.cost ≤ cells_within p.vcpu new (k * p.period + p.from) (k * p.period + p.to)
jobs_served pieces capped core new grown i k p at lt =
    omega (
      arith,
      grown.served.serves i k p at lt,
      within_grows (may_have_more pieces capped) p.vcpu (k * p.period + p.from)
          (k * p.period + p.to) grown.swapped new grown.grows,
    )

-- each period has the cost, since the window lies in it
costs_given : (pieces : List Piece) (capped : List Bool) (joined : List Row) →
    ((core : ℕ) (new : Row) → slice_get joined core ≡ Some new → IsGrownRow pieces capped core new)
    → GiveCosts pieces joined
costs_given pieces capped joined grown core new new_at i k p at lt =
    let served = jobs_served pieces capped core new (grown core new new_at) i k p at lt in
    let more = cells_within-le p.vcpu new (k * p.period) (k * p.period + p.from) (k * p.period + p.to)
    ((k + 1) * p.period) (omega arith) (omega (arith, p.begins)) (omega (arith, p.within)) in
    omega (arith, served, more)

-- the place of a tick in its period
place_in_period : (t tick k from to : ℕ) → to ≤ t → k * t + from ≤ tick → tick < k * t + to
    → (from ≤ tick % t) ×
    (tick % t < to)
place_in_period t tick k from to within begun not_over =
    let r = tick - k * t in
    let split : tick ≡ r + k * t = omega (arith, begun) in
    let small : r < t = omega (arith, begun, not_over, within) in
    let rest : tick % t ≡ r = ap (λ n. n % t) split ∙ add-mul-mod_self_right r k t ∙ mod-eq_of_lt small in
    (omega (arith, rest, begun), omega (arith, rest, begun, not_over))

-- a vCPU with a single piece has no other
count_none : (v : ℕ) (ps : List Piece) → count_by (λ (p : Piece). eqb p.vcpu v) ps ≡ 0 → (i : ℕ) (p : Piece)
    → slice_get ps i ≡ Some p → p.vcpu ≡ v → ⊥
count_none v [] none i p at own = absurd cc
count_none v (q ∷ ps) none zero p at own =
    let here : q.vcpu ≡ v = ap (λ (r : Piece). r.vcpu) (same_Some q p at) ∙ own in
    let one : ◌≡◌ {A = ℕ} (cond (eqb q.vcpu v) 1 0) 1 = ap {B = ℕ} (λ b. cond b 1 0) (eq-eqb q.vcpu v here) in
    omega (arith, none, one, sum_by-cons (λ (r : Piece). cond (eqb r.vcpu v) 1 0) q ps)
count_none v (q ∷ ps) none (suc i) p at own =
    count_none v ps (omega (arith, none, sum_by-cons (λ (r : Piece). cond (eqb r.vcpu v) 1 0) q ps))
    i p at own

-- two pieces of a vCPU with a single piece are the same, so it can't be on two cores
single_is_one : (v : ℕ) (ps : List Piece) → count_by (λ (p : Piece). eqb p.vcpu v) ps ≡ 1
    → (i j : ℕ) (p q : Piece)
    → slice_get ps i ≡ Some p → slice_get ps j ≡ Some q → p.vcpu ≡ v → q.vcpu ≡ v → p ≡ q
single_is_one v [] one i j p q at at' own own' = absurd cc
single_is_one v (r ∷ ps) one i j p q at at' own own' =
    let sum = sum_by-cons (λ (s : Piece). cond (eqb s.vcpu v) 1 0) r ps in
    elim (cases_eq r.vcpu v) [
      | inl here ↦
          let first : ◌≡◌ {A = ℕ} (cond (eqb r.vcpu v) 1 0) 1 =
          ap {B = ℕ} (λ b. cond b 1 0) (eq-eqb r.vcpu v here) in
          let none : count_by (λ (s : Piece). eqb s.vcpu v) ps ≡ 0 = omega (arith, one, sum, first) in
          both_first none i j at at'
      | inr other ↦
          let first : ◌≡◌ {A = ℕ} (cond (eqb r.vcpu v) 1 0) 0 =
          ap {B = ℕ} (λ b. cond b 1 0) (ne_eqb r.vcpu v other) in
          both_later other (λ k l at'' at'''. single_is_one v ps
          (omega (arith, one, sum, first)) k l p q at'' at''' own own') i j at at'
    ]
  where
    both_first : count_by (λ (s : Piece). eqb s.vcpu v) ps ≡ 0 → (i j : ℕ)
        → slice_get (r ∷ ps) i ≡ Some p → slice_get
        (r ∷ ps) j ≡ Some q → p ≡ q
    both_first none zero zero at at' = sym (same_Some r p at) ∙ same_Some r q at'
    both_first none zero (suc j) at at' = absurd (count_none v ps none j q at' own')
    both_first none (suc i) j at at' = absurd (count_none v ps none i p at own)

    both_later : r.vcpu ≢ v → ((k l : ℕ) → slice_get ps k ≡ Some p → slice_get ps l ≡ Some q
        → p ≡ q) → (i j : ℕ)
        → slice_get (r ∷ ps) i ≡ Some p → slice_get (r ∷ ps) j ≡ Some q → p ≡ q
    both_later other rest zero j at at' = absurd (other (ap (λ (s : Piece). s.vcpu) (same_Some r p at) ∙ own))
    both_later other rest (suc i) zero at at' =
        absurd (other (ap (λ (s : Piece). s.vcpu) (same_Some r q at') ∙ own'))
    both_later other rest (suc i) (suc j) at at' = rest i j at at'

-- each cell is at a place of its vCPU
cell_at_place : (pieces : List Piece) (capped : List Bool) (core tick v : ℕ) (new : Row) → IsGrownRow pieces capped core new
    → slice_get new tick ≡ Some (Some v) → IsPlaceOf pieces v tick core
cell_at_place pieces capped core tick v new grown at = by_cell (grown.cells tick v at)
  where
    by_cell : IsGrownCell (may_have_more pieces capped) None grown.swapped tick v → IsPlaceOf pieces v tick core
    by_cell (Was was) =
        let w = grown.served.inside v tick was in
        let kept = slice_get-filter (λ (p : Piece). eqb p.core core) pieces w.at w.piece w.listed in
        let p = w.piece in
        record {
          place = kept.place;
          piece = p;
          at = kept.at;
          owner = w.owner;
          on = on_core pieces core w.at p w.listed;
          inside = inl (place_in_period p.period tick w.window p.from p.to p.within w.begun w.not_over);
        }
    by_cell (HasBefore may none) = absurd cc
    by_cell (HasCell may other found) =
        let w = grown.served.inside v other found in
        let kept = slice_get-filter (λ (p : Piece). eqb p.core core) pieces w.at w.piece w.listed in
        let p = w.piece in
        let on = on_core pieces core w.at p w.listed in
        let one = eqb-true (count_by (λ (q : Piece). eqb q.vcpu v) pieces) 1
        (and_parts (has_single_piece pieces v) (not (has_vcpu capped v)) may).0 in
        record {
          place = kept.place;
          piece = p;
          at = kept.at;
          owner = w.owner;
          on = on;
          inside = inr (λ i q q_at own. ap (λ (r : Piece). r.core)
              (sym (single_is_one v pieces one kept.place i p q kept.at q_at w.owner own)) ∙ on);
        }

-- the cell of a place of a core's row
owner_in_row : (rows : List Row) (core tick v : ℕ) → owner_at rows core tick ≡ Some v → (row : Row) ×
    (slice_get rows core ≡ Some row) × (slice_get row tick ≡ Some (Some v))
owner_in_row rows core tick v owned = in_row (slice_get rows core) refl owned
  where
    in_cell : (row : Row) (cell : Option (Option ℕ)) → slice_get row tick ≡ cell → flat cell ≡ Some v
        → slice_get row tick ≡ Some (Some v)
    in_cell row None is e = absurd cc
    in_cell row (Some o) is e = is ∙ ap Some e

    in_row : (found : Option Row) → slice_get rows core ≡ found → cell_of found tick ≡ Some v → (row : Row) ×
        (slice_get rows core ≡ Some row) × (slice_get row tick ≡ Some (Some v))
    in_row None is e = absurd cc
    in_row (Some row) is e = (row, is, in_cell row (slice_get row tick) refl e)

-- the owners of all cells stay, which keeps the rows apart
places_kept : (pieces : List Piece) (capped : List Bool) (joined : List Row) →
    ((core : ℕ) (new : Row) → slice_get joined core ≡ Some new → IsGrownRow pieces capped core new)
    → KeepPlaces pieces joined
places_kept pieces capped joined grown v tick core owned =
    let row = owner_in_row joined core tick v owned in
    cell_at_place pieces capped core tick v row.0 (grown core row.0 row.1) row.2

-- a capped vCPU gets exactly what its pieces cost
capped_exactly : (tasks : List (Option Periodic)) (pieces : List Piece) (capped : List Bool)
    (joined : List Row) (v : ℕ) (task : Periodic) → HavePeriods tasks pieces → HaveOwnCores pieces
    → ((core : ℕ) (new : Row) → slice_get joined core ≡ Some new → IsGrownRow pieces capped core new)
    → slice_get tasks v ≡ Some (Some task) → IsTrue (has_vcpu capped v) → GiveExactly pieces joined v task
capped_exactly tasks pieces capped joined v task periods own grown has capped_v core new at k lt =
    let is = grown core new at in
    let no_more : may_have_more pieces capped v ≡ false =
    ap (λ b. has_single_piece pieces v && not b) capped_v ∙ and_false (has_single_piece pieces v) in
    exact_in_row (pieces_at pieces core) is.swapped v k task.period (distinct_at pieces core own) is.served
    (λ i p listed own_v.
    let kept = slice_get-filter (λ (q : Piece). eqb q.core core) pieces i p listed in
    period_of_task tasks pieces kept.place p task periods kept.at (ap (slice_get tasks) own_v ∙ has)) lt
    ∙ sym (within_stays (may_have_more pieces capped) v (k * task.period) ((k + 1) * task.period) is.swapped
    new no_more is.grows)
  where
    and_false : (b : Bool) → (b && false) ≡ false
    and_false true = refl
    and_false false = refl

-- the plan of a draft
pub joined_is_plan : (tasks : List (Option Periodic)) (pieces : List Piece)
    (homes : List (Option ℕ)) (capped : List Bool) (sliver : ℕ)
    (rows joined : List Row) → IsDraft tasks pieces homes rows → AreJoined pieces capped sliver rows joined
    → IsPlan (record { tasks = tasks; homes = homes; rows = joined; capped = capped })
joined_is_plan tasks pieces homes capped sliver rows joined draft are =
    let grown = grown_rows tasks pieces homes capped sliver rows joined draft are in
    let keep = places_kept pieces capped joined grown in
    record {
      serves = rows_serve tasks pieces joined draft.periods draft.costs draft.own_cores
          (λ i p at. omega (arith, draft.on_rows i p at, are.size)) (costs_given pieces capped joined grown);
      apart = rows_apart tasks pieces joined draft.periods draft.own_windows keep;
      housed = subst (λ n. IsTrue (are_housed n tasks homes)) (sym are.size) draft.housed;
      owned = rows_owned tasks pieces joined draft.periods keep;
      exact = rows_serve_exactly tasks pieces joined capped draft.costs
          (λ i p at. omega (arith, draft.on_rows i p at, are.size))
          (λ v task has capped_v. capped_exactly tasks pieces capped joined v task draft.periods
          draft.own_cores grown has capped_v);
    }
