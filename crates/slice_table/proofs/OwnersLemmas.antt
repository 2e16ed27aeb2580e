-- The owners in rows, row by row and plan by plan.
use Rattle.std.proofs.Common.{◌≡◌, ℕ, zero, suc, ◌+◌, ◌<◌, Bool, List, [], ◌∷◌, ◌++◌, inl, inr, get_or, length, length-append, Some, refl, sym, ap, ◌∙◌, subst, arith}
use Rattle.std.specs.Prelude.{slice_get, slice_index_or}
use Rattle.std.proofs.lemmas.Option.{same_Some}
use Rattle.tab_core.proofs.Lists.{push_split}
use Rattle.table_form.specs.declared.segment.Segment.{Segment}
use Rattle.table_form.specs.Running.Courses.{no_plan}
use Rattle.table_form.specs.Tables.Plans.{PlanView}
use Rattle.table_form.specs.Tables.Rows.{Row, RisesTo}
use Rattle.table_form.proofs.RowLemmas.{rises_parts}
use Rattle.slice_table.specs.Owners.{AreOwnersIn, AreRowOwners}
use Rattle.slice_table.specs.Inside.Owners.{AreFirstOwners, AreFirstSets}

-- each end is above the start
pub ends_above : (start end : ℕ) (ss : List Segment) (j : ℕ) (d : Segment) → RisesTo start ss end → j < length ss
    → start < (get_or ss j d).end
ends_above start end [] j d rises lt = absurd (omega arith)
ends_above start end (s ∷ ss) zero d rises lt = (rises_parts start s ss end rises).0
ends_above start end (s ∷ ss) (suc j) d rises lt =
    let parts = rises_parts start s ss end rises in
    let above = ends_above s.end end ss j d parts.1 (omega arith) in omega (arith, above, parts.0)

-- each end is above those before it
pub ends_apart : (start end : ℕ) (ss : List Segment) (i j : ℕ) (d : Segment) → RisesTo start ss end → i < j
    → j < length ss → (get_or ss i d).end < (get_or ss j d).end
ends_apart start end [] i j d rises before lt = absurd (omega arith)
ends_apart start end (s ∷ ss) i zero d rises before lt = absurd (omega arith)
ends_apart start end (s ∷ ss) zero (suc j) d rises before lt =
    ends_above s.end end ss j d (rises_parts start s ss end rises).1 (omega arith)
ends_apart start end (s ∷ ss) (suc i) (suc j) d rises before lt =
    ends_apart s.end end ss i j d (rises_parts start s ss end rises).1 (omega arith) (omega arith)

-- no row yet
pub sets_none : (rows : List Row) → AreFirstSets rows 0 []
sets_none rows = record { count = refl; each = λ d row set at there. absurd cc }

-- one row more
pub sets_more : (rows : List Row) (n : ℕ) (sets : List (List Bool)) (set : List Bool) (row : Row)
    → AreFirstSets rows n sets → slice_get rows n ≡ Some row → AreOwnersIn row set
    → AreFirstSets rows (n + 1) (sets ++ set ∷ [])
sets_more rows n sets set row first is of = record {
  count = (let more = length-append sets (set ∷ []) in omega (arith, more, first.count));
  each = λ d r t at there. elim (push_split sets d set t there) [
    | inl old ↦ first.each d r t at old
    | inr new ↦
        let here : slice_get rows d ≡ Some row = ap (slice_get rows) (new.0 ∙ first.count) ∙ is in
        subst (AreOwnersIn r) new.1 (subst (λ (x : Row). AreOwnersIn x set)
        (same_Some row r (sym here ∙ at)) of)
  ];
}

-- no plan yet
pub owners_none : (plans : List PlanView) → AreFirstOwners plans 0 []
owners_none plans = record { count = refl; each = λ k sets at. absurd cc }

-- one plan more
pub owners_more : (plans : List PlanView) (n : ℕ) (owners : List (List (List Bool))) (sets : List (List Bool)) (plan : PlanView)
    → AreFirstOwners plans n owners → plan ≡ slice_index_or plans n no_plan → AreRowOwners plan sets
    → AreFirstOwners plans (n + 1) (owners ++ sets ∷ [])
owners_more plans n owners sets plan first is of = record {
  count = (let more = length-append owners (sets ∷ []) in omega (arith, more, first.count));
  each = λ k t at. elim (push_split owners k sets t at) [
    | inl old ↦ first.each k t old
    | inr new ↦ subst (λ (x : List (List Bool)). AreRowOwners (slice_index_or plans k no_plan) x) new.1
        (rw (new.0, first.count) (subst (λ (p : PlanView). AreRowOwners p sets) is of))
  ];
}
