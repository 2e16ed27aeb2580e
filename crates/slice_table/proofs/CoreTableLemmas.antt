-- The tables of a core, made plan by plan.
use Rattle.std.proofs.Common.{◌≡◌, ℕ, ◌+◌, List, [], ◌∷◌, ◌++◌, inl, inr, length-append, refl, subst, arith}
use Rattle.std.specs.Prelude.{slice_index_or}
use Rattle.tab_core.proofs.Lists.{push_split}
use Rattle.table_form.specs.Running.Courses.{no_plan}
use Rattle.table_form.specs.Tables.Plans.{PlanView}
use Rattle.slice_table.specs.declared.full_span.FullSpan.{FullSpan}
use Rattle.slice_table.specs.Slices.{IsTableOf}
use Rattle.slice_table.specs.Inside.Tables.{AreFirstTables}

-- no table yet
pub tables_none : (plans : List PlanView) (c : ℕ) → AreFirstTables plans c 0 []
tables_none plans c = record { count = refl; each = λ k table at. absurd cc }

-- one more
pub tables_more : (plans : List PlanView) (c n : ℕ) (tables : List (List FullSpan)) (table : List FullSpan) (plan : PlanView)
    → AreFirstTables plans c n tables → plan ≡ slice_index_or plans n no_plan → IsTableOf plan c table
    → AreFirstTables plans c (n + 1) (tables ++ table ∷ [])
tables_more plans c n tables table plan first is of = record {
  count = (let more = length-append tables (table ∷ []) in omega (arith, more, first.count));
  each = λ k t at. elim (push_split tables k table t at) [
    | inl old ↦ first.each k t old
    | inr new ↦ subst (λ (x : List FullSpan). IsTableOf (slice_index_or plans k no_plan) c x) new.1
        (rw (new.0, first.count) (subst (λ (p : PlanView). IsTableOf p c table) is of))
  ];
}
