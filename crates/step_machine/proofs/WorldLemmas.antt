-- The slice tables of each core, made core by core.
use Rattle.std.proofs.Common.{ℕ, ◌+◌, List, [], ◌∷◌, ◌++◌, inl, inr, length-append, refl, subst, arith}
use Rattle.tab_core.proofs.Lists.{push_split}
use Rattle.table_form.specs.Running.Courses.{CourseView}
use Rattle.slice_table.specs.CoreSlices.{AreSlicesOf}
use Rattle.slice_table.specs.declared.full_span.FullSpan.{FullSpan}
use Rattle.step_machine.specs.Inside.Worlds.{HaveFirstSlices}

-- no core's tables yet
pub slices_none : (course : CourseView) → HaveFirstSlices course 0 []
slices_none course = record { count = refl; each = λ c tables at. absurd cc }

-- those of one core more
pub slices_more : (course : CourseView) (n : ℕ) (slices : List (List (List FullSpan))) (tables : List (List FullSpan))
    → HaveFirstSlices course n slices → AreSlicesOf course n tables
    → HaveFirstSlices course (n + 1) (slices ++ tables ∷ [])
slices_more course n slices tables first of = record {
  count = (let more = length-append slices (tables ∷ []) in omega (arith, more, first.count));
  each = λ c t at. elim (push_split slices c tables t at) [
    | inl old ↦ first.each c t old
    | inr new ↦ subst (λ (x : List (List FullSpan)). AreSlicesOf course c x) new.1
        (rw (new.0, first.count) of)
  ];
}
