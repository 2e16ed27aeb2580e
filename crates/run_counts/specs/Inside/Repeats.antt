-- Rounds of one plan in a row, which give a vCPU the same stretch over and over.
use Rattle.std.specs.Prelude.{◌≡◌, ℕ, zero, suc, ◌≤◌, List, Some, slice_get}
use Rattle.table_form.specs.Running.Courses.{CourseView, plan_number_after}
use Rattle.run_counts.specs.declared.stretch.Stretch.{Stretch}
use Rattle.run_counts.specs.Stretches.{IsSmall, joined, no_ticks}

-- rounds r and q have the same plan
abbrev pub HasSamePlan : CourseView → List ℕ → ℕ → ℕ → Type 0
HasSamePlan course used r q = (count other : ℕ) → slice_get used r ≡ Some count
    → slice_get used q ≡ Some other → plan_number_after course count ≡ plan_number_after course other

-- the stretch so many times in a row
unfoldable pub repeated : Stretch → ℕ → Stretch
repeated s zero = no_ticks
repeated s (suc n) = joined (repeated s n) s

-- the parts of the stretch agree: the lead is one of its waits, and all of it exactly where the tail is
pub record IsSoundStretch (s : Stretch) : Type 0 where
  pub small : IsSmall s
  pub most : s.most ≤ s.ticks
  pub lead_most : s.lead ≤ s.most
  pub lead_whole : s.lead ≡ s.ticks → s.tail ≡ s.ticks
  pub tail_whole : s.tail ≡ s.ticks → s.lead ≡ s.ticks
