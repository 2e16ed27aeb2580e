-- A report is determined.
use Rattle.std.proofs.Common.{◌≡◌, ℕ, ◌≤◌, inl, inr, List, sym, ◌∙◌, arith}
use Rattle.table_form.specs.Running.Courses.{CourseView}
use Rattle.run_counts.specs.Reports.{IsGreatestGap, IsReported}

-- the one greatest gap isn't above the other
no_longer : (course : CourseView) (decided : List ℕ) (v a b : ℕ) → IsGreatestGap course decided v a
    → IsGreatestGap course decided v b → a ≤ b
no_longer course decided v a b x y = elim x.reached [
  | inl none ↦ omega (arith, none)
  | inr gap ↦ (let le = y.most gap.0 gap.1 gap.2 in omega (arith, le, gap.3))
]

-- two reports of a vCPU are the same
pub one_report : (course : CourseView) (decided : List ℕ) (v offered gap offered' gap' : ℕ)
    → IsReported course decided v offered gap → IsReported course decided v offered' gap'
    → (offered ≡ offered') × (gap ≡ gap')
one_report course decided v offered gap offered' gap' a b =
    let le = no_longer course decided v gap gap' a.gap_is b.gap_is in
    let le' = no_longer course decided v gap' gap b.gap_is a.gap_is in
    (a.offered_is ∙ sym b.offered_is, omega arith)
