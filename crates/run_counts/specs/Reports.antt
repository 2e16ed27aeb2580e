-- What a report counts for a vCPU: how many ticks of a run are offered to it, and its greatest gap.
-- Source: the rules of this project.
use Rattle.std.specs.Prelude.{◌≡◌, ◌⊎◌, ℕ, suc, ◌-◌, ◌*◌, ◌≤◌, List, length}
use Rattle.tab_core.specs.declared.TheConstants.{ROUND}
use Rattle.table_form.specs.Running.Courses.{CourseView}
use Rattle.table_form.specs.Promises.Gaps.{IsGap}
use Rattle.table_form.specs.Promises.Offered.{offers}

-- no gap of the vCPU has more ticks, and where this isn't 0 some gap has as many
pub record IsGreatestGap (course : CourseView) (decided : List ℕ) (v gap : ℕ) : Type 0 where
  pub most : (first last : ℕ) → IsGap course decided v first last → suc last - first ≤ gap
  pub reached : (gap ≡ 0)
      ⊎ ((first : ℕ) × (last : ℕ) × IsGap course decided v first last × (suc last - first ≡ gap))

-- the ticks that a run of so many rounds as there are counts offers to the vCPU
abbrev pub all_offers : CourseView → List ℕ → ℕ → ℕ
all_offers course decided v = offers course decided v 0 (length decided * ROUND)

-- what a report tells of a vCPU, of a run with these counts by round
pub record IsReported (course : CourseView) (decided : List ℕ) (v offered gap : ℕ) : Type 0 where
  pub offered_is : offered ≡ all_offers course decided v
  pub gap_is : IsGreatestGap course decided v gap
