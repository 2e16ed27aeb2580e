-- The planner, and what its steps do.
-- Source: the rules of this project.
use Rattle.std.specs.Prelude.{◌≡◌, ◌⊎◌, ℕ, ◌+◌, ◌-◌, ◌≤◌, Bool, true, false, List, Some, length, slice_get}
use Rattle.tab_core.specs.declared.TheConstants.{MAX_CHANGES}
use Rattle.tab_core.specs.declared.host.Host.{Host}
use Rattle.live_plan.specs.declared.cell_shelf.CellShelf.{CellShelf}
use Rattle.live_plan.specs.declared.planner.PlannerAnswer.{PlannerAnswer}
use Rattle.live_plan.specs.declared.planner.PlannerAnswer.TheVariants.{Told, Stopped, Finished}
use Rattle.live_plan.specs.Books.{IsMadeFor, LiveView}
use Rattle.live_plan.specs.Changes.{HostAfter}
use Rattle.live_plan.specs.Inside.Cells.{Puts}
use Rattle.live_plan.specs.Mades.{MadeView}

-- the values of the changes that aren't planned yet, the last change first, the host after the others, the
-- number of the next change, and whether memory ran out for one
pub record PlannerView : Type 0 where
  pub left : List MadeView
  pub standing : Host
  pub next : ℕ
  pub stopped : Bool

-- a planner by what it keeps
abbrev pub planner_view : List MadeView → Host → ℕ → Bool → PlannerView
planner_view left standing next stopped =
    record { left = left; standing = standing; next = next; stopped = stopped }

-- the planner is one of the book
pub record IsPlannerOf (b : LiveView) (p : PlannerView) : Type 0 where
  pub count : length p.left + p.next ≡ length b.changes
  pub few : length b.changes ≤ MAX_CHANGES
  pub each : (k : ℕ) (m : MadeView) → slice_get p.left k ≡ Some m → IsMadeFor b (length b.changes - 1 - k) m
  pub stands : p.stopped ≡ false → HostAfter b.host b.changes p.next p.standing

-- the planner planned its next change, and made one put of that change's value, which is out of memory or
-- isn't, and reached that change's cell, as the first or not
pub record PlansNext (b : LiveView) (p : PlannerView) (s : CellShelf) (change : ℕ) (stopped : Bool)
    (q : PlannerView) (t : CellShelf) : Type 0 where
  pub going : p.stopped ≡ false
  pub change_is : change ≡ p.next
  pub next : q.next ≡ p.next + 1
  pub stopped_is : q.stopped ≡ stopped
  pub made : MadeView
  pub for_it : IsMadeFor b change made
  pub first : Bool
  pub put : Puts s made first t
  pub is : t.stopped ≡ stopped

-- what a step of the planner did to it and to the shelf
abbrev pub PlannerTold : LiveView → PlannerView → CellShelf → PlannerAnswer → PlannerView → CellShelf → Type 0
PlannerTold b p s (Told change) q t = PlansNext b p s change false q t
PlannerTold b p s (Stopped change) q t = PlansNext b p s change true q t
PlannerTold b p s Finished q t = (q.next ≡ p.next) × (q.stopped ≡ p.stopped) × (t ≡ s)
    × ((p.next ≡ length b.changes) ⊎ (p.stopped ≡ true))
