-- What a step of a live controller does.
-- Source: the rules of this project.
use Rattle.std.specs.Prelude.{◌≡◌, ℕ, ◌<◌, true, false, length}
use Rattle.round_words.specs.declared.view.View.{View}
use Rattle.plan_switch.specs.declared.answer.ControlAnswer.TheVariants as control
use Rattle.plan_switch.specs.Told.{ControlTold}
use Rattle.live_book.specs.Books.{IsChange, LiveView, changes_before}
use Rattle.live_book.specs.Shelves.{Knows, Missed, ShelfView}
use Rattle.live_plan.specs.declared.controller.LiveControl.{LiveControl}
use Rattle.live_plan.specs.declared.controller.LiveControl.TheVariants.{Posted, Behind, NotMade, Stopped, Finished}

-- event n, the next one, is this change
pub record IsNextChange (b : LiveView) (n change : ℕ) : Type 0 where
  pub some : n < length b.outline.ticks
  pub is : IsChange b n
  pub number : change ≡ changes_before b n

-- what a step of the controller that has posted n events did to the view v and the shelf s: it is as a step
-- of a controller with a course, but a change is posted only where the shelf knows a value for it other than
-- out of memory
abbrev pub LiveControlTold : LiveView → ℕ → View → ShelfView → LiveControl → View → ShelfView → Type 0
LiveControlTold b n v s (Posted count) w t = ControlTold b.outline n v (control.Posted count) w
    × (IsChange b n → Knows t (changes_before b n) false)
LiveControlTold b n v s (Behind core tick) w t = ControlTold b.outline n v (control.Behind core tick) w
LiveControlTold b n v s (NotMade change) w t = IsNextChange b n change × (w ≡ v) × Missed s t change
LiveControlTold b n v s (Stopped change) w t = IsNextChange b n change × (w ≡ v) × Knows t change true
LiveControlTold b n v s Finished w t = ControlTold b.outline n v control.Finished w
