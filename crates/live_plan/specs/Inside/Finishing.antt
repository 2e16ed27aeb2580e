-- What the end of a live core's step did.
use Rattle.std.specs.Prelude.{◌≡◌, ◌⊎◌, ℕ, ◌<◌, true}
use Rattle.tab_core.specs.declared.actor.Actor.{Actor}
use Rattle.tab_core.specs.declared.actor.Actor.TheVariants.{Core, Controller}
use Rattle.table_form.specs.Running.Courses.{CourseView}
use Rattle.round_words.specs.declared.view.View.{View}
use Rattle.round_words.specs.Views.{part}
use Rattle.dispatch_core.specs.Parts.{SameButHeard}
use Rattle.dispatch_core.specs.declared.answer.Ended.{Ended}
use Rattle.dispatch_core.specs.declared.answer.Ended.TheVariants.{Ran as RanOn, Behind as TooEarly}
use Rattle.dispatch_core.specs.Told.{EndGoes, EndTold}
use Rattle.live_book.specs.Books.{LiveView, changes_before}
use Rattle.live_book.specs.Courses.{IsLiveCourse}
use Rattle.live_book.specs.Shelves.{Knows, Missed, ShelfView}
use Rattle.live_plan.specs.declared.answer.LiveAnswer.{LiveAnswer}
use Rattle.live_plan.specs.declared.answer.LiveAnswer.TheVariants.{Ran, Behind, NotMade, Stopped, Finished}
use Rattle.live_plan.specs.Asking.{IsBeyond, LooksBeyond}

-- a core that waits looked beyond what it saw
abbrev pub WaitTold : LiveView → ℕ → Actor → ℕ → ShelfView → LiveAnswer → ShelfView → Type 0
WaitTold b seen who tick s (Behind who' tick') t = (who' ≡ who) × (tick' ≡ tick) × LooksBeyond b seen s t
WaitTold b seen who tick s (Stopped change) t = IsBeyond b seen change × Knows t change true
WaitTold b seen who tick s (Ran stint) t = ⊥
WaitTold b seen who tick s (NotMade change) t = ⊥
WaitTold b seen who tick s Finished t = ⊥

-- a step of core c ended so: in all that needs no plan, and by each course of the book
pub record IsEndOf (b : LiveView) (c : ℕ) (v : View) (ended : Ended) (w : View) : Type 0 where
  pub goes : EndGoes b.outline c v ended w
  pub told : (course : CourseView) → IsLiveCourse b course → EndTold course c v ended w

-- core c waits for core d, and only heard the others
pub record WaitsForCore (b : LiveView) (c : ℕ) (v : View) (d tick : ℕ) (w : View) : Type 0 where
  pub end : IsEndOf b c v (TooEarly d tick) w
  pub still : SameButHeard (part v c) (part w c)

-- it waits for some core
pub record WaitsForSome (b : LiveView) (c : ℕ) (v w : View) : Type 0 where
  pub core : ℕ
  pub tick : ℕ
  pub waits : WaitsForCore b c v core tick w

-- what the end of core c's step did, which has seen the one count and uses the other
abbrev pub LiveFinishTold : LiveView → ℕ → ℕ → ℕ → View → ShelfView → LiveAnswer → View → ShelfView → Type 0
LiveFinishTold b c seen used v s (Ran stint) w t = IsEndOf b c v (RanOn stint) w
LiveFinishTold b c seen used v s (Behind (Core d) tick) w t = WaitsForCore b c v d tick w × LooksBeyond b seen s t
LiveFinishTold b c seen used v s (Behind Controller tick) w t = ⊥
LiveFinishTold b c seen used v s (NotMade change) w t = (w ≡ v) × (change < changes_before b used)
    × Missed s t change
LiveFinishTold b c seen used v s (Stopped change) w t =
    (((w ≡ v) × (change < changes_before b used)) ⊎ (WaitsForSome b c v w × IsBeyond b seen change))
    × Knows t change true
LiveFinishTold b c seen used v s Finished w t = ⊥
