-- What a step of a live core does, for each of its answers.
-- Source: the rules of this project.
use Rattle.std.specs.Prelude.{◌≡◌, ◌⊎◌, ℕ, ◌*◌, ◌<◌, true}
use Rattle.tab_core.specs.declared.TheConstants.{ROUND}
use Rattle.tab_core.specs.declared.actor.Actor.{Actor}
use Rattle.table_form.specs.Running.Courses.{CourseView}
use Rattle.round_words.specs.declared.view.View.{View}
use Rattle.round_words.specs.Views.{last_of, part}
use Rattle.dispatch_core.specs.declared.answer.CoreAnswer.{CoreAnswer}
use Rattle.dispatch_core.specs.declared.answer.CoreAnswer.TheVariants as core
use Rattle.dispatch_core.specs.Told.{BeginsStep, CoreGoes, CoreTold}
use Rattle.live_book.specs.Books.{LiveView}
use Rattle.live_book.specs.Courses.{IsLiveCourse}
use Rattle.live_book.specs.Shelves.{Knows, Missed, ShelfView}
use Rattle.live_plan.specs.declared.answer.LiveAnswer.{LiveAnswer}
use Rattle.live_plan.specs.declared.answer.LiveAnswer.TheVariants.{Ran, Behind, NotMade, Stopped, Finished}
use Rattle.live_plan.specs.Asking.{IsBeyond, LooksBeyond, Needs}

-- the step did what a step of core c does: in all that needs no plan, and by each course of the book
pub record IsStepOf (b : LiveView) (rounds c : ℕ) (v : View) (answer : CoreAnswer) (w : View) : Type 0 where
  pub goes : CoreGoes b.outline rounds c v answer w
  pub told : (course : CourseView) → IsLiveCourse b course → CoreTold course rounds c v answer w

-- the core waits for this actor, and ran nothing
pub record WaitsFor (b : LiveView) (rounds c : ℕ) (v : View) (who : Actor) (tick : ℕ) (w : View)
    : Type 0 where
  pub step : IsStepOf b rounds c v (core.Behind who tick) w
  pub unfinished : (part v c).clock < rounds * ROUND
  pub clock : (part w c).clock ≡ (part v c).clock
  pub stints : (part w c).stints ≡ (part v c).stints

-- the core has begun its step, and needs this change for its round's plan
pub record NeedsChange (b : LiveView) (rounds c : ℕ) (v : View) (change : ℕ) (w : View) : Type 0 where
  pub seen : ℕ
  pub begins : BeginsStep b.outline rounds c v seen (part w c)
  pub needs : Needs b (part w c) change

-- the core waits, and this is the first change beyond the events that it saw
pub record WaitsBefore (b : LiveView) (rounds c : ℕ) (v : View) (change : ℕ) (w : View) : Type 0 where
  pub who : Actor
  pub tick : ℕ
  pub waits : WaitsFor b rounds c v who tick w
  pub beyond : IsBeyond b (last_of (part w c).sights) change

-- what a core's step did to the view v and the shelf s: it is as a step by the course, with the plans that
-- the shelf gives. A core that waits looks whether memory ran out for the next change too
abbrev pub LiveTold : LiveView → ℕ → ℕ → View → ShelfView → LiveAnswer → View → ShelfView → Type 0
LiveTold b rounds c v s (Ran stint) w t = IsStepOf b rounds c v (core.Ran stint) w
LiveTold b rounds c v s (Behind who tick) w t = WaitsFor b rounds c v who tick w
    × LooksBeyond b (last_of (part w c).sights) s t
LiveTold b rounds c v s (NotMade change) w t = NeedsChange b rounds c v change w × Missed s t change
LiveTold b rounds c v s (Stopped change) w t =
    (NeedsChange b rounds c v change w ⊎ WaitsBefore b rounds c v change w) × Knows t change true
LiveTold b rounds c v s Finished w t = ((part v c).clock ≡ rounds * ROUND) × (w ≡ v)
