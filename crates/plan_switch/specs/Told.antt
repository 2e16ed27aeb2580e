-- What a step of the controller does to the view, for each of its answers.
use Rattle.std.specs.Prelude.{◌≡◌, ℕ, suc, ◌<◌, length, slice_index}
use Rattle.table_form.specs.Running.Outlines.{OutlineView}
use Rattle.round_words.specs.declared.view.Part.{Part}
use Rattle.round_words.specs.declared.view.View.{View}
use Rattle.round_words.specs.Hearing.{HearsCores, MeetsLow}
use Rattle.round_words.specs.Views.{controller, part, posts}
use Rattle.plan_switch.specs.declared.answer.ControlAnswer.{ControlAnswer}
use Rattle.plan_switch.specs.declared.answer.ControlAnswer.TheVariants.{Posted, Behind, Finished}
use Rattle.plan_switch.specs.Controllers.{floor_of}

-- Post: the controller hears all cores, of which none has a clock below the next event's tick less the lag, and posts it
pub record PostsNext (o : OutlineView) (v w : View) (n : ℕ) : Type 0 where
  pub heard : Part
  pub near : HearsCores controller o.lag (slice_index o.ticks n) o.cores (part v controller) heard
  pub becomes : part w controller ≡ posts heard (floor_of o n)

-- what a step of the controller that has posted n events did to the view v, of which w came
abbrev pub ControlTold : OutlineView → ℕ → View → ControlAnswer → View → Type 0
ControlTold o n v (Posted count) w = (n < length o.ticks) × (count ≡ suc n) × PostsNext o v w n
ControlTold o n v (Behind d tick) w = (n < length o.ticks)
    × MeetsLow v w controller o.cores o.lag (slice_index o.ticks n) d tick
ControlTold o n v Finished w = (n ≡ length o.ticks) × (w ≡ v)
