-- The step of a core, and of the controller, as its kind tells of it.
use Rattle.std.proofs.Common.{◌≡◌, length, refl, sym, ap, ◌∙◌, subst}
use Rattle.table_form.specs.Running.Courses.{CourseView, outline_of}
use Rattle.round_words.specs.declared.view.View.{View}
use Rattle.round_words.specs.Changes.{ChangesOnly}
use Rattle.round_words.specs.Views.{controller}
use Rattle.crew_turns.specs.declared.stepper.Turn.{Turn}
use Rattle.crew_turns.specs.declared.stepper.Turn.TheVariants.{Ended, Moved, Waits}
use Rattle.crew_turns.specs.Going.{PartsGoOn}
use Rattle.crew_turns.specs.Kinds.{Stepped}
use Rattle.dispatch_core.specs.declared.answer.CoreAnswer.{CoreAnswer}
use Rattle.dispatch_core.specs.declared.answer.CoreAnswer.TheVariants.{Ran, Behind, Finished}
use Rattle.dispatch_core.specs.States.{ActorView, AgreesWith, IsSameCore, StateView, actor_view}
use Rattle.dispatch_core.specs.Told.{CoreTold}
use Rattle.plan_switch.specs.Controllers as controllers
use Rattle.plan_switch.specs.Controllers.{ControllerView}
use Rattle.plan_switch.specs.declared.answer.ControlAnswer.{ControlAnswer}
use Rattle.plan_switch.specs.declared.answer.ControlAnswer.TheVariants as control
use Rattle.plan_switch.specs.Told.{ControlTold}
use Rattle.core_workers.specs.Actors.{CoreAgrees, core_kind, lead_kind}
use Rattle.core_workers.specs.Waiting.{CoreWaits, LeadWaits}
use Rattle.core_workers.proofs.Causes.{CoreStep, LeadStep, core_parts, core_stepped, lead_stepped}

-- what a core's answer is to its crew, and the controller's
abbrev pub core_turn : CoreAnswer → Turn
core_turn (Ran s) = Moved
core_turn (Behind who tick) = Waits
core_turn Finished = Ended

abbrev pub lead_turn : ControlAnswer → Turn
lead_turn (control.Posted count) = Moved
lead_turn (control.Behind core tick) = Waits
lead_turn control.Finished = Ended

core_as : (a b : ActorView) (v w : View) (answer : CoreAnswer) → b.course ≡ a.course → CoreStep a.course a.state v answer b.state w → Stepped core_kind a v (core_turn answer) b w
core_as a b v w (Ran s) same step = step
core_as a b v w (Behind who tick) same step = (step.0, step.1, subst (λ (k : CourseView). CoreWaits k b.state.core v w) (sym same) step.2)
core_as a b v w Finished same step = step

lead_as : (a b : ControllerView) (v w : View) (answer : ControlAnswer) → b.course ≡ a.course → LeadStep a.course a.state.posted v answer b.state.posted w → Stepped lead_kind a v (lead_turn answer) b w
lead_as a b v w (control.Posted count) same step = step
lead_as a b v w (control.Behind core tick) same step = (step.0, step.1, subst (λ (k : CourseView). LeadWaits k b.state.posted v w) (sym same) step.2)
lead_as a b v w control.Finished same step = (step.0, step.1, step.2 ∙ ap (λ (k : CourseView). length k.ticks) (sym same))

-- a core's step
module _ (a : ActorView) (b : StateView) (v w : View) (answer : CoreAnswer) (agrees : CoreAgrees a v) (now : AgreesWith a.course b w) (same : IsSameCore a.state b)
    (changes : ChangesOnly v w a.state.core) (told : CoreTold a.course a.state.rounds a.state.core v answer w) where
  pub core_goes : PartsGoOn v w
  core_goes = core_parts a.course a.state.rounds a.state.core v w answer agrees.course_kept changes told

  pub core_told : Stepped core_kind a v (core_turn answer) (actor_view a.course b) w
  core_told = core_as a (actor_view a.course b) v w answer refl (core_stepped a.course a.state b v w answer agrees.course_kept same agrees.agrees now changes told)

-- the controller's step
pub lead_told : (k l : ControllerView) (v w : View) (answer : ControlAnswer) → controllers.ControlAgreesWith k.course k.state v → controllers.ControlAgreesWith l.course l.state w → l.course ≡ k.course
    → ChangesOnly v w controller → ControlTold (outline_of k.course) k.state.posted v answer w → Stepped lead_kind k v (lead_turn answer) l w
lead_told k l v w answer was now same changes told = lead_as k l v w answer same
    (lead_stepped k.course k.state l.state v w answer was (subst (λ (x : CourseView). controllers.ControlAgreesWith x l.state w) same now) changes told)
