-- The step of a live core, and of the controller, as its kind tells of it.
use Rattle.std.proofs.Common.{◌≡◌, ◌≢◌, ℕ, ◌*◌, length, inl, inr, sym, ap, ◌∙◌, subst, arith}
use Rattle.tab_core.specs.declared.TheConstants.{ROUND}
use Rattle.tab_core.specs.declared.actor.Actor.{Actor}
use Rattle.tab_core.specs.declared.actor.Actor.TheVariants.{Core, Controller}
use Rattle.table_form.specs.Running.Outlines.{OutlineView}
use Rattle.round_words.specs.declared.view.View.{View}
use Rattle.round_words.specs.Changes.{ChangesOnly}
use Rattle.round_words.specs.Views.{controller, part}
use Rattle.crew_turns.specs.declared.stepper.Turn.{Turn}
use Rattle.crew_turns.specs.declared.stepper.Turn.TheVariants as turn
use Rattle.crew_turns.specs.Going.{IsQuiet, PartsGoOn}
use Rattle.crew_turns.specs.Kinds.{Stepped}
use Rattle.crew_turns.proofs.GoingLemmas.{board_step, parts_none}
use Rattle.dispatch_core.specs.declared.answer.CoreAnswer.TheVariants as core
use Rattle.dispatch_core.specs.States.{IsSameCore, StateView}
use Rattle.dispatch_core.specs.Told.{CoreGoes}
use Rattle.plan_switch.specs.Controllers.{HasPosted}
use Rattle.plan_switch.specs.declared.answer.ControlAnswer.TheVariants as control
use Rattle.plan_switch.specs.declared.state.ControlState.{ControlState}
use Rattle.core_workers.proofs.Causes.{begun_parts, begun_quiet, goes_parts, lacks_quiet, later, lead_parts, lead_stepped, low_quiet, quiet_none}
use Rattle.live_plan.specs.declared.answer.LiveAnswer.{LiveAnswer}
use Rattle.live_plan.specs.declared.answer.LiveAnswer.TheVariants.{Ran, Behind, NotMade, Stopped, Finished}
use Rattle.live_plan.specs.declared.controller.LiveControl.{LiveControl}
use Rattle.live_plan.specs.declared.controller.LiveControl.TheVariants as lead
use Rattle.live_plan.specs.Actors.{LiveActorView, LiveAgrees}
use Rattle.live_plan.specs.Books.{LiveView}
use Rattle.live_plan.specs.Controls.{LiveControlTold}
use Rattle.live_plan.specs.Crews.{bare}
use Rattle.live_plan.specs.Players.{LeadView, LiveCoreAgrees, MemberView, lead_view, live_core_kind, live_lead_kind, member_view}
use Rattle.live_plan.specs.PlayerLaws.{live_part}
use Rattle.live_plan.specs.Shelves.{ShelfView}
use Rattle.live_plan.specs.Told.{LiveTold, NeedsChange}

-- another's step leaves an actor in agreement
pub live_others : (b : LiveView) (a : StateView) (v w : View) (c : ℕ) → LiveAgrees b a v → ChangesOnly v w c → a.core ≢ c
    → LiveAgrees b a w
live_others b a v w c agrees changes away = live_part b a v w agrees (board_step v w c changes)
    (changes.actors a.core ∙ agrees.stands.core.1) (changes.parts a.core away)

-- what a core's answer is to its crew, and the controller's
abbrev pub core_turn : LiveAnswer → Turn
core_turn (Ran stint) = turn.Moved
core_turn (Behind who tick) = turn.Waits
core_turn (NotMade change) = turn.Waits
core_turn (Stopped change) = turn.Stopped
core_turn Finished = turn.Ended

abbrev pub lead_turn : LiveControl → Turn
lead_turn (lead.Posted count) = turn.Moved
lead_turn (lead.Behind core tick) = turn.Waits
lead_turn (lead.NotMade change) = turn.Waits
lead_turn (lead.Stopped change) = turn.Stopped
lead_turn lead.Finished = turn.Ended

-- a core's step
module _ (m : MemberView) (n : LiveActorView) (v w : View) (s t : ShelfView) (agrees : LiveCoreAgrees m v) (now : LiveAgrees m.book n.state w)
    (same : IsSameCore m.actor.state n.state) (changes : ChangesOnly v w m.actor.state.core) where
  abbrev c : ℕ
  c = m.actor.state.core

  abbrev rounds : ℕ
  rounds = m.actor.state.rounds

  abbrev o : OutlineView
  o = m.book.outline

  begun_on : (change : ℕ) → NeedsChange m.book rounds c v change w → PartsGoOn v w
  begun_on change needs = begun_parts o c v w changes needs.seen needs.begins.enters

  pub core_goes : (answer : LiveAnswer) → LiveTold m.book rounds c v s answer w t → PartsGoOn v w
  core_goes (Ran stint) told = goes_parts o c v w changes rounds (core.Ran stint) told.goes
  core_goes (Behind who tick) told = goes_parts o c v w changes rounds (core.Behind who tick) told.0.step.goes
  core_goes (NotMade change) told = begun_on change told.0
  core_goes (Stopped change) (inl needs, knows) = begun_on change needs
  core_goes (Stopped change) (inr before, knows) = goes_parts o c v w changes rounds (core.Behind before.who before.tick) before.waits.step.goes
  core_goes Finished told = goes_parts o c v w changes rounds core.Finished told

  -- where it doesn't get on it keeps its clock
  clock_now : n.state.clock ≡ (part w c).clock
  clock_now = now.stands.clock ∙ ap (λ (i : ℕ). (part w i).clock) same.core

  clock_stays : IsQuiet v w → n.state.clock ≡ m.actor.state.clock
  clock_stays quiet = clock_now ∙ (quiet.clocks c ∙ sym agrees.agrees.stands.clock)

  still : IsQuiet v w → Stepped live_core_kind m v turn.Waits (member_view m.book n) w
  still quiet = (clock_stays quiet, quiet, tt)

  needs_quiet : (change : ℕ) → NeedsChange m.book rounds c v change w → IsQuiet v w
  needs_quiet change needs = begun_quiet o c v w changes needs.seen needs.begins.enters

  waits_quiet : (who : Actor) (tick : ℕ) → CoreGoes o rounds c v (core.Behind who tick) w → IsQuiet v w
  waits_quiet Controller tick goes = lacks_quiet o c v w changes tick goes.1
  waits_quiet (Core d) tick goes = low_quiet o c v w changes goes.0 goes.1 goes.2.enters d tick goes.3

  pub core_told : (answer : LiveAnswer) → LiveTold m.book rounds c v s answer w t
      → Stepped live_core_kind m v (core_turn answer) (member_view m.book n) w
  core_told (Ran stint) told = let goes = told.goes in
      omega (arith, later o c v w changes goes.0 goes.1 goes.2.enters stint goes.3, agrees.agrees.stands.clock, clock_now)
  core_told (Behind who tick) told = still (waits_quiet who tick told.0.step.goes)
  core_told (NotMade change) told = still (needs_quiet change told.0)
  core_told (Stopped change) (inl needs, knows) = still (needs_quiet change needs)
  core_told (Stopped change) (inr before, knows) = still (waits_quiet before.who before.tick before.waits.step.goes)
  core_told Finished told =
      let quiet = subst (IsQuiet v) (sym told.1) (quiet_none v) in
      let stays = clock_stays quiet in
      (stays, quiet, stays ∙ (agrees.agrees.stands.clock ∙ (told.0 ∙ ap (λ (r : ℕ). r * ROUND) (sym same.rounds))))

-- the controller's step
module _ (k : LeadView) (l : ControlState) (v w : View) (s t : ShelfView) (was : HasPosted k.book.outline k.control v)
    (now : HasPosted k.book.outline l w) (changes : ChangesOnly v w controller) where
  abbrev n : ℕ
  n = k.control.posted

  pub lead_goes : (answer : LiveControl) → LiveControlTold k.book n v s answer w t → PartsGoOn v w
  lead_goes (lead.Posted count) told = lead_parts (bare k.book) n v w (control.Posted count) changes told.0
  lead_goes (lead.Behind core tick) told = lead_parts (bare k.book) n v w (control.Behind core tick) changes told
  lead_goes (lead.NotMade change) told = subst (PartsGoOn v) (sym told.1) (parts_none v)
  lead_goes (lead.Stopped change) told = subst (PartsGoOn v) (sym told.1) (parts_none v)
  lead_goes lead.Finished told = lead_parts (bare k.book) n v w control.Finished changes told

  -- where nothing happened
  nothing : w ≡ v → Stepped live_lead_kind k v turn.Waits (lead_view k.book l) w
  nothing is = (
    now.posted ∙ (ap (λ (u : View). length (part u controller).floors) is ∙ sym was.posted),
    subst (IsQuiet v) (sym is) (quiet_none v),
    tt,
  )

  pub lead_told : (answer : LiveControl) → LiveControlTold k.book n v s answer w t
      → Stepped live_lead_kind k v (lead_turn answer) (lead_view k.book l) w
  lead_told (lead.Posted count) told = lead_stepped (bare k.book) k.control l v w (control.Posted count) was now changes told.0
  lead_told (lead.Behind core tick) told =
      let step = lead_stepped (bare k.book) k.control l v w (control.Behind core tick) was now changes told in (step.0, step.1, tt)
  lead_told (lead.NotMade change) told = nothing told.1
  lead_told (lead.Stopped change) told = nothing told.1
  lead_told lead.Finished told = lead_stepped (bare k.book) k.control l v w control.Finished was now changes told
