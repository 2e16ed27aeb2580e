-- The laws of a crew's actors: what stays of an actor's agreement with its part, and of what it waits for.
use Rattle.std.proofs.Common.{◌≡◌, ℕ, ◌*◌, ◌<◌, true, length, inl, inr, refl, sym, ap, ◌∙◌, subst, arith}
use Rattle.std.specs.Prelude.{take}
use Rattle.tab_core.specs.declared.TheConstants.{ROUND}
use Rattle.table_form.specs.Running.Courses.{CourseView, outline_of, tick_at}
use Rattle.table_form.specs.Running.Outlines.{OutlineView}
use Rattle.round_words.specs.declared.view.Part.{Part}
use Rattle.round_words.specs.declared.view.View.{View}
use Rattle.round_words.specs.Hearing.{KnowsClocks}
use Rattle.round_words.specs.Views.{IsStarted, controller, holds, part}
use Rattle.crew_turns.specs.declared.clocks.TheConstants.{OUT}
use Rattle.crew_turns.specs.Going.{IsQuiet, IsSameBoard, PartsGoOn}
use Rattle.crew_turns.specs.Kinds.{IsLawful}
use Rattle.crew_turns.proofs.GoingLemmas.{on_more}
use Rattle.dispatch_core.specs.Parts.{IsTimely, used_counts}
use Rattle.dispatch_core.specs.States.{ActorView, AgreesWith, AgreesWithoutPlan, FollowsPlans, IsSameCore, StateView}
use Rattle.dispatch_core.specs.Told.{ComesNext}
use Rattle.plan_switch.specs.Controllers as controllers
use Rattle.plan_switch.specs.declared.state.ControlState.{ControlState}
use Rattle.core_workers.specs.Actors.{CoreAgrees, core_kind, lead_kind}
use Rattle.core_workers.specs.Waiting.{AwaitsCore, AwaitsEvent, CoreWaits, LeadWaits}

-- laws of actors that are the same

-- each state is one of the same core as itself, in a run of as many rounds, and keeps as many stints
pub same_actor : (a : StateView) → IsSameCore a a
same_actor a = record { core = refl; rounds = refl; keep = refl }

-- states of the same core: where the second is one of the first's, and the third of the second's,
-- the third is one of the first's
pub same_more : (a b c : StateView) → IsSameCore a b → IsSameCore b c → IsSameCore a c
same_more a b c x y = record { core = y.core ∙ x.core; rounds = y.rounds ∙ x.rounds; keep = y.keep ∙ x.keep }

-- each view of a board says that it was started with this lag and these counts, if one view does
started_on : (lag cores events : ℕ) (v w : View) → IsSameBoard v w → IsStarted lag cores events v → IsStarted lag cores events w
started_on lag cores events v w board is = record { started = board.started ∙ is.started; lag_is = board.lag ∙ is.lag_is; cores_are = board.cores ∙ is.cores_are; events_are = board.events ∙ is.events_are }

-- a core's state agrees, in what needs no plan, with each view of the board that holds the core's part as it
-- was
pub stands_part : (o : OutlineView) (a : StateView) (v w : View) → AgreesWithoutPlan o a v → IsSameBoard v w → holds w a.core ≡ true → part w a.core ≡ part v a.core → AgreesWithoutPlan o a w
stands_part o a v w stands board has is = record {
  of_outline = started_on o.lag o.cores (length o.ticks) v w board stands.of_outline;
  core = (subst (λ (n : ℕ). a.core < n) (sym board.cores) stands.core.0, has);
  timely = subst (IsTimely o a.rounds) (sym is) stands.timely;
  clock = stands.clock ∙ ap (λ (p : Part). p.clock) (sym is);
  used = stands.used ∙ ap (λ (p : Part). used_counts p.entries) (sym is);
  stints = stands.stints ∙ ap (λ (p : Part). take a.keep p.stints) (sym is);
  known = subst (KnowsClocks a.known) (sym is) stands.known;
  within = stands.within;
}

-- a core's state agrees with each view of the board that holds the core's part as it was
pub agrees_part : (course : CourseView) (a : StateView) (v w : View) → AgreesWith course a v → IsSameBoard v w → holds w a.core ≡ true → part w a.core ≡ part v a.core → AgreesWith course a w
agrees_part course a v w agrees board has is = record {
  stands = stands_part (outline_of course) a v w agrees.stands board has is;
  plans = subst (FollowsPlans course a) (sym is) agrees.plans;
}

-- the controller's state agrees with each view of the board that holds the controller's part as it was
pub lead_part : (o : OutlineView) (k : ControlState) (v w : View) → controllers.HasPosted o k v → IsSameBoard v w → holds w controller ≡ true → part w controller ≡ part v controller → controllers.HasPosted o k w
lead_part o k v w agrees board has is = record {
  of_outline = started_on o.lag o.cores (length o.ticks) v w board agrees.of_outline;
  holds_it = has;
  posted = agrees.posted ∙ ap (λ (p : Part). length p.floors) (sym is);
  floors = subst (λ (p : Part). controllers.AreFloorsOf o p.floors) (sym is) agrees.floors;
  known = subst (KnowsClocks k.known) (sym is) agrees.known;
}

-- who waits by what it did since v did that since what was before v too
module _ (course : CourseView) (u v w : View) (on : PartsGoOn u v) where
  -- an actor that waits for a clock by what it did since v also waits by what it did since u, an earlier view
  core_since : (a tick : ℕ) → AwaitsCore course a tick v w → AwaitsCore course a tick u w
  core_since a tick awaits = record {
    before = awaits.before;
    since = on_more (part u a) (part v a) awaits.before (on a) awaits.since;
    core = awaits.core;
    within = awaits.within;
    other = awaits.other;
    clock = awaits.clock;
    heard = awaits.heard;
    low = awaits.low;
    exact = awaits.exact;
  }

  -- a core that waits for an event by what it did since v also waits by what it did since u, an earlier view
  event_since : (c : ℕ) → AwaitsEvent course c v w → AwaitsEvent course c u w
  event_since c awaits = record {
    before = awaits.before;
    since = on_more (part u c) (part v c) awaits.before (on c) awaits.since;
    count = awaits.count;
    saw = awaits.saw;
    some = awaits.some;
    due = awaits.due;
    exact = awaits.exact;
  }

  -- a core that waits by what it did since v also waits by what it did since u, an earlier view
  pub waits_since : (c : ℕ) → CoreWaits course c v w → CoreWaits course c u w
  waits_since c waits = elim waits [
    | inl event ↦ inl (event_since c event)
    | inr other ↦ inr (record { stint = other.stint; next = other.next; seen = other.seen; awaits = core_since c other.stint.end other.awaits })
  ]

  -- the controller, if it waits by what it did since v, also waits by what it did since u, an earlier view
  pub lead_since : (n : ℕ) → LeadWaits course n v w → LeadWaits course n u w
  lead_since n waits = record { some = waits.some; awaits = core_since controller (tick_at course n) waits.awaits }

-- who waits still does where nobody got on and its part is as it was
module _ (course : CourseView) (u v w : View) (quiet : IsQuiet v w) where
  -- an actor that waits for a clock still does where nobody got on and its part is as it was
  core_stays : (a tick : ℕ) → part w a ≡ part v a → AwaitsCore course a tick u v → AwaitsCore course a tick u w
  core_stays a tick is awaits = record {
    before = awaits.before;
    since = awaits.since;
    core = awaits.core;
    within = awaits.within;
    other = awaits.other;
    clock = awaits.clock;
    heard = is ∙ awaits.heard;
    low = awaits.low;
    exact = λ has. awaits.exact (sym (quiet.actors.actors awaits.core) ∙ has) ∙ sym (quiet.clocks awaits.core);
  }

  -- a core that waits for an event still does where nobody got on and its part is as it was
  event_stays : (c : ℕ) → part w c ≡ part v c → AwaitsEvent course c u v → AwaitsEvent course c u w
  event_stays c is awaits = record {
    before = awaits.before;
    since = awaits.since;
    count = awaits.count;
    saw = is ∙ awaits.saw;
    some = awaits.some;
    due = omega (arith, awaits.due, ap (λ (p : Part). p.clock) is);
    exact = λ has. awaits.exact (sym (quiet.actors.actors controller) ∙ has) ∙ sym (ap length (quiet.floors controller));
  }

  -- a core that waits still does where nobody got on and its part is as it was
  pub waits_stay : (c : ℕ) → part w c ≡ part v c → CoreWaits course c u v → CoreWaits course c u w
  waits_stay c is waits = elim waits [
    | inl event ↦ inl (event_stays c is event)
    | inr other ↦ inr (record {
      stint = other.stint;
      next = subst (λ (p : Part). ComesNext course c p other.stint) (sym is) other.next;
      seen = omega (arith, other.seen, ap (λ (p : Part). length p.sights) is);
      awaits = core_stays c other.stint.end is other.awaits;
    })
  ]

  -- the controller, if it waits, still does where nobody got on and its part is as it was
  pub lead_stays : (n : ℕ) → part w controller ≡ part v controller → LeadWaits course n u v → LeadWaits course n u w
  lead_stays n is waits = record { some = waits.some; awaits = core_stays controller (tick_at course n) is waits.awaits }

-- the cores of runs are a lawful kind of actor
pub core_lawful : IsLawful core_kind
core_lawful = record {
  begun = λ a v agrees. agrees.agrees.stands.of_outline.started;
  held = λ a v agrees. agrees.agrees.stands.core.1;
  parted = λ a v w agrees board has is. record {
    course_kept = agrees.course_kept;
    fits = agrees.fits;
    agrees = agrees_part a.course a.state v w agrees.agrees board has is;
  };
  within = λ a v agrees. omega (arith, agrees.agrees.stands.clock, agrees.agrees.stands.timely.in_run);
  itself = λ a. record { course = refl; core = same_actor a.state };
  further = λ a b c x y. record { course = y.course ∙ x.course; core = same_more a.state b.state c.state x.core y.core };
  numbered = λ a b same. same.core.core;
  ends = λ a b same. ap (λ (r : ℕ). r * ROUND) same.core.rounds;
  since = λ a u v w on waits. waits_since a.course u v w on a.state.core waits;
  stays = λ a u v w waits quiet is. waits_stay a.course u v w quiet a.state.core is waits;
}

-- no run is as long as OUT
pub core_short : (a : ActorView) (v : View) → CoreAgrees a v → a.state.rounds * ROUND < OUT
core_short a v agrees = omega (arith, agrees.fits.few_rounds)

-- the controllers of runs are a lawful kind of actor
pub lead_lawful : IsLawful lead_kind
lead_lawful = record {
  begun = λ k v agrees. agrees.of_outline.started;
  held = λ k v agrees. agrees.holds_it;
  parted = λ k v w agrees board has is. lead_part (outline_of k.course) k.state v w agrees board has is;
  within = λ k v agrees. omega (arith, agrees.posted, agrees.floors.few);
  itself = λ k. refl;
  further = λ k l m x y. y ∙ x;
  numbered = λ k l same. refl;
  ends = λ k l same. ap (λ (course : CourseView). length course.ticks) same;
  since = λ k u v w on waits. lead_since k.course u v w on k.state.posted waits;
  stays = λ k u v w waits quiet is. lead_stays k.course u v w quiet k.state.posted is waits;
}
