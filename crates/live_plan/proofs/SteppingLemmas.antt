-- What a live core's step did, from what its begin and its end did.
use Rattle.std.proofs.Common.{◌≡◌, ℕ, ◌*◌, ◌/◌, ◌<◌, ◌≤◌, List, length, Some, inl, inr, refl, ap, sym, subst, ◌∙◌}
use Rattle.std.specs.Prelude.{slice_get}
use Rattle.tab_core.specs.declared.TheConstants.{ROUND}
use Rattle.tab_core.specs.declared.actor.Actor.{Actor}
use Rattle.tab_core.specs.declared.actor.Actor.TheVariants.{Core, Controller}
use Rattle.table_form.specs.Running.Courses.{CourseView, InEachCourse}
use Rattle.table_form.specs.Running.Outlines.{OutlineView}
use Rattle.slice_table.specs.declared.full_span.FullSpan.{FullSpan}
use Rattle.slice_table.specs.Slices.{IsTableOf}
use Rattle.round_words.specs.declared.view.Part.{Part}
use Rattle.round_words.specs.declared.view.View.{View}
use Rattle.round_words.specs.Changes.{ChangesOnly}
use Rattle.round_words.specs.Views.{last_of, part, sees}
use Rattle.round_words.proofs.ListLemmas.{last_of-push}
use Rattle.dispatch_core.specs.declared.answer.Begun.TheVariants as start
use Rattle.dispatch_core.specs.declared.answer.Ended.{Ended}
use Rattle.dispatch_core.specs.Parts.{used_counts}
use Rattle.dispatch_core.specs.States.{AgreesWithoutPlan, FollowsPlans, HasBegun, StateView}
use Rattle.dispatch_core.specs.Told.{BeginsStep, BegunTold, EndGoes, EndTold, LacksEvent}
use Rattle.dispatch_core.proofs.EntryLemmas.{used_at}
use Rattle.dispatch_core.proofs.PartLemmas.{entered_same}
use Rattle.dispatch_core.proofs.ToldLemmas.{low_told}
use Rattle.live_plan.specs.declared.answer.LiveAnswer.{LiveAnswer}
use Rattle.live_plan.specs.declared.answer.LiveAnswer.TheVariants.{Ran, Behind, NotMade, Stopped, Finished}
use Rattle.live_plan.specs.Actors.{IsLiveActorOf, LiveActorView, LiveAgrees, live_actor_view}
use Rattle.live_plan.specs.Asking.{IsBeyond, LooksBeyond, Needs}
use Rattle.live_plan.specs.Books.{LiveView, changes_before}
use Rattle.live_plan.specs.Courses.{IsLiveCourse}
use Rattle.live_plan.specs.Inside.Finishing.{IsEndOf, LiveFinishTold, WaitTold, WaitsForCore}
use Rattle.live_plan.specs.Inside.Seeking.{IsSliceAt}
use Rattle.live_plan.specs.Shelves.{Grows, ShelfView}
use Rattle.live_plan.specs.Told.{LiveTold, NeedsChange, WaitsFor}
use Rattle.live_plan.proofs.SeekingLemmas.{in_live}
use Rattle.live_plan.proofs.ShelvesLemmas.{missed_since}

-- a core that waits for a core looked beyond what it saw
pub waits_told : (b : LiveView) (c seen used d tick : ℕ) (v w : View) (s t : ShelfView) (answer : LiveAnswer)
    → WaitsForCore b c v d tick w → WaitTold b seen (Core d) tick s answer t → LiveFinishTold b c seen used v s answer w t
waits_told b c seen used d tick v w s t (Behind who tick') waits told =
    let ticks : tick' ≡ tick = told.1 in
    subst (λ (a : Actor). LiveFinishTold b c seen used v s (Behind a tick') w t) (sym told.0)
    (subst (λ (x : ℕ). WaitsForCore b c v d x w) (sym ticks) waits, told.2)
waits_told b c seen used d tick v w s t (Stopped change) waits told =
    (inr (record { core = d; tick = tick; waits = waits }, told.0), told.1)
waits_told b c seen used d tick v w s t (Ran stint) waits told = absurd told
waits_told b c seen used d tick v w s t (NotMade change) waits told = absurd told
waits_told b c seen used d tick v w s t Finished waits told = absurd told

-- a core that waits for the controller has looked at what it saw: its step is over with its begin
record SawAll (p q : Part) (seen : ℕ) : Type 0 where
  pub clock : q.clock ≡ p.clock
  pub stints : q.stints ≡ p.stints
  pub last : last_of q.sights ≡ seen

saw_all : (p q : Part) (seen : ℕ) → q ≡ sees p seen → SawAll p q seen
saw_all p q seen is = subst (λ (x : Part). SawAll p x seen) (sym is)
    (record { clock = refl; stints = refl; last = last_of-push p.sights seen })

waits_for_controller : (b : LiveView) (rounds c tick seen : ℕ) (v w : View) → (part v c).clock < rounds * ROUND
    → (lacks : LacksEvent b.outline c v w tick) → lacks.count ≡ seen → WaitsFor b rounds c v Controller tick w
waits_for_controller b rounds c tick seen v w less lacks count =
    let saw = saw_all (part v c) (part w c) lacks.count lacks.becomes in record {
      step = record {
        goes = (less, lacks);
        told = λ course live. (less, subst (λ (o : OutlineView). LacksEvent o c v w tick) (sym live.outline) lacks);
      };
      unfinished = less;
      clock = saw.clock;
      stints = saw.stints;
    }

pub begin_waits : (b : LiveView) (rounds c seen tick : ℕ) (v w : View) (s t : ShelfView) (state : StateView) (answer : LiveAnswer)
    → BegunTold b.outline rounds c v (start.Behind seen tick) state w → WaitTold b seen Controller tick s answer t
    → LiveTold b rounds c v s answer w t
begin_waits b rounds c seen tick v w s t state (Behind who tick') begins told =
    let lacks = begins.1 in
    let saw = saw_all (part v c) (part w c) lacks.count lacks.becomes in
    let waits = waits_for_controller b rounds c tick seen v w begins.0 lacks begins.2 in
    let at : WaitsFor b rounds c v who tick' w = subst (λ (a : Actor). WaitsFor b rounds c v a tick' w) (sym told.0)
    (subst (λ (x : ℕ). WaitsFor b rounds c v Controller x w) (sym told.1) waits) in
    (at, subst (λ (n : ℕ). LooksBeyond b n s t) (sym (saw.last ∙ begins.2)) told.2)
begin_waits b rounds c seen tick v w s t state (Stopped change) begins told =
    let lacks = begins.1 in
    let saw = saw_all (part v c) (part w c) lacks.count lacks.becomes in (
      inr (record {
        who = Controller;
        tick = tick;
        waits = waits_for_controller b rounds c tick seen v w begins.0 lacks begins.2;
        beyond = subst (λ (n : ℕ). IsBeyond b n change) (sym (saw.last ∙ begins.2)) told.0;
      }),
      told.1,
    )
begin_waits b rounds c seen tick v w s t state (Ran stint) begins told = absurd told
begin_waits b rounds c seen tick v w s t state (NotMade change) begins told = absurd told
begin_waits b rounds c seen tick v w s t state Finished begins told = absurd told

-- a core that has begun its step with these counts, from the view before
pub record HasBegunFrom (b : LiveView) (rounds c seen used : ℕ) (v u : View) (state : StateView) : Type 0 where
  pub begins : BeginsStep b.outline rounds c v seen (part u c)
  pub begun : HasBegun b.outline state u seen used
  pub stands : AgreesWithoutPlan b.outline state u
  pub core : state.core ≡ c
  pub others : ChangesOnly v u c

-- it needs the changes of its used count
needs_used : (b : LiveView) (rounds c seen used change : ℕ) (v u : View) (state : StateView)
    → HasBegunFrom b rounds c seen used v u state → change < changes_before b used → Needs b (part u c) change
needs_used b rounds c seen used change v u state from less =
    let same = from.core in
    let clock : state.clock ≡ (part u c).clock = from.stands.clock ∙ ap (λ (i : ℕ). (part u i).clock) same in
    let at = subst (λ (us : List ℕ). slice_get us (state.clock / ROUND) ≡ Some used)
    (from.stands.used ∙ ap (λ (i : ℕ). used_counts (part u i).entries) same) from.begun.entered in
    let at' = subst (λ (x : ℕ). slice_get (used_counts (part u c).entries) (x / ROUND) ≡ Some used) clock at in
    let entry = used_at (part u c).entries ((part u c).clock / ROUND) used at' in record {
      entry = entry.0;
      entered = entry.1;
      used = subst (λ (n : ℕ). change < changes_before b n) (sym entry.2) less;
    }

-- it waits for a core
waits_for_core : (b : LiveView) (rounds c seen used d tick : ℕ) (v u w : View) (state : StateView)
    → HasBegunFrom b rounds c seen used v u state → WaitsForCore b c u d tick w → WaitsFor b rounds c v (Core d) tick w
waits_for_core b rounds c seen used d tick v u w state from waits =
    let entered = entered_same (sees (part v c) seen) (part u c) from.begins.enters in record {
      step = record {
        goes = (let low = waits.end.goes in
            (seen, part u c, from.begins, low.0, low_told c v u d tick from.others low.0.other low.1));
        told = λ course live. (let low = waits.end.told course live in (
          seen,
          part u c,
          subst (λ (o : OutlineView). BeginsStep o rounds c v seen (part u c)) (sym live.outline) from.begins,
          low.0,
          low_told c v u d tick from.others low.0.other low.1,
        ));
      };
      unfinished = from.begins.unfinished;
      clock = waits.still.clock ∙ entered.clock;
      stints = waits.still.stints ∙ entered.stints;
    }

-- what it saw last
saw_last : (b : LiveView) (rounds c seen used : ℕ) (v u : View) (state : StateView)
    → HasBegunFrom b rounds c seen used v u state → last_of (part u c).sights ≡ seen
saw_last b rounds c seen used v u state from =
    ap (λ (i : ℕ). last_of (part u i).sights) (sym from.core) ∙ from.begun.sight.last

-- it needs a change, and does nothing more
needs_change : (b : LiveView) (rounds c seen used change : ℕ) (v u w : View) (state : StateView)
    → HasBegunFrom b rounds c seen used v u state → w ≡ u → change < changes_before b used → NeedsChange b rounds c v change w
needs_change b rounds c seen used change v u w state from is less =
    subst (NeedsChange b rounds c v change) (sym is) (record {
      seen = seen;
      begins = from.begins;
      needs = needs_used b rounds c seen used change v u state from less;
    })

-- the whole step, whose end is reported
pub finish_told : (b : LiveView) (rounds c seen used : ℕ) (v u w : View) (s t : ShelfView) (state : StateView) (answer : LiveAnswer)
    → HasBegunFrom b rounds c seen used v u state → LiveFinishTold b c seen used u s answer w t → LiveTold b rounds c v s answer w t
finish_told b rounds c seen used v u w s t state (Ran stint) from told = record {
  goes = (seen, part u c, from.begins, told.goes);
  told = λ course live. (
    seen,
    part u c,
    subst (λ (o : OutlineView). BeginsStep o rounds c v seen (part u c)) (sym live.outline) from.begins,
    told.told course live,
  );
}
finish_told b rounds c seen used v u w s t state (Behind (Core d) tick) from told = (
  waits_for_core b rounds c seen used d tick v u w state from told.0,
  subst (λ (n : ℕ). LooksBeyond b n s t)
      (sym (ap last_of told.0.still.sights ∙ saw_last b rounds c seen used v u state from)) told.1,
)
finish_told b rounds c seen used v u w s t state (Behind Controller tick) from told = absurd told
finish_told b rounds c seen used v u w s t state (NotMade change) from told =
    (needs_change b rounds c seen used change v u w state from told.0 told.1, told.2)
finish_told b rounds c seen used v u w s t state (Stopped change) from (inl needs, knows) =
    (inl (needs_change b rounds c seen used change v u w state from needs.0 needs.1), knows)
finish_told b rounds c seen used v u w s t state (Stopped change) from (inr beyond, knows) =
    let some = beyond.0 in (
      inr (record {
        who = Core some.core;
        tick = some.tick;
        waits = waits_for_core b rounds c seen used some.core some.tick v u w state from some.waits;
        beyond = subst (λ (n : ℕ). IsBeyond b n change)
            (sym (ap last_of some.waits.still.sights ∙ saw_last b rounds c seen used v u state from)) beyond.1;
      }),
      knows,
    )
finish_told b rounds c seen used v u w s t state Finished from told = absurd told

-- ---- what is kept

-- looks before the end don't matter to what it tells
beyond_since : (b : LiveView) (seen : ℕ) (s u t : ShelfView) → Grows s u → LooksBeyond b seen u t → LooksBeyond b seen s t
beyond_since b seen s u t grows looks = λ change beyond. elim (looks change beyond) [
  | inl missed ↦ inl (missed_since s u t change grows missed)
  | inr knows ↦ inr knows
]

pub finish_since : (b : LiveView) (c seen used : ℕ) (v w : View) (s u t : ShelfView) (answer : LiveAnswer) → Grows s u
    → LiveFinishTold b c seen used v u answer w t → LiveFinishTold b c seen used v s answer w t
finish_since b c seen used v w s u t (Ran stint) grows told = told
finish_since b c seen used v w s u t (Behind (Core d) tick) grows told = (told.0, beyond_since b seen s u t grows told.1)
finish_since b c seen used v w s u t (Behind Controller tick) grows told = told
finish_since b c seen used v w s u t (NotMade change) grows told = (told.0, told.1, missed_since s u t change grows told.2)
finish_since b c seen used v w s u t (Stopped change) grows told = told
finish_since b c seen used v w s u t Finished grows told = told

-- the actor that has gone on is one of the book
pub actor_on : (b : LiveView) (a : LiveActorView) (state : StateView) → IsLiveActorOf b a → state.core ≡ a.state.core
    → IsLiveActorOf b (live_actor_view state a.table a.taken)
actor_on b a state of core = record {
  within = subst (λ (i : ℕ). i < b.host.cores) (sym core) of.within;
  table_is = subst (λ (i : ℕ). IsTableOf b.plan i a.table) (sym core) of.table_is;
  few = of.few;
  last = of.last;
}

-- a core that has gone on agrees with its part again
pub agrees_on : (b : LiveView) (o : OutlineView) (old new : StateView) (v u : View) → o ≡ b.outline → LiveAgrees b old v
    → AgreesWithoutPlan o new u → new.core ≡ old.core
    → ((course : CourseView) → IsLiveCourse b course
    → FollowsPlans course old (part v old.core) → FollowsPlans course new (part u old.core))
    → LiveAgrees b new u
agrees_on b o old new v u is agrees stands core plans = record {
  stands = subst (λ (x : OutlineView). AgreesWithoutPlan x new u) is stands;
  plans = λ course live. subst (λ (i : ℕ). FollowsPlans course new (part u i)) (sym core) (plans course live (agrees.plans course live));
}

-- by a table of the plan that its round uses, and as an end of a step
module _ (b : LiveView) (o : OutlineView) (old : StateView) (v : View) (used : ℕ) (slices : List FullSpan) (is : o ≡ b.outline)
    (le : used ≤ length b.outline.ticks) (table : IsSliceAt b (changes_before b used) old.core slices) (agrees : LiveAgrees b old v)
    (new : StateView) (w : View) where
  pub agrees_by : AgreesWithoutPlan o new w → new.core ≡ old.core → InEachCourse o used table.plan (λ (course : CourseView).
      FollowsPlans course old (part v old.core) → FollowsPlans course new (part w old.core)) → LiveAgrees b new w
  agrees_by stands core plans = agrees_on b o old new v w is agrees stands core (in_live b o used old.core slices
      (λ (course : CourseView). FollowsPlans course old (part v old.core) → FollowsPlans course new (part w old.core))
      is le table plans)

  pub end_by : (ended : Ended) → EndGoes o old.core v ended w → InEachCourse o used table.plan (λ (course : CourseView).
      FollowsPlans course old (part v old.core) → EndTold course old.core v ended w) → IsEndOf b old.core v ended w
  end_by ended goes told = record {
    goes = subst (λ (x : OutlineView). EndGoes x old.core v ended w) is goes;
    told = λ course live. in_live b o used old.core slices
        (λ (x : CourseView). FollowsPlans x old (part v old.core) → EndTold x old.core v ended w) is le table told course live
        (agrees.plans course live);
  }
