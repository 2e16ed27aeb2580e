-- What a step brings, by what its actor keeps.
use Rattle.std.proofs.Common.{◌≡◌, ℕ, zero, suc, ◌*◌, ◌<◌, true, List, length, inl, inr, refl, sym, ap, ◌∙◌, subst, arith}
use mathlib.Core.Logic.{dite}
use native.Mathlib.Decide.{ℕ_discrete}
use Rattle.tab_core.specs.declared.TheConstants.{ROUND}
use Rattle.tab_core.specs.declared.actor.Actor.TheVariants.{Core, Controller}
use Rattle.tab_core.specs.declared.stint.Stint.{Stint}
use Rattle.table_form.specs.Running.Choice.{IsDispatch}
use Rattle.table_form.specs.Running.Courses.{CourseView, IsCourse, outline_of}
use Rattle.table_form.specs.Running.Outlines.{OutlineView}
use Rattle.round_words.specs.declared.view.Part.{Part}
use Rattle.round_words.specs.declared.view.View.{View}
use Rattle.round_words.specs.Changes.{ChangesOnly}
use Rattle.round_words.specs.Views.{controller, heard_of, holds, part, sees}
use Rattle.round_words.proofs.HearingLemmas.{SamePart, heard_same}
use Rattle.round_words.proofs.ListLemmas.{length_push}
use Rattle.run_promises.proofs.ChoiceLemmas.{stint_bounds}
use Rattle.dispatch_core.specs.declared.answer.CoreAnswer.{CoreAnswer}
use Rattle.dispatch_core.specs.declared.answer.CoreAnswer.TheVariants.{Ran, Behind, Finished}
use Rattle.dispatch_core.specs.States.{AgreesWith, IsSameCore, StateView}
use Rattle.dispatch_core.specs.Told.{ComesNext, ComesToEnter, CoreGoes, CoreTold, FindsLow, HearsLow, LacksEvent, MakesSteps, RunsSome}
use Rattle.dispatch_core.proofs.PartLemmas.{entered_same}
use Rattle.dispatch_core.proofs.StintLemmas.{begins_same}
use Rattle.plan_switch.specs.Controllers as controllers
use Rattle.plan_switch.specs.declared.state.ControlState.{ControlState}
use Rattle.plan_switch.specs.declared.answer.ControlAnswer.{ControlAnswer}
use Rattle.plan_switch.specs.declared.answer.ControlAnswer.TheVariants as control
use Rattle.plan_switch.specs.Told.{ControlTold}
use Rattle.crew_turns.specs.Going.{GoesOnTo, IsQuiet, PartsGoOn}
use Rattle.crew_turns.proofs.GoingLemmas.{actors_none, actors_step, on_more, on_none, parts_changed, parts_more, parts_none}
use Rattle.core_workers.specs.Crews.{HasFinished}
use Rattle.core_workers.specs.Waiting.{CoreWaits, LeadWaits}
use Rattle.core_workers.proofs.PartsLemmas.{on_cores, on_entered, on_hears, on_posts, on_sees}

-- what a core's step brings, by what it answers
abbrev pub CoreStep : CourseView → StateView → View → CoreAnswer → StateView → View → Type 0
CoreStep course a v (Ran s) b w = a.clock < b.clock
CoreStep course a v (Behind who tick) b w = (b.clock ≡ a.clock) × IsQuiet v w × CoreWaits course b.core v w
CoreStep course a v Finished b w = (b.clock ≡ a.clock) × IsQuiet v w × HasFinished b

-- what the controller's step brings, which has posted n events before and k afterwards
abbrev pub LeadStep : CourseView → ℕ → View → ControlAnswer → ℕ → View → Type 0
LeadStep course n v (control.Posted count) k w = n < k
LeadStep course n v (control.Behind core tick) k w = (k ≡ n) × IsQuiet v w × LeadWaits course k v w
LeadStep course n v control.Finished k w = (k ≡ n) × IsQuiet v w × (k ≡ length course.ticks)

-- a step in which the actor didn't get on
pub quiet_none : (v : View) → IsQuiet v v
quiet_none v = record { actors = actors_none v; clocks = λ a. refl; floors = λ a. refl }

quiet_step : (v w : View) (c : ℕ) → ChangesOnly v w c → (part w c).clock ≡ (part v c).clock → (part w c).floors ≡ (part v c).floors → IsQuiet v w
quiet_step v w c changes clock floors = record {
  actors = actors_step v w c changes;
  clocks = λ a. dite (ℕ_discrete a c)
      (λ e. subst (λ (i : ℕ). (part w i).clock ≡ (part v i).clock) (sym e) clock)
      (λ ne. ap (λ (p : Part). p.clock) (changes.parts a ne));
  floors = λ a. dite (ℕ_discrete a c)
      (λ e. subst (λ (i : ℕ). (part w i).floors ≡ (part v i).floors) (sym e) floors)
      (λ ne. ap (λ (p : Part). p.floors) (changes.parts a ne));
}

-- the actor's clock is that of its core's part
clock_now : (course : CourseView) (a b : StateView) (w : View) → IsSameCore a b → AgreesWith course b w → b.clock ≡ (part w a.core).clock
clock_now course a b w same agrees = agrees.stands.clock ∙ ap (λ (c : ℕ). (part w c).clock) same.core

-- entering posts nothing
entered_floors : (p q : Part) → ComesToEnter p q → q.floors ≡ p.floors
entered_floors p q enters = elim enters [ inl had ↦ ap (λ (r : Part). r.floors) had.1 | inr d ↦ ap (λ (r : Part). r.floors) d.becomes ]

-- a core whose clock is too low, whatever the plan
abbrev low_of : (course : CourseView) (c d tick : ℕ) (p q : Part) → FindsLow course c p q d tick → HearsLow (outline_of course) c p q d tick
low_of course c d tick p q finds = record {
  end = finds.stint.end;
  core = finds.core;
  other = finds.other;
  heard = finds.heard;
  near = finds.near;
  low = finds.low;
  becomes = finds.becomes;
}

-- a step in all that needs no plan
module _ (o : OutlineView) (c : ℕ) (v w : View) (changes : ChangesOnly v w c) where
  -- the core has entered its round, or needn't
  module _ (count : ℕ) (entered : Part) (enters : ComesToEnter (sees (part v c) count) entered) where
    on_begun : GoesOnTo (part v c) entered
    on_begun = on_more (part v c) (sees (part v c) count) entered (on_sees (part v c) count) (on_entered (sees (part v c) count) entered enters)

    begun_clock : entered.clock ≡ (part v c).clock
    begun_clock = (entered_same (sees (part v c) count) entered enters).clock

    begun_floors : entered.floors ≡ (part v c).floors
    begun_floors = entered_floors (sees (part v c) count) entered enters

    -- it runs a stint
    pub later : (s : Stint) → RunsSome o c entered (part w c) s → (part v c).clock < (part w c).clock
    later s runs = omega (arith, ap (λ (q : Part). q.clock) runs.becomes, runs.some, runs.begins.from, begun_clock)

    on_run : (s : Stint) → RunsSome o c entered (part w c) s → GoesOnTo (part v c) (part w c)
    on_run s runs = let heard = on_cores c o.lag s.end o.cores entered runs.heard runs.near in record {
      clock = omega (arith, later s runs);
      sights = λ e. absurd (omega (arith, later s runs, e));
      heard = λ d. omega (arith, on_begun.heard d, heard.heard d, ap (λ (q : Part). length (heard_of q d)) runs.becomes);
    }

    -- it waits for another core
    module _ (d tick : ℕ) (low : HearsLow o c entered (part w c) d tick) where
      pub on_heard : GoesOnTo (part v c) low.heard
      on_heard = on_more (part v c) entered low.heard on_begun (on_cores c o.lag low.end d entered low.heard low.near)

      on_low : GoesOnTo (part v c) (part w c)
      on_low = on_more (part v c) low.heard (part w c) on_heard (subst (GoesOnTo low.heard) (sym low.becomes) (on_hears low.heard d tick))

      pub low_quiet : IsQuiet v w
      low_quiet = let hs = heard_same c o.lag low.end d entered low.heard low.near in
          quiet_step v w c changes (ap (λ (q : Part). q.clock) low.becomes ∙ (hs.clock ∙ begun_clock))
          (ap (λ (q : Part). q.floors) low.becomes ∙ (hs.floors ∙ begun_floors))

  -- it does nothing more
  pub begun_parts : (count : ℕ) → ComesToEnter (sees (part v c) count) (part w c) → PartsGoOn v w
  begun_parts count enters = parts_changed v w c changes (on_begun count (part w c) enters)

  pub begun_quiet : (count : ℕ) → ComesToEnter (sees (part v c) count) (part w c) → IsQuiet v w
  begun_quiet count enters = quiet_step v w c changes (begun_clock count (part w c) enters) (begun_floors count (part w c) enters)

  -- it waits for the controller
  pub lacks_quiet : (tick : ℕ) → LacksEvent o c v w tick → IsQuiet v w
  lacks_quiet tick lacks = quiet_step v w c changes (ap (λ (q : Part). q.clock) lacks.becomes) (ap (λ (q : Part). q.floors) lacks.becomes)

  goes_on : (rounds : ℕ) (answer : CoreAnswer) → CoreGoes o rounds c v answer w → GoesOnTo (part v c) (part w c)
  goes_on rounds (Ran s) goes = on_run goes.0 goes.1 goes.2.enters s goes.3
  goes_on rounds (Behind Controller tick) goes = subst (GoesOnTo (part v c)) (sym goes.1.becomes) (on_sees (part v c) goes.1.count)
  goes_on rounds (Behind (Core d) tick) goes = on_low goes.0 goes.1 goes.2.enters d tick goes.3
  goes_on rounds Finished goes = subst (λ (u : View). GoesOnTo (part v c) (part u c)) (sym goes.1) (on_none (part v c))

  pub goes_parts : (rounds : ℕ) (answer : CoreAnswer) → CoreGoes o rounds c v answer w → PartsGoOn v w
  goes_parts rounds answer goes = parts_changed v w c changes (goes_on rounds answer goes)

-- some steps of a core, in all that needs no plan
pub steps_parts : (o : OutlineView) (rounds c n : ℕ) (v w : View) → MakesSteps o rounds c n v w → PartsGoOn v w
steps_parts o rounds c zero v w is = subst (PartsGoOn v) (sym is) (parts_none v)
steps_parts o rounds c (suc n) v w made = parts_more v made.0 w (steps_parts o rounds c n v made.0 made.2)
    (goes_parts o c made.0 w made.3 rounds made.1 made.4)

-- what a step did by a course, in all that needs no plan
pub told_goes : (course : CourseView) (rounds c : ℕ) (v w : View) (answer : CoreAnswer) → IsCourse course → CoreTold course rounds c v answer w
    → CoreGoes (outline_of course) rounds c v answer w
told_goes course rounds c v w (Ran s) ok told = let runs = told.3 in (
  told.0,
  told.1,
  told.2,
  record {
    begins = runs.next.begins;
    some = (stint_bounds course c told.1.stints s ok runs.next.follows).0;
    heard = runs.heard;
    near = runs.near;
    becomes = runs.becomes;
  },
)
told_goes course rounds c v w (Behind Controller tick) ok told = told
told_goes course rounds c v w (Behind (Core d) tick) ok told = (told.0, told.1, told.2, low_of course c d tick told.1 (part w c) told.3, told.4)
told_goes course rounds c v w Finished ok told = told

-- what was heard doesn't matter to the stint that comes next
next_same : (course : CourseView) (c : ℕ) (p q : Part) (s : Stint) → SamePart p q → ComesNext course c p s → ComesNext course c q s
next_same course c p q s same next = record {
  begins = begins_same p q s same next.begins;
  follows = subst (λ (ss : List Stint). IsDispatch course c ss s) (sym same.stints) next.follows;
}

-- a core that waits for the controller
module _ (course : CourseView) (c tick : ℕ) (v w : View) (ok : IsCourse course) (lt : c < course.cores) (changes : ChangesOnly v w c)
    (lacks : LacksEvent (outline_of course) c v w tick) where
  lacks_waits : CoreWaits course c v w
  lacks_waits = inl (record {
    before = part v c;
    since = on_none (part v c);
    count = lacks.count;
    saw = lacks.becomes;
    some = lacks.some;
    due = omega (arith, lacks.due, lacks.tick_is, ap (λ (q : Part). q.clock) lacks.becomes);
    exact = λ has. lacks.sighted.exact (sym (changes.actors controller) ∙ has)
        ∙ ap (λ (p : Part). length p.floors) (sym (changes.parts controller (λ e. omega (arith, e, lt, ok.form.outline.few_cores))));
  })

-- a core that waits for another core
module _ (course : CourseView) (c d tick count : ℕ) (entered : Part) (v w : View) (changes : ChangesOnly v w c) (enters : ComesToEnter (sees (part v c) count) entered)
    (finds : FindsLow course c entered (part w c) d tick) where
  found_same : SamePart entered (part w c)
  found_same = let hs = heard_same c course.lag finds.stint.end d entered finds.heard finds.near in
      subst (SamePart entered) (sym finds.becomes) (record { clock = hs.clock; sights = hs.sights; entries = hs.entries; stints = hs.stints; floors = hs.floors })

  finds_waits : (holds v d ≡ true → tick ≡ (part v d).clock) → CoreWaits course c v w
  finds_waits exact = inr (record {
    stint = finds.stint;
    next = next_same course c entered (part w c) finds.stint found_same finds.next;
    seen = (let es = entered_same (sees (part v c) count) entered enters in
        omega (arith, ap length found_same.sights, ap length es.sights, length_push (part v c).sights count));
    awaits = record {
      before = finds.heard;
      since = on_heard (outline_of course) c v w changes count entered enters d tick (low_of course c d tick entered (part w c) finds);
      core = d;
      within = finds.core;
      other = finds.other;
      clock = tick;
      heard = finds.becomes;
      low = finds.low;
      exact = λ has. exact (sym (changes.actors d) ∙ has) ∙ ap (λ (p : Part). p.clock) (sym (changes.parts d finds.other));
    };
  })

-- an actor whose core doesn't get on keeps its clock
clock_stays : (course : CourseView) (a b : StateView) (v w : View) → IsSameCore a b → AgreesWith course a v → AgreesWith course b w → IsQuiet v w → b.clock ≡ a.clock
clock_stays course a b v w same was now quiet = clock_now course a b w same now ∙ (quiet.clocks a.core ∙ sym was.stands.clock)

-- what a core's step brings
pub core_stepped : (course : CourseView) (a b : StateView) (v w : View) (answer : CoreAnswer) → IsCourse course → IsSameCore a b → AgreesWith course a v → AgreesWith course b w
    → ChangesOnly v w a.core → CoreTold course a.rounds a.core v answer w → CoreStep course a v answer b w
core_stepped course a b v w (Ran s) ok same was now changes told =
    let goes = told_goes course a.rounds a.core v w (Ran s) ok told in
    omega (arith, later (outline_of course) a.core v w changes goes.0 goes.1 goes.2.enters s goes.3, was.stands.clock, clock_now course a b w same now)
core_stepped course a b v w (Behind Controller tick) ok same was now changes told =
    let lacks = told.1 in
    let lt : a.core < course.cores = omega (arith, was.stands.core.0, was.stands.of_outline.cores_are) in
    let quiet = lacks_quiet (outline_of course) a.core v w changes tick lacks in (
      clock_stays course a b v w same was now quiet,
      quiet,
      subst (λ (c : ℕ). CoreWaits course c v w) (sym same.core) (lacks_waits course a.core tick v w ok lt changes lacks),
    )
core_stepped course a b v w (Behind (Core d) tick) ok same was now changes told =
    let enters = told.2.enters in
    let finds = told.3 in
    let quiet = low_quiet (outline_of course) a.core v w changes told.0 told.1 enters d tick (low_of course a.core d tick told.1 (part w a.core) finds) in (
      clock_stays course a b v w same was now quiet,
      quiet,
      subst (λ (c : ℕ). CoreWaits course c v w) (sym same.core) (finds_waits course a.core d tick told.0 told.1 v w changes enters finds told.4),
    )
core_stepped course a b v w Finished ok same was now changes told =
    let quiet = subst (IsQuiet v) (sym told.1) (quiet_none v) in
    let stays = clock_stays course a b v w same was now quiet in
    (stays, quiet, stays ∙ (was.stands.clock ∙ (told.0 ∙ ap (λ (r : ℕ). r * ROUND) (sym same.rounds))))

-- a core's part is some steps on after its step
pub core_parts : (course : CourseView) (rounds c : ℕ) (v w : View) (answer : CoreAnswer) → IsCourse course → ChangesOnly v w c → CoreTold course rounds c v answer w → PartsGoOn v w
core_parts course rounds c v w answer ok changes told = goes_parts (outline_of course) c v w changes rounds answer (told_goes course rounds c v w answer ok told)

-- what the controller's step brings
pub lead_stepped : (course : CourseView) (k l : ControlState) (v w : View) (answer : ControlAnswer) → controllers.ControlAgreesWith course k v → controllers.ControlAgreesWith course l w
    → ChangesOnly v w controller → ControlTold (outline_of course) k.posted v answer w → LeadStep course k.posted v answer l.posted w
lead_stepped course k l v w (control.Posted count) was now changes told =
    let posts = told.2 in
    let hs = heard_same controller _ _ _ (part v controller) posts.heard posts.near in
    omega (arith, now.posted, ap (λ (p : Part). length p.floors) posts.becomes, length_push posts.heard.floors (controllers.floor_of (outline_of course) k.posted), ap length hs.floors, was.posted)
lead_stepped course k l v w (control.Behind d tick) was now changes told =
    let low = told.1 in
    let hs = heard_same controller _ _ _ (part v controller) low.heard low.near in
    let clock : (part w controller).clock ≡ (part v controller).clock = ap (λ (p : Part). p.clock) low.becomes ∙ hs.clock in
    let floors : (part w controller).floors ≡ (part v controller).floors = ap (λ (p : Part). p.floors) low.becomes ∙ hs.floors in
    let stays : l.posted ≡ k.posted = now.posted ∙ (ap length floors ∙ sym was.posted) in (
      stays,
      quiet_step v w controller changes clock floors,
      subst (λ (n : ℕ). LeadWaits course n v w) (sym stays) (record {
        some = told.0;
        awaits = record {
          before = low.heard;
          since = on_cores controller _ _ d (part v controller) low.heard low.near;
          core = d;
          within = low.core;
          other = low.other;
          clock = tick;
          heard = low.becomes;
          low = low.low;
          exact = λ has. low.exact (sym (changes.actors d) ∙ has) ∙ ap (λ (p : Part). p.clock) (sym (changes.parts d low.other));
        };
      }),
    )
lead_stepped course k l v w control.Finished was now changes told =
    let stays : l.posted ≡ k.posted = now.posted ∙ (ap (λ (u : View). length (part u controller).floors) told.1 ∙ sym was.posted) in
    (stays, subst (IsQuiet v) (sym told.1) (quiet_none v), stays ∙ told.0)

-- the controller's part is some steps on after its step
lead_on : (course : CourseView) (n : ℕ) (v w : View) (answer : ControlAnswer) → ControlTold (outline_of course) n v answer w → GoesOnTo (part v controller) (part w controller)
lead_on course n v w (control.Posted count) told = let posts = told.2 in
    on_more (part v controller) posts.heard (part w controller) (on_cores controller _ _ _ (part v controller) posts.heard posts.near)
    (subst (GoesOnTo posts.heard) (sym posts.becomes) (on_posts posts.heard (controllers.floor_of (outline_of course) n)))
lead_on course n v w (control.Behind d tick) told = let low = told.1 in
    on_more (part v controller) low.heard (part w controller) (on_cores controller _ _ d (part v controller) low.heard low.near)
    (subst (GoesOnTo low.heard) (sym low.becomes) (on_hears low.heard d tick))
lead_on course n v w control.Finished told = subst (λ (u : View). GoesOnTo (part v controller) (part u controller)) (sym told.1) (on_none (part v controller))

pub lead_parts : (course : CourseView) (n : ℕ) (v w : View) (answer : ControlAnswer) → ChangesOnly v w controller → ControlTold (outline_of course) n v answer w → PartsGoOn v w
lead_parts course n v w answer changes told = parts_changed v w controller changes (lead_on course n v w answer told)
