-- What a core's actor keeps, along a step.
use Rattle.std.proofs.Common.{◌≡◌, ℕ, zero, suc, ◌*◌, ◌<◌, ◌≤◌, List, [], ◌∷◌, length, take, refl, sym, ap, ◌∙◌, subst, arith}
use Rattle.std.specs.Prelude.{All, slice_get}
use Rattle.tab_core.specs.declared.TheConstants.{ROUND}
use Rattle.tab_core.specs.declared.entry.Entry.{Entry}
use Rattle.tab_core.specs.declared.stint.Stint.{Stint}
use Rattle.table_form.specs.Running.Choice.{last_shared}
use Rattle.table_form.specs.Running.Courses.{CourseView, InEachCourse, outline_of, plan_after}
use Rattle.table_form.specs.Running.Outlines.{OutlineView}
use Rattle.table_form.proofs.CourseLemmas.{in_course}
use Rattle.round_words.specs.declared.view.Part.{Part}
use Rattle.round_words.specs.declared.view.View.{View}
use Rattle.round_words.specs.Hearing.{KnowsClocks}
use Rattle.round_words.specs.Shown.{HoldsCore}
use Rattle.round_words.specs.Changes.{ChangesOnly}
use Rattle.round_words.specs.Views.{last_of, part}
use Rattle.round_words.proofs.ChangesLemmas.{core_still, started_still}
use Rattle.dispatch_core.specs.declared.log.CoreLog.{CoreLog}
use Rattle.run_counts.specs.Accounts.{IsAccountOf}
use Rattle.dispatch_core.specs.Inside.Logs.{IsNewLog, log_view}
use Rattle.dispatch_core.specs.Parts.{HasSeen, IsNewPart, IsOfOutline, IsPartOf, IsTimely, used_counts}
use Rattle.dispatch_core.specs.States.{AgreesWith, AgreesWithoutPlan, FollowsPlans, StateView}
use Rattle.dispatch_core.specs.Told.{ComesToEnter}
use Rattle.dispatch_core.proofs.PartLemmas.{SameRun, entered_same, entered_timely, timely_same}

-- the part of an actor that agrees with it is one of a run of the course
pub agreed_part : (course : CourseView) (s : StateView) (v : View) → AgreesWith course s v
    → IsPartOf course s.rounds s.core (part v s.core)
agreed_part course s v agrees = record { timely = agrees.stands.timely; dispatched = agrees.plans.dispatched }

-- the part of a core that has done nothing
timely_new : (o : OutlineView) (rounds : ℕ) (p : Part) → p.clock ≡ 0 → p.entries ≡ [] → p.stints ≡ [] → IsTimely o rounds p
timely_new o rounds p clock entries stints = record {
  in_run = omega (arith, clock);
  in_rounds = omega (arith, ap length entries);
  rising = λ j k e f lt at at'. absurd (let h = ap (λ (es : List Entry). slice_get es j) entries in cc);
  entered = λ k e at. absurd (let h = ap (λ (es : List Entry). slice_get es k) entries in cc);
  began = λ k s at. absurd (let h = ap (λ (ss : List Stint). slice_get ss k) stints in cc);
  risen = λ j k s t le at at'. absurd (let h = ap (λ (ss : List Stint). slice_get ss j) stints in cc);
}

-- of no stints none is taken
pub none_taken : (n : ℕ) (ss : List Stint) → ss ≡ [] → take n ss ≡ []
none_taken zero ss is = refl
none_taken (suc n) [] is = refl
none_taken (suc n) (s ∷ ss) is = absurd cc

-- a new state agrees with a part to which nothing has happened, in what needs no plan
pub stands_new : (o : OutlineView) (log : CoreLog) (v : View) → IsNewLog log → IsOfOutline o v → HoldsCore v log.core
    → IsNewPart (part v log.core) → AgreesWithoutPlan o (log_view log) v
stands_new o log v new of core fresh = record {
  of_outline = of;
  core = core;
  timely = timely_new o log.rounds (part v log.core) fresh.clock fresh.entries fresh.stints;
  clock = new.clock ∙ sym fresh.clock;
  used = new.used ∙ sym (ap used_counts fresh.entries);
  stints = new.stints ∙ sym (none_taken log.keep (part v log.core).stints fresh.stints);
  known = λ d. new.known d ∙ sym (ap last_of (fresh.heard d));
  within = record {
    slots = λ v lt. omega (arith, new.slots v lt);
    shared = λ v lt. omega (arith, new.shared v lt);
    idle = omega (arith, new.idle);
  };
}

-- a new state agrees with a part to which nothing has happened in what needs a plan
pub plans_new : (course : CourseView) (log : CoreLog) (p : Part) → IsNewLog log → p.stints ≡ []
    → FollowsPlans course (log_view log) p
plans_new course log p new stints = record {
  dispatched = λ k s at. absurd (let h = ap (λ (ss : List Stint). slice_get ss k) stints in cc);
  last = new.last ∙ sym (ap (last_shared course log.core) stints);
  account = subst (λ (ss : List Stint). IsAccountOf course log.core ss log.account) (sym stints)
      (record { slots = new.slots; shared = new.shared; idle = new.idle });
}

-- other parts and sights don't matter, and what was heard only to the known clocks
pub stands_same : (o : OutlineView) (s : StateView) (v w : View) (known : List ℕ) → AgreesWithoutPlan o s v → ChangesOnly v w s.core
    → SameRun (part v s.core) (part w s.core) → KnowsClocks known (part w s.core) → AgreesWithoutPlan o (record s { known = known }) w
stands_same o s v w known stands others same knows = record {
  of_outline = started_still o.lag o.cores (length o.ticks) v w s.core others stands.of_outline;
  core = core_still v w s.core s.core others stands.core;
  timely = timely_same o s.rounds (part v s.core) (part w s.core) same stands.timely;
  clock = stands.clock ∙ sym same.clock;
  used = stands.used ∙ ap used_counts (sym same.entries);
  stints = stands.stints ∙ ap (take s.keep) (sym same.stints);
  known = knows;
  within = stands.within;
}

-- the clocks are known as long as nothing is heard
pub knows_same : (known : List ℕ) (p q : Part) → q.heard ≡ p.heard → KnowsClocks known p → KnowsClocks known q
knows_same known p q same knows = rw same knows

-- what the plans give depends on the stints alone
pub plans_same : (course : CourseView) (s t : StateView) (p q : Part) → t.core ≡ s.core → t.last ≡ s.last → t.account ≡ s.account
    → q.stints ≡ p.stints → FollowsPlans course s p → FollowsPlans course t q
plans_same course s t p q core last account stints follows = record {
  dispatched = rw (core, stints) follows.dispatched;
  last = rw (core, stints, last) follows.last;
  account = rw (core, stints, account) follows.account;
}

-- the core entered its clock's round
pub stands_entered : (o : OutlineView) (s : StateView) (v w : View) (used : List ℕ) (count : ℕ) → AgreesWithoutPlan o s v
    → s.clock < s.rounds * ROUND → ChangesOnly v w s.core → HasSeen o count (part v s.core)
    → All (λ (e : Entry). (e.seen ≤ count) × (e.used ≤ count)) (part v s.core).entries
    → ComesToEnter (part v s.core) (part w s.core) → used ≡ used_counts (part w s.core).entries
    → AgreesWithoutPlan o (record s { used = used }) w
stands_entered o s v w used count stands less others seen entries enters is =
    let p : Part = part v s.core in
    let q : Part = part w s.core in
    let same = entered_same p q enters in record {
      of_outline = started_still o.lag o.cores (length o.ticks) v w s.core others stands.of_outline;
      core = core_still v w s.core s.core others stands.core;
      timely = entered_timely o s.rounds count p q stands.timely (let c = stands.clock in omega (arith, c, less)) seen entries enters;
      clock = stands.clock ∙ sym same.clock;
      used = is;
      stints = stands.stints ∙ ap (take s.keep) (sym same.stints);
      known = knows_same s.known p q same.heard stands.known;
      within = stands.within;
    }

-- a core whose step ended by the plan that its round uses agrees with its part again
pub agrees_ended : (course : CourseView) (o : OutlineView) (used : ℕ) (s t : StateView) (v w : View) → outline_of course ≡ o
    → AgreesWith course s v → AgreesWithoutPlan o t w → t.core ≡ s.core
    → InEachCourse o used (plan_after course used) (λ (x : CourseView).
    FollowsPlans x s (part v s.core) → FollowsPlans x t (part w s.core))
    → AgreesWith course t w
agrees_ended course o used s t v w is agrees stands core plans = record {
  stands = subst (λ (x : OutlineView). AgreesWithoutPlan x t w) (sym is) stands;
  plans = subst (λ (i : ℕ). FollowsPlans course t (part w i)) (sym core) (in_course course o used (plan_after course used)
      (λ (x : CourseView). FollowsPlans x s (part v s.core) → FollowsPlans x t (part w s.core)) is refl plans agrees.plans);
}
