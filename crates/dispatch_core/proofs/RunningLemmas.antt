-- What a step leaves of a core that runs on in the round that it has entered.
use Rattle.std.proofs.Common.{◌≡◌, ℕ, suc, ◌*◌, ◌/◌, ◌<◌, ◌≤◌, List, Some, inl, length, sym, ap, ◌∙◌, subst, arith}
use Rattle.std.specs.Prelude.{slice_get}
use Rattle.std.proofs.lemmas.Option.{slice_get_within}
use Rattle.tab_core.specs.declared.TheConstants.{ROUND}
use Rattle.tab_core.specs.declared.entry.Entry.{Entry}
use Rattle.tab_core.specs.declared.stint.Stint.{Stint}
use Rattle.table_form.specs.Running.Courses.{CourseView}
use Rattle.table_form.specs.Running.Outlines.{OutlineView}
use Rattle.round_words.specs.declared.view.Part.{Part}
use Rattle.round_words.specs.declared.view.View.{View}
use Rattle.round_words.specs.Changes.{ChangesOnly}
use Rattle.round_words.specs.Shown.{IsSight}
use Rattle.round_words.specs.Views.{part, sees}
use Rattle.round_words.proofs.ChangesLemmas.{changes_more}
use Rattle.round_words.proofs.HearingLemmas.{heard_same}
use Rattle.round_words.proofs.ListLemmas.{at_get}
use Rattle.dispatch_core.specs.declared.answer.CoreAnswer.{CoreAnswer}
use Rattle.dispatch_core.specs.Parts.{HasEvents, SameButHeard, used_counts}
use Rattle.dispatch_core.specs.States.{AgreesWithoutPlan, FollowsPlans, HasBegun, IsSameCore, StateView}
use Rattle.dispatch_core.specs.Told.{BeginsStep, CoreGoes, MakesSteps, RunsSome}
use Rattle.dispatch_core.proofs.EntryLemmas.{count_used, used_at}
use Rattle.dispatch_core.proofs.StateLemmas.{knows_same, stands_same}
use Rattle.dispatch_core.proofs.ToldLemmas.{has_seen, sees_same}

-- the core of state s, which has entered its clock's round, has seen the count since, and no more has happened
module _ (o : OutlineView) (s : StateView) (v u : View) (count used : ℕ) (stands : AgreesWithoutPlan o s v) (others : ChangesOnly v u s.core)
    (saw : part u s.core ≡ sees (part v s.core) count) where
  pub stands_seen : AgreesWithoutPlan o s u
  stands_seen = stands_same o s v u s.known stands others (sees_same (part v s.core) (part u s.core) count saw)
      (knows_same s.known (part v s.core) (part u s.core) (ap (λ (p : Part). p.heard) saw) stands.known)

  module _ (less : s.clock < s.rounds * ROUND) (sighted : IsSight v s.core count) (has : HasEvents o count (part v s.core).clock)
      (entered : slice_get s.used (s.clock / ROUND) ≡ Some used) where
    -- that is a step's begin
    pub begun_seen : HasBegun o s u count used
    begun_seen = record {
      unfinished = less;
      sight = has_seen o v s.core count (part u s.core) saw sighted has stands.of_outline.events_are;
      entered = entered;
      within = (let e = used_at (part v s.core).entries (s.clock / ROUND) used
          (subst (λ (us : List ℕ). slice_get us (s.clock / ROUND) ≡ Some used) stands.used entered) in
          let le = at_get (λ (x : Entry). (x.seen ≤ count) × (x.used ≤ count)) (part v s.core).entries (s.clock / ROUND) e.0 e.1 sighted.counts.entries in
          omega (arith, le.1, e.2, sighted.within, stands.of_outline.events_are));
    }

    pub begins_seen : BeginsStep o s.rounds s.core v count (part u s.core)
    begins_seen = record {
      unfinished = omega (arith, less, stands.clock);
      sees_all = record { sighted = sighted; has = has };
      enters = inl (
        (let there = slice_get_within s.used (s.clock / ROUND) used entered in
            let long : length s.used ≡ length (part v s.core).entries = ap length stands.used ∙ count_used (part v s.core).entries in
            omega (arith, there, long, stands.clock)),
        saw,
      );
    }

  -- after that it was left as t
  module _ (t : StateView) (w : View) (now : AgreesWithoutPlan o t w) (same : IsSameCore s t) where
    clock_left : t.clock ≡ (part w s.core).clock
    clock_left = now.clock ∙ ap (λ (c : ℕ). (part w c).clock) same.core

    used_left : t.used ≡ used_counts (part w s.core).entries
    used_left = now.used ∙ ap (λ (c : ℕ). used_counts (part w c).entries) same.core

    used_seen : used_counts (part u s.core).entries ≡ s.used
    used_seen = ap (λ (p : Part). used_counts p.entries) saw ∙ sym stands.used

    -- as a core that heard of another that it waits for it
    module _ (stays : SameButHeard (part u s.core) (part w s.core)) where
      pub used_stays : t.used ≡ s.used
      used_stays = used_left ∙ (ap used_counts stays.entries ∙ used_seen)

      pub clock_stays : t.clock ≡ s.clock
      clock_stays = clock_left ∙ (stays.clock ∙ (ap (λ (p : Part). p.clock) saw ∙ sym stands.clock))

    -- as a core that has run a stint
    module _ (stint : Stint) (runs : RunsSome o s.core (part u s.core) (part w s.core) stint) where
      pub used_ran : t.used ≡ s.used
      used_ran = let hs = heard_same s.core o.lag stint.end o.cores (part u s.core) runs.heard runs.near in
          used_left ∙ (ap (λ (p : Part). used_counts p.entries) runs.becomes ∙ (ap used_counts hs.entries ∙ used_seen))

      pub clock_ran : t.clock ≡ stint.end
      clock_ran = clock_left ∙ ap (λ (p : Part). p.clock) runs.becomes

      pub clock_rises : s.clock < t.clock
      clock_rises = omega (arith, clock_ran, runs.some, runs.begins.from, ap (λ (p : Part). p.clock) saw, stands.clock)

-- the core of state s made some steps, which left it as t, and one more
module _ (o : OutlineView) (s t : StateView) (u v w : View) (same : IsSameCore s t) (changes : ChangesOnly v w t.core) where
  pub changes_here : ChangesOnly v w s.core
  changes_here = subst (ChangesOnly v w) same.core changes

  pub changes_on : ChangesOnly u v s.core → ChangesOnly u w s.core
  changes_on before = changes_more u v w s.core before changes_here

  abbrev pub steps_on : (answer : CoreAnswer) → CoreGoes o t.rounds t.core v answer w → (count : ℕ) × MakesSteps o s.rounds s.core count u v
      → (count : ℕ) × MakesSteps o s.rounds s.core count u w
  steps_on answer goes made = (
    suc made.0,
    (
      v,
      answer,
      made.1,
      changes_here,
      subst (λ (c : ℕ). CoreGoes o s.rounds c v answer w) same.core (subst (λ (r : ℕ). CoreGoes o r t.core v answer w) same.rounds goes),
    ),
  )

  pub same_on : (n : StateView) → IsSameCore t n → IsSameCore s n
  same_on n more = record { core = more.core ∙ same.core; rounds = more.rounds ∙ same.rounds; keep = more.keep ∙ same.keep }

  pub plans_on : (n : StateView) (course : CourseView) → (FollowsPlans course t (part v t.core) → FollowsPlans course n (part w t.core))
      → FollowsPlans course t (part v s.core) → FollowsPlans course n (part w s.core)
  plans_on n course more follows = subst (λ (c : ℕ). FollowsPlans course n (part w c)) same.core
      (more (subst (λ (c : ℕ). FollowsPlans course t (part v c)) (sym same.core) follows))
