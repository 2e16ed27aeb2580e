-- A live run: how it begins, and what its actors tell of the state as which its view reads.
use Rattle.std.proofs.Common.{◌≡◌, ℕ, suc, ◌+◌, ◌*◌, ◌<◌, ◌≤◌, List, [], ◌∷◌, ◌++◌, length, Option, None, Some, refl, sym, ap, ◌∙◌, subst, arith}
use Rattle.std.specs.Prelude.{slice_get, slice_index, take}
use Rattle.std.proofs.Math.Seq.{take-suc}
use Rattle.std.proofs.lemmas.List.{length-map}
use Rattle.std.proofs.lemmas.Option.{get_or_from_slice_get, slice_get_within}
use Rattle.tab_core.specs.declared.TheConstants.{MAX_ROUNDS, ROUND}
use Rattle.tab_core.specs.declared.host.Host.{Host}
use Rattle.tab_core.specs.declared.stint.Stint.{Stint}
use Rattle.tab_core.proofs.Lists.{element_at}
use Rattle.script_doc.specs.Script.{AreInRun}
use Rattle.script_doc.specs.declared.event.Event.{Event}
use Rattle.table_form.specs.Running.Courses.{CourseView, FitsRounds, IsCourse}
use Rattle.table_form.specs.Running.Outlines.{OutlineView}
use Rattle.table_form.specs.Running.Complete.{IsComplete}
use Rattle.table_form.specs.Running.Invariant.{StateInvariant}
use Rattle.table_form.specs.Promises.Run.{KeepsPromises}
use Rattle.plan_book.proofs.CourseOfBook.{fits_rounds}
use Rattle.round_words.specs.declared.view.View.{View}
use Rattle.round_words.specs.Shown.{ViewInvariant}
use Rattle.round_words.specs.Views.{IsStarted, just_started, part}
use Rattle.crew_turns.specs.declared.player.Player.{Player}
use Rattle.crew_turns.specs.Troops.{AreHeld}
use Rattle.run_counts.specs.Accounts.{IsAccountOf}
use Rattle.run_counts.specs.declared.account.CoreAccount.{CoreAccount}
use Rattle.run_state.proofs.FinishedLemmas.{counts_used}
use Rattle.run_state.proofs.Lists.{in_map, of_map}
use Rattle.run_state.proofs.RunViewLemmas.{is_core}
use Rattle.run_state.specs.Readings.{core_state, state_of}
use Rattle.run_state.specs.RunViews.{HoldsAllParts, IsFinished, IsRunView}
use Rattle.core_workers.proofs.StartLemmas.{fresh_as, holds_started, nobody}
use Rattle.core_workers.specs.Crews.{IsNewView}
use Rattle.run_course.specs.Runs.{AreAccountsOf, IsReportOfState, stints_of}
use Rattle.trace_report.specs.ReportViews.{ReportView}
use Rattle.trace_report.specs.RunReports.{IsReportOf}
use Rattle.live_plan.specs.Actors.{LiveActorView, LiveAgrees}
use Rattle.live_plan.specs.Books.{IsLiveBookOf, LiveView}
use Rattle.live_plan.specs.Courses.{IsLiveCourse}
use Rattle.live_plan.specs.Crews.{HoldsLiveCrew, IsCrewOf, LiveCrewAgrees, LiveCrewView, actor_in, actors_of, bare, live_actor_of}
use Rattle.live_plan.specs.Players.{MemberView, live_core_kind, live_lead_kind}
use Rattle.live_plan.proofs.CoursesLemmas.{live_course}
use Rattle.live_plan.proofs.CrewsLemmas.{held_crew, run, member_of}
use Rattle.run_live.specs.Inside.Readies.{LiveCrewHasRun}
use Rattle.run_live.specs.Inside.Telling.{AreLiveRunAccounts, accounts_of, live_first_used, live_used_in}
use Rattle.run_live.specs.LiveRuns.{RunsSoFar}

-- ---- the beginning

-- a run of the book has all its events
pub fits_book : (host : Host) (events : List Event) (b : LiveView) (rounds : ℕ) → IsLiveBookOf host events b
    → 1 ≤ rounds → rounds ≤ MAX_ROUNDS → AreInRun rounds events → FitsRounds (bare b) rounds
fits_book host events b rounds of some few in_run =
    let fits = fits_rounds host events [] [] [] rounds some few in_run in
    record {
      some_round = some;
      few_rounds = few;
      in_run = λ i lt. subst (λ (ticks : List ℕ). slice_index ticks i < rounds * ROUND) (sym of.outline_is.ticks)
          (fits.in_run i (subst (λ (ticks : List ℕ). i < length ticks) of.outline_is.ticks lt));
    }

-- the view of a board that was just started for it
module _ (b : LiveView) (v : View) (lag cores events : ℕ) (lag_is : lag ≡ b.outline.lag) (cores_are : cores ≡ b.outline.cores)
    (events_are : events ≡ length b.outline.ticks) (is : v ≡ just_started lag cores events) where
  -- has nothing that happened
  pub fresh_live : IsNewView (bare b) v
  fresh_live = fresh_as (bare b) v lag cores events lag_is cores_are events_are is

  same_start : v ≡ just_started b.outline.lag b.outline.cores (length b.outline.ticks)
  same_start = is ∙ (ap (λ (l : ℕ). just_started l cores events) lag_is
      ∙ (ap (λ (n : ℕ). just_started b.outline.lag n events) cores_are
      ∙ ap (just_started b.outline.lag b.outline.cores) events_are))

  -- the view of a started crew has all parts
  pub holds_live : (crew : LiveCrewView) → IsCrewOf b crew → b.outline.cores ≤ 32 → HoldsLiveCrew crew v
  holds_live crew of few =
      let all = holds_started (nobody (bare b)) v same_start few in record {
        cores = λ c lt. all.cores c (omega (arith, lt, of.cores));
        control = all.control;
      }

-- ---- the actors' accounts

-- one core's account more
pub account_more : (actors : List LiveActorView) (n : ℕ) (a : LiveActorView) → slice_get actors n ≡ Some a
    → take (n + 1) (accounts_of actors) ≡ take n (accounts_of actors) ++ a.state.account ∷ []
account_more actors n a at =
    let x : CoreAccount = a.state.account in
    let here : slice_get (accounts_of actors) n ≡ Some x = in_map (λ (k : LiveActorView). k.state.account) actors n a at in
    let lt : n < length (accounts_of actors) = slice_get_within (accounts_of actors) n x here in
    let next : n + 1 ≡ suc n = omega arith in
    rw next (take-suc (accounts_of actors) n x lt
    ∙ ap (λ (y : CoreAccount). take n (accounts_of actors) ++ y ∷ []) (get_or_from_slice_get (accounts_of actors) n x x here))

-- there is one for each actor
pub accounts_size : (actors : List LiveActorView) → length (accounts_of actors) ≡ length actors
accounts_size actors = length-map actors (λ (a : LiveActorView). a.state.account)

-- an actor of a crew's core is its member's
crews_actor : (crew : LiveCrewView) (c : ℕ) (a : LiveActorView) → slice_get (actors_of crew) c ≡ Some a → live_actor_of crew c ≡ Some a
crews_actor crew c a at =
    let m = of_map (λ (p : Player MemberView). p.actor.actor) crew.members c a at in
    ap actor_in m.1 ∙ ap Some (sym m.2)

-- ---- the view

module _ (b : LiveView) (crew : LiveCrewView) (v : View) (is : IsCrewOf b crew) (agree : LiveCrewAgrees b crew v)
    (all : HoldsLiveCrew crew v) where
  -- it was started for the book
  pub started : IsStarted b.outline.lag b.outline.cores (length b.outline.ticks) v
  started = (agree.control all.control).of_outline

  -- the view holds all parts
  pub holds_all : HoldsAllParts v
  holds_all = record {
    cores = λ c lt. all.cores c (omega (arith, lt, started.cores_are, is.cores));
    controller = all.control;
  }

  -- the view is of a run so far where the promises are kept
  pub runs_so_far : (host : Host) (events : List Event) (rounds : ℕ) → IsLiveBookOf host events b
      → ((course : CourseView) → IsCourse course → IsLiveCourse b course
      → KeepsPromises course rounds (state_of course v)) → RunsSoFar rounds host events v
  runs_so_far host events rounds of promises = record {
    started = record {
      started = started.started;
      lag_is = started.lag_is ∙ of.outline_is.lag;
      cores_are = started.cores_are ∙ of.outline_is.cores;
      events_are = started.events_are ∙ (ap length of.outline_is.ticks ∙ length-map events (λ (event : Event). event.tick));
    };
    holds = holds_all;
    promises = λ course kept course_of. promises course kept (live_course host events b course of course_of kept.form);
  }

  -- by a course of the book
  module _ (course : CourseView) (live : IsLiveCourse b course) (invariant : StateInvariant course crew.rounds (state_of course v)) where
    cores_are : length crew.members ≡ course.cores
    cores_are = is.cores ∙ sym (ap (λ (o : OutlineView). o.cores) live.outline)

    actors_are : length (actors_of crew) ≡ course.cores
    actors_are = length-map crew.members (λ (p : Player MemberView). p.actor.actor) ∙ cores_are

    -- the accounts are those of the state's stints
    pub accounts_are : AreAccountsOf course (state_of course v) (accounts_of (actors_of crew))
    accounts_are = record {
      size = accounts_size (actors_of crew) ∙ (actors_are ∙ sym invariant.size);
      each = λ c x at.
          let a = of_map (λ (k : LiveActorView). k.state.account) (actors_of crew) c x at in
          let m = of_map (λ (p : Player MemberView). p.actor.actor) crew.members c a.0 a.1 in
          let member = is.members c m.0 m.1 in
          let lt = slice_get_within crew.members c m.0 m.1 in
          let agrees : LiveAgrees b m.0.actor.actor.state v = agree.cores c m.0.actor.actor (ap actor_in m.1) (all.cores c lt) in
          let small : c < v.cores = omega (arith, lt, is.cores, started.cores_are) in
          let here : IsAccountOf course c (part v c).stints m.0.actor.actor.state.account =
          subst (λ (k : ℕ). IsAccountOf course k (part v k).stints m.0.actor.actor.state.account) member.core
          (agrees.plans course live).account in
          subst (λ (stints : List Stint). IsAccountOf course c stints x) (sym (ap stints_of (is_core course v c small)))
          (subst (IsAccountOf course c (part v c).stints) (sym (a.2 ∙ ap (λ (k : LiveActorView). k.state.account) m.2)) here);
    }

    module _ (complete : IsComplete course crew.rounds (state_of course v)) (kept : IsCourse course) (shown : ViewInvariant v)
        (counts : (c : ℕ) (a : LiveActorView) → live_actor_of crew c ≡ Some a → a.state.used ≡ (state_of course v).decided) where
      few : length crew.members ≤ 32
      few = omega (arith, cores_are, kept.form.outline.few_cores)

      held : AreHeld live_core_kind live_lead_kind crew.members crew.lead v
      held = held_crew b crew v (omega (arith, few, is.cores)) is agree all

      run_is : IsRunView course crew.rounds v
      run_is = run b crew v is held course live shown

      over : IsFinished crew.rounds v
      over = record {
        clocks = λ c lt. complete.clocks c (core_state course (part v c)) (is_core course v c lt);
        posted = complete.posted ∙ sym run_is.started.events_are;
      }

      some : 0 < v.cores
      some = omega (arith, started.cores_are, is.cores, cores_are, kept.form.outline.some_core)

      -- core 0's counts are those that were decided
      pub first_decided : live_first_used (actors_of crew) ≡ (state_of course v).decided
      first_decided =
          let a = element_at (actors_of crew) 0 (omega (arith, actors_are, kept.form.outline.some_core)) in
          ap live_used_in a.1 ∙ counts 0 a.0 (crews_actor crew 0 a.0 a.1)

      -- what the actors tell
      pub are_told : (rounds : ℕ) → crew.rounds ≡ rounds → rounds ≤ MAX_ROUNDS → AreLiveRunAccounts course (actors_of crew) rounds
      are_told rounds same most = record {
        cores = actors_are;
        size = ap length first_decided ∙ ((counts_used course crew.rounds 0 v run_is over some).1 ∙ same);
        counts = λ r count at.
            let decided : slice_get (state_of course v).decided r ≡ Some count =
            sym (ap (λ (used : List ℕ). slice_get used r) first_decided) ∙ at in
            omega (arith, invariant.decided_posted r count decided, invariant.posted_most);
        within = λ c a here.
            let at = crews_actor crew c a here in
            let m = member_of (slice_get crew.members c) a at in
            let lt = slice_get_within crew.members c m.0 m.1 in
            let stands = (agree.cores c a at (all.cores c lt)).stands in
            let rounds_is : a.state.rounds ≡ crew.rounds =
            subst (λ (x : LiveActorView). x.state.rounds ≡ crew.rounds) m.2 (is.members c m.0 m.1).rounds_is in
            let clock : a.state.clock ≤ MAX_ROUNDS * ROUND =
            omega (arith, stands.clock, stands.timely.in_run, rounds_is, same, most) in
            record {
              slots = λ u small. omega (arith, stands.within.slots u small, clock);
              shared = λ u small. omega (arith, stands.within.shared u small, clock);
              idle = omega (arith, stands.within.idle, clock);
            };
      }

      -- the report of what they tell is the state's
      pub report_of : (report : ReportView) → IsReportOf course (live_first_used (actors_of crew)) (accounts_of (actors_of crew)) report
          → IsReportOfState course (state_of course v) report
      report_of report told = record {
        accounts = accounts_of (actors_of crew);
        are = accounts_are;
        is = subst (λ (used : List ℕ). IsReportOf course used (accounts_of (actors_of crew)) report) first_decided told;
      }

-- the view that a crew leaves which ran, however far it came, is of a run so far
pub ran_so_far : (b : LiveView) (host : Host) (events : List Event) (rounds : ℕ) (crew : LiveCrewView) (v : View) (stopped : Option ℕ)
    → IsLiveBookOf host events b → LiveCrewHasRun b rounds crew v stopped → RunsSoFar rounds host events v
ran_so_far b host events rounds crew v stopped of r = runs_so_far b crew v r.crew_of r.agree r.holds host events rounds of
    (λ course kept live. subst (λ (n : ℕ). KeepsPromises course n (state_of course v)) r.rounds_are (r.promises course kept live))
