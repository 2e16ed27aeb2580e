-- A crew that has finished: what it tells of the state as which its view reads.
use Rattle.std.proofs.Common.{◌≡◌, true, ℕ, zero, suc, ◌+◌, ◌*◌, ◌<◌, ◌≤◌, inl, inr, List, [], ◌∷◌, ◌++◌, length, Some, refl, sym, ap, ◌∙◌, subst, arith}
use Rattle.std.specs.Prelude.{slice_get, take}
use Rattle.std.proofs.lemmas.List.{take_all}
use Rattle.tab_core.proofs.Lists.{push_split}
use Rattle.tab_core.specs.declared.TheConstants.{MAX_ROUNDS, ROUND}
use Rattle.tab_core.specs.declared.stint.Stint.{Stint}
use Rattle.tab_words.specs.declared.command.RunMode.{RunMode}
use Rattle.table_form.specs.Running.Courses.{CourseView, outline_of}
use Rattle.table_form.specs.Running.Invariant.{StateInvariant}
use Rattle.table_form.specs.Running.State.{State}
use Rattle.round_words.proofs.ListLemmas.{length_push}
use Rattle.round_words.specs.Shown.{ViewInvariant}
use Rattle.round_words.specs.declared.view.View.{View}
use Rattle.round_words.specs.Views.{part}
use Rattle.run_counts.specs.Accounts.{IsAccountOf}
use Rattle.dispatch_core.specs.Parts.{IsOfOutline}
use Rattle.dispatch_core.specs.States.{AgreesWith, StateView}
use Rattle.run_counts.specs.declared.account.CoreAccount.{CoreAccount}
use Rattle.run_state.proofs.FinishedLemmas.{counts_used}
use Rattle.run_state.proofs.RunViewLemmas.{is_core}
use Rattle.run_state.specs.Readings.{core_state, state_of}
use Rattle.run_state.specs.RunViews.{HoldsAllParts}
use Rattle.core_workers.proofs.CrewLemmas.{at_was}
use Rattle.core_workers.proofs.FinishedLemmas.{complete, counts, ended, kept, promises, run}
use Rattle.core_workers.specs.Crews.{AllAgree, HeldFinished, HoldsAll, IsCrew, IsSameCrew, IsWhole}
use Rattle.core_workers.specs.Views.{CrewView, actor_of}
use Rattle.run_limit.proofs.StintBoundLemmas.{few_stints}
use Rattle.trace_report.specs.ReportViews.{ReportView}
use Rattle.trace_report.specs.RunReports.{IsReportOf}
use Rattle.run_course.specs.Inside.Keeping.{IsReady, IsRoomFor}
use Rattle.run_course.specs.Inside.Telling.{AreRunAccounts, account_in, accounts_below, first_used, used_in}
use Rattle.run_course.specs.Runs.{AreAccountsOf, IsRunOf, keeps_stints, kept_in, ran_view, stints_at, stints_of}

-- ---- the accounts of the first cores

-- one core's account more
pub accounts_more : (crew : CrewView) (n : ℕ) (a : StateView) → actor_of crew n ≡ Some a
    → accounts_below crew (n + 1) ≡ accounts_below crew n ++ a.account ∷ []
accounts_more crew n a at =
    let next : n + 1 ≡ suc n = omega arith in
    ap (accounts_below crew) next ∙ ap (λ o. accounts_below crew n ++ account_in o) at

-- there is one for each of them
pub accounts_size : (crew : CrewView) (n : ℕ) → IsWhole crew → n ≤ crew.course.cores
    → length (accounts_below crew n) ≡ n
accounts_size crew zero whole le = refl
accounts_size crew (suc n) whole le =
    let a = whole n (omega arith) in
    let before = accounts_size crew n whole (omega arith) in
    let after : length (accounts_below crew (suc n)) ≡ length (accounts_below crew n) + 1 =
    ap (λ o. length (accounts_below crew n ++ account_in o)) a.1
    ∙ (length_push (accounts_below crew n) a.0.account ∙ omega arith) in
    omega (arith, before, after)

-- each core's account is that of its actor
account_at : (crew : CrewView) (n c : ℕ) (account : CoreAccount) → IsWhole crew → n ≤ crew.course.cores
    → slice_get (accounts_below crew n) c ≡ Some account
    → (a : StateView) × (actor_of crew c ≡ Some a) × (a.account ≡ account)
account_at crew zero c account whole le at = absurd cc
account_at crew (suc n) c account whole le at =
    let a = whole n (omega arith) in
    let pushed : slice_get (accounts_below crew n ++ a.0.account ∷ []) c ≡ Some account =
    sym (ap (λ o. slice_get (accounts_below crew n ++ account_in o) c) a.1) ∙ at in
    elim (push_split (accounts_below crew n) c a.0.account account pushed) [
      | inl old ↦ account_at crew n c account whole (omega arith) old
      | inr here ↦
          let place : c ≡ n = here.0 ∙ accounts_size crew n whole (omega arith) in
          (a.0, subst (λ (k : ℕ). actor_of crew k ≡ Some a.0) (sym place) a.1, here.1)
    ]

-- ---- the view

module _ (crew : CrewView) (v : View) (is : IsCrew crew) (whole : IsWhole crew) (agree : AllAgree crew v) (all : HoldsAll crew v) (whole_state : StateInvariant crew.course crew.rounds (state_of crew.course v)) where
  -- it was started for the course
  pub started : IsOfOutline (outline_of crew.course) v
  started = (agree.control all.control).of_outline

  -- it holds all parts
  pub holds_all : HoldsAllParts v
  holds_all = record {
    cores = λ c lt. all.cores c (subst (λ (n : ℕ). c < n) started.cores_are lt);
    controller = all.control;
  }

  -- the stints of a core of the state are those of its part
  stints_are : (c : ℕ) → c < crew.course.cores → stints_at (state_of crew.course v) c ≡ (part v c).stints
  stints_are c lt = ap stints_of (is_core crew.course v c (subst (λ (n : ℕ). c < n) (sym started.cores_are) lt))

  -- each actor agrees with the part of its core
  pub agreed : (c : ℕ) (a : StateView) → actor_of crew c ≡ Some a → AgreesWith crew.course a v
  agreed c a at = agree.cores c a at (all.cores c (is.each c a at).within)

  -- the actors' accounts are those of the state's stints
  pub accounts_are : AreAccountsOf crew.course (state_of crew.course v) (accounts_below crew crew.course.cores)
  accounts_are = record {
    size = accounts_size crew crew.course.cores whole (omega arith)
        ∙ sym whole_state.size;
    each = λ c account at.
        let a = account_at crew crew.course.cores c account whole (omega arith) at in
        let core = (is.each c a.0 a.1).core in
        let account_of = (agreed c a.0 a.1).plans.account in
        let lt = (is.each c a.0 a.1).within in
        subst (IsAccountOf crew.course c (stints_at (state_of crew.course v) c)) a.2
        (subst (λ (stints : List Stint). IsAccountOf crew.course c stints a.0.account) (sym (stints_are c lt))
        (subst (λ (k : ℕ). IsAccountOf crew.course k (part v k).stints a.0.account) core account_of));
  }

  -- an actor that keeps as many stints as the run can have of its core keeps them all
  pub all_kept : (c : ℕ) (a : StateView) → actor_of crew c ≡ Some a
      → length (stints_at (state_of crew.course v) c) ≤ a.keep
      → kept_in (actor_of crew c) ≡ stints_at (state_of crew.course v) c
  all_kept c a at few =
      let core = (is.each c a at).core in
      let lt = (is.each c a at).within in
      let first : a.stints ≡ take a.keep (part v c).stints =
      subst (λ (k : ℕ). a.stints ≡ take a.keep (part v k).stints) core (agreed c a at).stands.stints in
      ap kept_in at ∙ (first ∙ (ap (take a.keep) (sym (stints_are c lt))
      ∙ take_all a.keep (stints_at (state_of crew.course v) c) few))

-- ---- a crew that has finished

module _ (crew : CrewView) (v : View) (is : IsCrew crew) (whole : IsWhole crew) (agree : AllAgree crew v) (all : HoldsAll crew v) (shown : ViewInvariant v) (done : HeldFinished crew v) where
  abbrev s : State
  s = state_of crew.course v

  invariant : StateInvariant crew.course crew.rounds s
  invariant = kept crew v is whole agree all shown

  used_decided : (c : ℕ) (a : StateView) → actor_of crew c ≡ Some a → a.used ≡ s.decided
  used_decided = counts crew v is whole agree all shown done

  -- core 0's counts are those that were decided
  first_decided : first_used crew ≡ s.decided
  first_decided =
      let a = whole 0 is.course_kept.form.outline.some_core in
      ap used_in a.1 ∙ used_decided 0 a.0 a.1

  -- there is one for each round
  each_round : length s.decided ≡ crew.rounds
  each_round =
      let of = (agree.control all.control).of_outline in
      let small : 0 < v.cores = omega (arith, of.cores_are, is.course_kept.form.outline.some_core) in
      (counts_used crew.course crew.rounds 0 v (run crew v is whole agree all shown) (ended crew v is whole agree all shown done) small).1

  -- what the actors tell
  pub are_told : (rounds : ℕ) → crew.rounds ≡ rounds → rounds ≤ MAX_ROUNDS → AreRunAccounts crew rounds
  are_told rounds same few = record {
    same = λ c a at. used_decided c a at ∙ sym first_decided;
    size = ap length first_decided ∙ (each_round ∙ same);
    counts = λ r count at.
        let decided : slice_get s.decided r ≡ Some count = sym (ap (λ used. slice_get used r) first_decided) ∙ at in
        omega (arith, invariant.decided_posted r count decided, invariant.posted_most);
    within = λ c a at.
        let stands = (agreed crew v is whole agree all invariant c a at).stands in
        let rounds_is = (is.each c a at).rounds_is in
        let clock : a.clock ≤ MAX_ROUNDS * ROUND = omega (arith, stands.clock, stands.timely.in_run, rounds_is, same, few) in
        record {
          slots = λ u lt. omega (arith, stands.within.slots u lt, clock);
          shared = λ u lt. omega (arith, stands.within.shared u lt, clock);
          idle = omega (arith, stands.within.idle, clock);
        };
  }

  -- the run, with the report of what they tell
  pub run_of : (course : CourseView) (rounds : ℕ) (mode : RunMode) (report : ReportView) → crew.course ≡ course
      → crew.rounds ≡ rounds
      → (keeps_stints mode ≡ true → (c : ℕ) (a : StateView) → actor_of crew c ≡ Some a → c < crew.course.cores → IsRoomFor crew.course crew.rounds c a.keep)
      → IsReportOf crew.course (first_used crew) (accounts_below crew crew.course.cores) report
      → IsRunOf course rounds mode v (ran_view crew report)
  run_of course rounds mode report course_is rounds_are keeps told =
      subst (λ (k : CourseView). IsRunOf k rounds mode v (ran_view crew report)) course_is
      (subst (λ (n : ℕ). IsRunOf crew.course n mode v (ran_view crew report)) rounds_are (record {
        course_is = refl;
        course_kept = is.course_kept;
        started = started crew v is whole agree all invariant;
        holds = holds_all crew v is whole agree all invariant;
        promises = promises crew v is whole agree all shown;
        complete = complete crew v is whole agree all shown done;
        report = record {
          accounts = accounts_below crew crew.course.cores;
          are = accounts_are crew v is whole agree all invariant;
          is = subst (λ (used : List ℕ). IsReportOf crew.course used (accounts_below crew crew.course.cores) report) first_decided told;
        };
        used = λ c a at. used_decided c a at;
        stints = λ trace c lt.
            let a = whole c lt in
            let room = keeps trace c a.0 a.1 lt in
            let of = (agree.control all.control).of_outline in
            let small : c < v.cores = omega (arith, of.cores_are, lt) in
            let core = is_core crew.course v c small in
            let most = few_stints crew.course crew.rounds c room.most s (core_state crew.course (part v c)) is.course_kept invariant room.largest core in
            let few : length (stints_at s c) ≤ a.0.keep = omega (arith, most, room.keep_is, ap (λ o. length (stints_of o)) core) in
            all_kept crew v is whole agree all invariant c a.0 a.1 few;
      }))

-- a crew that was ready keeps, some steps on, what it kept
pub keeps_on : (course : CourseView) (rounds : ℕ) (mode : RunMode) (crew crew' : CrewView)
    → IsReady course rounds mode crew → IsSameCrew crew crew' → keeps_stints mode ≡ true → (c : ℕ) (a : StateView)
    → actor_of crew' c ≡ Some a → c < crew'.course.cores → IsRoomFor crew'.course crew'.rounds c a.keep
keeps_on course rounds mode crew crew' ready same trace c a at lt =
    let was = at_was (actor_of crew c) (actor_of crew' c) a (same.each c) at in
    let course_is : crew'.course ≡ course = same.course ∙ ready.course_is in
    let rounds_are : crew'.rounds ≡ rounds = same.rounds ∙ ready.rounds_are in
    let room = ready.keeps trace c was.0 was.1 (subst (λ (k : CourseView). c < k.cores) course_is lt) in
    subst (λ (n : ℕ). IsRoomFor crew'.course n c a.keep) (sym rounds_are)
    (subst (λ (k : CourseView). IsRoomFor k rounds c a.keep) (sym course_is)
    (subst (IsRoomFor course rounds c) (sym was.2.keep) room))
