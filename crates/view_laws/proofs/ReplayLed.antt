-- What the steps of a run make leads on, line by line.
use Rattle.std.proofs.Common.{◌≡◌, ◌≢◌, ℕ, ◌<◌, ◌≤◌, ◌⊎◌, List, [], ◌∷◌, ◌++◌, get_or, length, length-append, map, slice_get, slice_index, slice_set, Some, refl, sym, ap, ◌∙◌, subst, inl, inr, arith}
use Rattle.std.proofs.lemmas.List.{get_or-set_other, get_or-set_same, length-set}
use Rattle.std.proofs.lemmas.List.Elements.{All-cons, All-nil}
use Rattle.std.proofs.lemmas.Option.{slice_get-get_or, slice_get_within}
use Rattle.std.specs.List.{All}
use Rattle.tab_core.specs.declared.TheConstants.{MAX_CORES, MAX_ROUNDS}
use Rattle.tab_core.specs.declared.entry.Entry.{Entry}
use Rattle.tab_core.specs.declared.stint.Stint.{Stint}
use Rattle.tab_core.proofs.Lists.{push_new}
use Rattle.table_form.specs.Running.Courses.{CourseView, IsCourse, plan_after}
use Rattle.table_form.specs.Running.Entering.{Decides}
use Rattle.table_form.specs.Running.Invariant.{StateInvariant}
use Rattle.table_form.specs.Running.State.{CoreState, State, opening_core}
use Rattle.table_form.specs.Running.Stints.{RunsNextStint, runs}
use Rattle.vcpu_names.specs.Names.{AreNames}
use Rattle.script_doc.specs.declared.step.Step.{Step}
use Rattle.script_doc.specs.declared.step.Step.TheVariants as steps
use Rattle.step_machine.specs.Cores.{core_at}
use Rattle.step_machine.specs.Traces.{EndsWith, IsTrace}
use Rattle.step_machine.specs.declared.trace.Made.{Made}
use Rattle.step_machine.specs.declared.trace.Made.TheVariants.{Entered, Ran}
use Rattle.step_machine.proofs.InvariantLemmas.{moves_keep}
use Rattle.step_machine.proofs.Lists.{set_split}
use Rattle.view_doc.specs.Grammar.{Front}
use Rattle.view_doc.specs.Lines.{IsGood, entry}
use Rattle.view_doc.specs.declared.place.Place.{Place}
use Rattle.view_doc.specs.declared.place.Place.TheVariants.{Running}
use Rattle.view_laws.specs.ShownReplays.{made_told}
use Rattle.view_laws.specs.ShownRuns.{stint_told}
use Rattle.view_laws.proofs.FitStints.{IsFitEntry, fit_entry, fit_stint}
use Rattle.view_laws.proofs.Known.{HasRoomFor}
use Rattle.view_laws.proofs.Leading.{front_at}
use Rattle.view_laws.proofs.RunLed.{IsFitStint, IsOpen, Reaches, entry_goes, stays_there, stint_goes, stint_good}

-- ---- where stints end

-- each core's last stint ends where its clock is
pub record AreClocks (ends : List ℕ) (cores : List CoreState) : Type 0 where
  pub size : length ends ≡ MAX_CORES
  pub each : (c : ℕ) (core : CoreState) → slice_get cores c ≡ Some core → slice_index ends c ≡ core.clock

-- they stay so where a core's clock stays
same_clock : (ends : List ℕ) (cores : List CoreState) (c : ℕ) (core changed : CoreState)
    → slice_get cores c ≡ Some core → changed.clock ≡ core.clock → AreClocks ends cores
    → AreClocks ends (slice_set cores c changed)
same_clock ends cores c core changed at same clocks = record {
  size = clocks.size;
  each = λ d other is. by_place d other (set_split cores c d changed other is);
}
  where
    by_place : (d : ℕ) (other : CoreState)
        → ((d ≡ c) × (changed ≡ other)) ⊎ ((d ≢ c) × (slice_get cores d ≡ Some other))
        → slice_index ends d ≡ other.clock
    by_place d other (inl here) =
        ap (slice_index ends) here.0
        ∙ (clocks.each c core at ∙ (sym same ∙ ap (λ (x : CoreState). x.clock) here.1))
    by_place d other (inr there) = clocks.each d other there.1

-- the ends are as the clocks where both change
new_clock : (ends : List ℕ) (cores : List CoreState) (c : ℕ) (changed : CoreState) (to : ℕ)
    → c < MAX_CORES → changed.clock ≡ to → AreClocks ends cores
    → AreClocks (slice_set ends c to) (slice_set cores c changed)
new_clock ends cores c changed to low is clocks =
    let size = clocks.size in
    record {
      size = length-set ends c to ∙ size;
      each = λ d other at. by_place d other (set_split cores c d changed other at);
    }
  where
    by_place : (d : ℕ) (other : CoreState)
        → ((d ≡ c) × (changed ≡ other)) ⊎ ((d ≢ c) × (slice_get cores d ≡ Some other))
        → slice_index (slice_set ends c to) d ≡ other.clock
    by_place d other (inl here) =
        let size = clocks.size in
        ap (slice_index (slice_set ends c to)) here.0
        ∙ (get_or-set_same ends c to 0 (omega arith) ∙ (sym is ∙ ap (λ (x : CoreState). x.clock) here.1))
    by_place d other (inr there) =
        get_or-set_other ends c d to 0 there.0 ∙ clocks.each d other there.1

-- ---- the last of a list

-- two lists that are one end with one
last_same : {X : Type 0} (xs ys : List X) (x y : X) → xs ++ x ∷ [] ≡ ys ++ y ∷ [] → x ≡ y
last_same xs ys x y is =
    let size = ap length is in
    let many : length xs ≡ length ys =
    let one = length-append xs (x ∷ []) in let other = length-append ys (y ∷ []) in omega arith in
    let same : Some x ≡ Some y =
    sym (push_new xs x) ∙ (ap (λ l. slice_get l (length xs)) is
    ∙ (ap (slice_get (ys ++ y ∷ [])) many ∙ push_new ys y)) in
    cc

-- ---- the lines

-- what was made leads on from a place of a run, and its lines are good
pub record GoesBy (names : List (List ℕ)) (course : CourseView) (front : Front) (made : List Made) : Type 0
  where
    pub reaches : Reaches names front (map (made_told names course) made) (λ place ends. Unit {0})
    pub good : All IsGood (map (made_told names course) made)

-- what a run needs besides
pub record IsRunHost (names : List (List ℕ)) (course : CourseView) (rounds : ℕ) : Type 0 where
  pub good : AreNames names
  pub many : length names ≡ length (plan_after course 0).tasks
  pub keeps : IsCourse course
  pub few : rounds ≤ MAX_ROUNDS

-- a core that a step changed is there
core_there : (course : CourseView) (rounds : ℕ) (old mid : State) (c : ℕ) (core : CoreState)
    → StateInvariant course rounds old → StateInvariant course rounds mid → slice_get old.cores c ≡ Some core
    → slice_get mid.cores c ≡ Some (core_at mid c)
core_there course rounds old mid c core kept later at =
    let low = slice_get_within old.cores c core at in
    let size = kept.size in
    let same = later.size in
    slice_get-get_or mid.cores c opening_core (omega arith)

-- an entry that a step made, before what later steps make
entered_goes : (names : List (List ℕ)) (course : CourseView) (rounds : ℕ) (mid : State) (c : ℕ) (e : Entry)
    (made : List Made) (place : Place) (known : List (List ℕ)) (ends : List ℕ) → IsRunHost names course rounds
    → StateInvariant course rounds mid → slice_get mid.cores c ≡ Some (core_at mid c)
    → EndsWith (core_at mid c).entries e → IsOpen place
    → GoesBy names course (front_at Running known ends) made
    → GoesBy names course (front_at place known ends) (Entered c e ∷ made)
entered_goes names course rounds mid c e made place known ends host later at last open_at more =
    let fit : IsFitEntry c e = fit_entry course rounds mid c (length last.0) (core_at mid c) e host.keeps
    host.few later at
    (ap (λ es. slice_get es (length last.0)) last.1 ∙ push_new last.0 e) in
    record {
      reaches = entry_goes names (λ p es. Unit {0}) place known ends c e.round e.used
          (map (made_told names course) made) open_at more.reaches;
      good = All-cons IsGood (entry c e.round e.used) (map (made_told names course) made)
          (fit.core, fit.round, fit.used) more.good;
    }

-- a stint that a step made goes before what later steps make
ran_goes : (names : List (List ℕ)) (course : CourseView) (rounds : ℕ) (old mid : State) (c : ℕ) (s : Stint)
    (made : List Made) (place : Place) (known : List (List ℕ)) (ends : List ℕ) → IsRunHost names course rounds
    → StateInvariant course rounds mid → slice_get mid.cores c ≡ Some (core_at mid c)
    → RunsNextStint course rounds c old mid → EndsWith (core_at mid c).stints s → IsOpen place → HasRoomFor names known
    → AreClocks ends old.cores
    → ((next : List (List ℕ)) (after : List ℕ) → HasRoomFor names next → AreClocks after mid.cores
    → GoesBy names course (front_at Running next after) made)
    → GoesBy names course (front_at place known ends) (Ran c s ∷ made)
ran_goes names course rounds old mid c s made place known ends host later at m last open_at room clocks rest =
    let changed = runs m.core m.stint in
    let cores : mid.cores ≡ slice_set old.cores c changed = ap (λ (x : State). x.cores) m.becomes in
    let low = slice_get_within old.cores c m.core m.at in
    let here : core_at mid c ≡ changed =
    ap (λ cs. get_or cs c opening_core) cores ∙ get_or-set_same old.cores c changed opening_core low in
    let same : s ≡ m.stint = last_same last.0 m.core.stints s m.stint
    (sym last.1 ∙ ap (λ (x : CoreState). x.stints) here) in
    let fit : IsFitStint (length names) c s = subst (λ n. IsFitStint n c s) (sym host.many)
    (fit_stint course rounds mid c (length last.0) (core_at mid c) s host.keeps host.few later at
    (ap (λ ss. slice_get ss (length last.0)) last.1 ∙ push_new last.0 s)) in
    let from : s.from ≡ m.core.clock = ap (λ (x : Stint). x.from) same ∙ m.next.from in
    let end : changed.clock ≡ s.end = ap (λ (x : Stint). x.end) (sym same) in
    let was = clocks.each c m.core m.at in
    let after : AreClocks (slice_set ends c s.end) mid.cores =
    subst (AreClocks (slice_set ends c s.end)) (sym cores)
    (new_clock ends old.cores c changed s.end fit.core end clocks) in
    record {
      reaches = stint_goes names course (λ p es. Unit {0}) place known ends c s
          (map (made_told names course) made) open_at room fit (omega arith)
          (λ next more. (rest next (slice_set ends c s.end) more after).reaches);
      good = All-cons IsGood (stint_told names course c s) (map (made_told names course) made)
          (stint_good names course c s host.good fit) (rest known (slice_set ends c s.end) room after).good;
    }

-- a core enters its round, and its clock stays
record EntersAt (c : ℕ) (old mid : State) : Type 0 where
  core : CoreState
  changed : CoreState
  at : slice_get old.cores c ≡ Some core
  same : changed.clock ≡ core.clock
  becomes : mid.cores ≡ slice_set old.cores c changed

enters_at : (rounds c : ℕ) (old mid : State) → Decides rounds c old mid → EntersAt c old mid
enters_at rounds c old mid (inl m) = record {
  core = m.round.core;
  changed = _;
  at = m.round.at;
  same = refl;
  becomes = ap (λ (x : State). x.cores) m.becomes;
}
enters_at rounds c old mid (inr m) = record {
  core = m.round.core;
  changed = _;
  at = m.round.at;
  same = refl;
  becomes = ap (λ (x : State). x.cores) m.becomes;
}

-- all that the steps of a run make leads on
pub trace_goes : (names : List (List ℕ)) (course : CourseView) (rounds : ℕ) (old : State) (taken : List Step)
    (new : State) (made : List Made) (place : Place) (known : List (List ℕ)) (ends : List ℕ)
    → IsRunHost names course rounds → StateInvariant course rounds old
    → IsTrace course rounds old taken new made → IsOpen place → HasRoomFor names known
    → AreClocks ends old.cores
    → GoesBy names course (front_at place known ends) made
trace_goes names course rounds old [] new made place known ends host kept trace at room clocks =
    subst (GoesBy names course (front_at place known ends)) (sym trace.1) (record {
      reaches = stays_there names (λ p es. Unit {0}) place known ends at room tt;
      good = All-nil IsGood;
    })
trace_goes names course rounds old (steps.Post ∷ taken) new made place known ends host kept trace at room
    clocks =
    let later = moves_keep course rounds old steps.Post trace.0 host.keeps trace.3 kept in
    let whole : made ≡ trace.2 = trace.6 ∙ ap (λ first. first ++ trace.2) trace.4 in
    subst (GoesBy names course (front_at place known ends)) (sym whole)
    (trace_goes names course rounds trace.0 taken new trace.2 place known ends host later trace.5 at room
    (subst (AreClocks ends) (sym (ap (λ (x : State). x.cores) trace.3.becomes)) clocks))
trace_goes names course rounds old (steps.See c ∷ taken) new made place known ends host kept trace at room
    clocks =
    let later = moves_keep course rounds old (steps.See c) trace.0 host.keeps trace.3 kept in
    let whole : made ≡ trace.2 = trace.6 ∙ ap (λ first. first ++ trace.2) trace.4 in
    subst (GoesBy names course (front_at place known ends)) (sym whole)
    (trace_goes names course rounds trace.0 taken new trace.2 place known ends host later trace.5 at room
    (subst (AreClocks ends) (sym (ap (λ (x : State). x.cores) trace.3.becomes))
    (same_clock ends old.cores c trace.3.core _ trace.3.at refl clocks)))
trace_goes names course rounds old (steps.Decide c ∷ taken) new made place known ends host kept trace at
    room clocks =
    let later = moves_keep course rounds old (steps.Decide c) trace.0 host.keeps trace.3 kept in
    let whole : made ≡ Entered c trace.4.0 ∷ trace.2 = trace.6 ∙ ap (λ first. first ++ trace.2) trace.4.2 in
    let enters = enters_at rounds c old trace.0 trace.3 in
    subst (GoesBy names course (front_at place known ends)) (sym whole)
    (entered_goes names course rounds trace.0 c trace.4.0 trace.2 place known ends host later
    (core_there course rounds old trace.0 c enters.core kept later enters.at) trace.4.1 at
    (trace_goes names course rounds trace.0 taken new trace.2 Running known ends host later trace.5 tt room
    (subst (AreClocks ends) (sym enters.becomes)
    (same_clock ends old.cores c enters.core enters.changed enters.at enters.same clocks))))
trace_goes names course rounds old (steps.Run c ∷ taken) new made place known ends host kept trace at room
    clocks =
    let later = moves_keep course rounds old (steps.Run c) trace.0 host.keeps trace.3 kept in
    let whole : made ≡ Ran c trace.4.0 ∷ trace.2 = trace.6 ∙ ap (λ first. first ++ trace.2) trace.4.2 in
    subst (GoesBy names course (front_at place known ends)) (sym whole)
    (ran_goes names course rounds old trace.0 c trace.4.0 trace.2 place known ends host later
    (core_there course rounds old trace.0 c trace.3.core kept later trace.3.at) trace.3 trace.4.1 at room
    clocks
    (λ next after more ticks. trace_goes names course rounds trace.0 taken new trace.2 Running next after
    host later
    trace.5 tt more ticks))
