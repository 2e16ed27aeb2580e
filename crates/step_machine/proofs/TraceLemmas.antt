-- What the steps of a run make: that each step of a core makes something, and that nothing is lost.
use Rattle.std.proofs.Common.{◌≡◌, ◌≢◌, ℕ, zero, suc, ◌<◌, ◌/◌, inl, inr, List, [], ◌∷◌, ◌++◌, length, length-append, append_assoc, append-nil, Some, refl, ap, sym, subst, ◌∙◌, arith}
use Rattle.std.specs.Prelude.{slice_get, slice_set, slice_index_or}
use Rattle.std.proofs.lemmas.List.Elements.{All-append, All-nil}
use Rattle.std.proofs.lemmas.Option.{get_or_from_slice_get}
use Rattle.tab_core.specs.declared.TheConstants.{ROUND}
use Rattle.tab_core.specs.declared.entry.Entry.{Entry}
use Rattle.tab_core.specs.declared.stint.Stint.{Stint}
use Rattle.tab_core.proofs.Lists.{push_new, only_one}
use Rattle.table_form.specs.Running.Courses.{CourseView, IsCourse}
use Rattle.table_form.specs.Running.Invariant.{StateInvariant}
use Rattle.table_form.specs.Running.State.{State, CoreState, opening_core}
use Rattle.script_doc.specs.declared.step.Step.{Step}
use Rattle.script_doc.specs.declared.step.Step.TheVariants as steps
use Rattle.step_machine.specs.declared.trace.Made.{Made}
use Rattle.step_machine.specs.declared.trace.Made.TheVariants.{Entered, Ran}
use Rattle.step_machine.specs.declared.answer.Answer.{Answer}
use Rattle.step_machine.specs.declared.answer.Answer.TheVariants.{Done, Behind, NotNow}
use Rattle.step_machine.specs.Answers.{AnswersStep, Moves}
use Rattle.step_machine.specs.Cores.{core_at}
use Rattle.step_machine.specs.Runs.{Leads}
use Rattle.step_machine.specs.Traces.{AreMadeBy, AreOfCourse, EndsWith, IsOfCourse, IsTrace}
use Rattle.step_machine.proofs.InvariantLemmas.{moves_keep}
use Rattle.step_machine.proofs.Lists.{set_here}

-- the core that a step wrote is the one that a reader of its number finds
core_written : (old new : State) (c : ℕ) (core changed : CoreState) → slice_get old.cores c ≡ Some core
    → new.cores ≡ slice_set old.cores c changed → core_at new c ≡ changed
core_written old new c core changed at is = get_or_from_slice_get new.cores c changed opening_core
    (subst (λ (xs : List CoreState). slice_get xs c ≡ Some changed) (sym is)
    (set_here old.cores c changed core at))

-- a core with one more entry ends with it
entered : (old new : State) (c : ℕ) (core changed : CoreState) (e : Entry) → slice_get old.cores c ≡ Some core
    → new.cores ≡ slice_set old.cores c changed → changed.entries ≡ core.entries ++ e ∷ []
    → EndsWith (core_at new c).entries e
entered old new c core changed e at is more = (
  core.entries,
  ap (λ (x : CoreState). x.entries) (core_written old new c core changed at is) ∙ more,
)

-- a core with one more stint ends with it
ran : (old new : State) (c : ℕ) (core changed : CoreState) (t : Stint) → slice_get old.cores c ≡ Some core
    → new.cores ≡ slice_set old.cores c changed → changed.stints ≡ core.stints ++ t ∷ []
    → EndsWith (core_at new c).stints t
ran old new c core changed t at is more = (
  core.stints,
  ap (λ (x : CoreState). x.stints) (core_written old new c core changed at is) ∙ more,
)

-- an allowed step makes what its kind makes, so that each Decide and each Run has its place in a trace
pub makes : (course : CourseView) (rounds : ℕ) (old : State) (step : Step) (new : State)
    → Moves course rounds old step new → (made : List Made) × AreMadeBy step new made
makes course rounds old steps.Post new m = ([], refl)
makes course rounds old (steps.See c) new m = ([], refl)
makes course rounds old (steps.Decide c) new (inl m) =
    (Entered c _ ∷ [], (_, entered old new c m.round.core _ _ m.round.at (ap (λ (s : State). s.cores) m.becomes) refl, refl))
makes course rounds old (steps.Decide c) new (inr m) =
    (Entered c _ ∷ [], (_, entered old new c m.round.core _ _ m.round.at (ap (λ (s : State). s.cores) m.becomes) refl, refl))
makes course rounds old (steps.Run c) new m =
    (Ran c m.stint ∷ [], (m.stint, ran old new c m.core _ m.stint m.at (ap (λ (s : State). s.cores) m.becomes) refl, refl))

-- a step that the answer says is done has made what its kind makes
pub makes_done : (course : CourseView) (rounds : ℕ) (old : State) (step : Step) (answer : Answer)
    (new : State) → AnswersStep course rounds old step answer new → answer ≡ Done
    → (made : List Made) × AreMadeBy step new made
makes_done course rounds old step Done new m is = makes course rounds old step new m
makes_done course rounds old step (Behind who tick) new m is = absurd cc
makes_done course rounds old step (NotNow found) new m is = absurd cc

-- one step more at the end of a run, as the code takes them
pub trace_more : (course : CourseView) (rounds : ℕ) (old : State) (taken : List Step) (mid : State)
    (made : List Made) (step : Step) (new : State) (more : List Made)
    → IsTrace course rounds old taken mid made → Moves course rounds mid step new → AreMadeBy step new more
    → IsTrace course rounds old (taken ++ step ∷ []) new (made ++ more)
trace_more course rounds old [] mid made step new more trace moves by =
    (new, more, [], rw (trace.0) moves, by, (refl, refl), rw (trace.1) (sym (append-nil more)))
trace_more course rounds old (first ∷ taken) mid made step new more trace moves by = (
  trace.0,
  trace.1,
  trace.2 ++ more,
  trace.3,
  trace.4,
  trace_more course rounds trace.0 taken mid trace.2 step new more trace.5 moves by,
  ap (λ (xs : List Made). xs ++ more) trace.6 ∙ append_assoc trace.1 trace.2 more,
)

-- the run of a trace, where what it made doesn't matter
pub leads_of : (course : CourseView) (rounds : ℕ) (old : State) (taken : List Step) (new : State)
    (made : List Made) → IsTrace course rounds old taken new made → Leads course rounds old taken new
leads_of course rounds old [] new made trace = trace.0
leads_of course rounds old (step ∷ taken) new made trace =
    (trace.0, trace.3, leads_of course rounds trace.0 taken new trace.2 trace.5)

-- a list that ends with something isn't empty
pub ends_some : {X : Type 0} (xs : List X) (x : X) → EndsWith xs x → xs ≢ []
ends_some xs x ends none =
    let n = ap length ends.1 in
    let m = ap length none in
    let k = length-append ends.0 (x ∷ []) in
    omega arith

-- a core of which something is known is there
pub core_there : (cores : List CoreState) (c : ℕ) → (slice_index_or cores c opening_core) ≢ opening_core
    → (slice_get cores c ≡ Some (slice_index_or cores c opening_core)) × (c < length cores)
core_there [] c differs = absurd (differs refl)
core_there (x ∷ xs) zero differs = (refl, omega arith)
core_there (x ∷ xs) (suc c) differs =
    let rest = core_there xs c differs in (rest.0, omega (arith, rest.1))

-- what a step made is of the course, for the writer of a trace
made_of_course : (course : CourseView) (rounds : ℕ) (s : State) (step : Step) (made : List Made)
    → StateInvariant course rounds s → AreMadeBy step s made → AreOfCourse course made
made_of_course course rounds s steps.Post made kept by = rw by (All-nil (IsOfCourse course))
made_of_course course rounds s (steps.See c) made kept by = rw by (All-nil (IsOfCourse course))
made_of_course course rounds s (steps.Decide c) made kept by =
    let there = core_there s.cores c (λ is. ends_some (core_at s c).entries by.0 by.1
    (ap (λ (x : CoreState). x.entries) is)) in
    rw by.2 (only_one (IsOfCourse course) (Entered c by.0) (omega (arith, there.1, kept.size)))
made_of_course course rounds s (steps.Run c) made kept by =
    let there = core_there s.cores c (λ is. ends_some (core_at s c).stints by.0 by.1
    (ap (λ (x : CoreState). x.stints) is)) in
    let front = by.1.0 in
    let last : slice_get (core_at s c).stints (length front) ≡ Some by.0 =
    rw by.1.1 (push_new front by.0) in
    let used = (kept.table.cores c (core_at s c) there.0).stints (length front) by.0 last in
    let posted = kept.decided_posted (by.0.from / ROUND) by.0.used used in
    rw by.2 (only_one (IsOfCourse course) (Ran c by.0)
    (omega (arith, there.1, kept.size), omega (arith, posted, kept.posted_most)))

-- all that a run made is of the course
pub trace_of_course : (course : CourseView) (rounds : ℕ) (old : State) (taken : List Step) (new : State)
    (made : List Made) → IsCourse course → StateInvariant course rounds old
    → IsTrace course rounds old taken new made → AreOfCourse course made
trace_of_course course rounds old [] new made ok kept trace = rw trace.1 (All-nil (IsOfCourse course))
trace_of_course course rounds old (step ∷ taken) new made ok kept trace =
    let later = moves_keep course rounds old step trace.0 ok trace.3 kept in
    rw trace.6 (All-append (IsOfCourse course) trace.1 trace.2
    (made_of_course course rounds trace.0 step trace.1 later trace.4)
    (trace_of_course course rounds trace.0 taken new trace.2 ok later trace.5))
