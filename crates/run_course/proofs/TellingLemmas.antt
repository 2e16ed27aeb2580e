-- What is reported of a run: that it can be, and that it is of the state as which its view reads.
use Rattle.std.proofs.Common.{◌≡◌, ℕ, zero, suc, ◌/◌, ◌<◌, ◌≤◌, All, List, ◌++◌, length, Option, None, Some, refl, sym, ap, subst, ◌∙◌, arith}
use Rattle.std.proofs.lemmas.List.{length-map}
use Rattle.std.proofs.lemmas.Option.{get_or_from_slice_get}
use Rattle.std.specs.Prelude.{slice_get}
use Rattle.tab_core.specs.declared.host.Host.{Host}
use Rattle.tab_core.specs.declared.stint.Stint.{Stint}
use Rattle.tab_core.specs.declared.TheConstants.{ROUND}
use Rattle.tab_core.proofs.Lists.{element_at}
use Rattle.tab_words.proofs.NumberedTextLemmas.{texts_below-suc, texts_below-zero}
use Rattle.tab_words.specs.Texts.{texts_below}
use Rattle.tab_words.specs.declared.command.RunMode.{RunMode}
use Rattle.tab_words.specs.declared.command.RunMode.TheVariants.{Report, Trace, Burst, Live}
use Rattle.vcpu_names.specs.Names.{names_of}
use Rattle.table_form.specs.Running.Courses.{CourseView}
use Rattle.table_form.specs.Running.Invariant.{StateInvariant}
use Rattle.table_form.specs.Running.State.{CoreState, State}
use Rattle.plan_book.specs.declared.outcome.Outcome.{Outcome}
use Rattle.round_words.specs.declared.view.View.{View}
use Rattle.run_state.specs.Readings.{state_of}
use Rattle.trace_report.specs.ReportText.{report_text}
use Rattle.trace_report.specs.RunReports.{core_ticks, vcpu_count}
use Rattle.trace_report.specs.TraceText.{trace_text}
use Rattle.run_course.specs.RunText.{run_text, trace_part}
use Rattle.run_course.specs.Runs.{IsRunOf, IsRunWritable, RanView, kept_stints, stints_at, stints_of}

-- a stint's used count is one of the course's
used_in_course : (course : CourseView) (rounds : ℕ) (s : State) (c k : ℕ) (st : Stint)
    → StateInvariant course rounds s → slice_get (stints_at s c) k ≡ Some st → st.used ≤ length course.ticks
used_in_course course rounds s c k st kept at = of (slice_get s.cores c) refl at where
  of : (o : Option CoreState) → slice_get s.cores c ≡ o → slice_get (stints_of o) k ≡ Some st
      → st.used ≤ length course.ticks
  of None is at = absurd cc
  of (Some core) is at =
      let decided = (kept.table.cores c core is).stints k st at in
      omega (arith, kept.decided_posted (st.from / ROUND) st.used decided, kept.posted_most)

-- the used counts of all stints are the course's
all_in_course : (course : CourseView) (rounds : ℕ) (s : State) (c : ℕ) → StateInvariant course rounds s
    → All (λ (st : Stint). st.used ≤ length course.ticks) (stints_at s c)
all_in_course course rounds s c kept = λ k d lt.
    let at = element_at (stints_at s c) k lt in
    subst (λ (st : Stint). st.used ≤ length course.ticks)
    (sym (get_or_from_slice_get (stints_at s c) k at.0 d at.1))
    (used_in_course course rounds s c k at.0 kept at.1)

-- the run can be reported
pub can_be_told : (course : CourseView) (rounds : ℕ) (mode : RunMode) (view : View) (ran : RanView) (host : Host)
    → IsRunOf course rounds mode view ran → length host.vcpus ≡ vcpu_count course → host.cores ≡ course.cores
    → IsRunWritable mode host ran
can_be_told course rounds mode view ran host is vcpus cores =
    let s = state_of course view in
    record {
      each_vcpu = is.report.is.each_vcpu ∙ sym vcpus;
      each_core = ap length is.report.is.cores ∙ (length-map is.report.accounts core_ticks
          ∙ (is.report.are.size ∙ (is.promises.invariant.size ∙ sym cores)));
      used = λ trace c lt.
          let here : c < course.cores = subst (λ (k : CourseView). c < k.cores) is.course_is lt in
          subst (λ (k : CourseView). All (λ (st : Stint). st.used ≤ length k.ticks) (kept_stints ran c)) (sym is.course_is)
          (subst (All (λ (st : Stint). st.used ≤ length course.ticks)) (sym (is.stints trace c here))
          (all_in_course course rounds s c is.promises.invariant));
    }

-- texts that are the same below a number
same_below : (f g : ℕ → List ℕ) (n : ℕ) → ((k : ℕ) → k < n → f k ≡ g k) → texts_below f n ≡ texts_below g n
same_below f g zero same = texts_below-zero f ∙ sym (texts_below-zero g)
same_below f g (suc n) same =
    texts_below-suc f n
    ∙ (ap (λ front. front ++ f n) (same_below f g n (λ k lt. same k (omega arith)))
    ∙ (ap (λ last. texts_below g n ++ last) (same n (omega arith)) ∙ sym (texts_below-suc g n)))

-- the traces of the kept stints are those of the state's
same_traces : (course : CourseView) (rounds : ℕ) (mode : RunMode) (view : View) (ran : RanView) (names : List (List ℕ))
    → IsRunOf course rounds mode view ran
    → trace_part mode names course (kept_stints ran) ≡ trace_part mode names course (stints_at (state_of course view))
same_traces course rounds Report view ran names is = refl
same_traces course rounds Burst view ran names is = refl
same_traces course rounds Live view ran names is = refl
same_traces course rounds Trace view ran names is =
    same_below (λ c. trace_text names course c (kept_stints ran c))
    (λ c. trace_text names course c (stints_at (state_of course view) c)) course.cores
    (λ c lt. ap (trace_text names course c) (is.stints refl c lt))

-- what is written of the run is the text of the state
pub tells_of_state : (course : CourseView) (rounds : ℕ) (mode : RunMode) (view : View) (ran : RanView) (host : Host)
    (changes : List (ℕ × Outcome)) → IsRunOf course rounds mode view ran
    → run_text mode host changes ran.crew.course rounds (kept_stints ran) ran.report
    ≡ run_text mode host changes course rounds (stints_at (state_of course view)) ran.report
tells_of_state course rounds mode view ran host changes is =
    ap (λ (k : CourseView). run_text mode host changes k rounds (kept_stints ran) ran.report) is.course_is
    ∙ ap (λ front. front ++ report_text host changes (length course.ticks) rounds ran.report)
    (same_traces course rounds mode view ran (names_of host.vcpus) is)
