-- The trace of a whole run is read back as the stints of all cores.
use Rattle.std.proofs.Common.{◌≡◌, ℕ, zero, suc, ◌*◌, ◌<◌, ◌≤◌, true, List, [], ◌∷◌, ◌++◌, codes, flat_map, get_or, length, map, slice_get, Some, refl, sym, ap, ◌∙◌, subst, append_assoc, append-nil, arith}
use Rattle.std.proofs.lemmas.Grind.{flat_map-append}
use Rattle.std.proofs.lemmas.List.{length-map, map-append}
use Rattle.std.proofs.lemmas.List.Elements.{All-append, All-cons, All-head, All-nil, All-tail}
use Rattle.std.proofs.lemmas.List.Folds.{list_all-append}
use Rattle.std.proofs.lemmas.Option.{slice_get-get_or}
use Rattle.std.specs.List.{All, list_all}
use Rattle.tab_core.specs.Timelines.{AreContiguous}
use Rattle.tab_core.specs.declared.TheConstants.{MAX_VCPUS, ROUND}
use Rattle.tab_core.specs.declared.host.Host.{Host}
use Rattle.tab_core.specs.declared.stint.Stint.{Stint}
use Rattle.tab_words.specs.Texts.{Line, line_of, text_of, texts_below, worded}
use Rattle.tab_words.specs.declared.command.RunMode.TheVariants.{Trace}
use Rattle.tab_words.proofs.TextLemmas.{is_line, text_read}
use Rattle.table_form.specs.Running.Courses.{CourseView, plan_after}
use Rattle.table_form.specs.Running.State.{CoreState, State, opening_core}
use Rattle.vcpu_names.specs.Names.{names_of}
use Rattle.plan_book.specs.declared.outcome.Outcome.{Outcome}
use Rattle.trace_report.specs.ReportViews.{ReportView}
use Rattle.trace_report.specs.ReportText.{report_text}
use Rattle.trace_report.specs.RunReports.{core_ticks}
use Rattle.trace_report.specs.TraceText.{trace_text}
use Rattle.run_course.specs.RunText.{run_text}
use Rattle.run_course.specs.Runs.{stints_at, stints_of}
use Rattle.view_doc.specs.Grammar.{Front, start}
use Rattle.view_doc.specs.Lines.{IsGood, Told, report, item, done, told_words}
use Rattle.view_doc.specs.Texts.{IsFirstBad, IsText}
use Rattle.view_doc.specs.Views.{IsViewOf, ShowsTold, cores_after, cores_behind, entries_in, is_run, slots_from, stretch_told, tasks_in, told_stints}
use Rattle.view_doc.specs.declared.place.Place.{Place}
use Rattle.view_doc.specs.declared.place.Place.TheVariants.{Closed, Reporting, Running, Start}
use Rattle.view_doc.specs.declared.view.View.{View}
use Rattle.view_doc.proofs.OneText.{no_bad_line, one_text}
use Rattle.view_laws.specs.ShownRuns.{stint_told}
use Rattle.view_laws.specs.ShownTraces.{IsOfReport, IsTraceText, IsWholeRun, ShowsStints, stints_below}
use Rattle.view_laws.proofs.FitStints.{fit_stint, vcpus_of_course}
use Rattle.view_laws.proofs.Leading.{Leads, front_at, goes, goes_on_by, goes_once, none_mapped}
use Rattle.view_laws.proofs.ReportTold.{IsGoodItem, item_lines, items_good, report_written, run_fits, run_words}
use Rattle.view_laws.proofs.RunLed.{IsFitStint}
use Rattle.view_laws.proofs.PlainLines.{plain_lines, stint_written}
use Rattle.view_laws.proofs.TraceLed.{AreWhole, cores_reach, stints_fine, stints_kinds}

-- ---- the report

-- what a report tells
report_told : Line → List Line → List Told
report_told first items = report first ∷ (map item items ++ done ∷ [])

-- its lines
items_words : (items : List Line) → map told_words (map item items) ≡ items
items_words [] = refl
items_words (words ∷ items) = ap (λ ls. words ∷ ls) (items_words items)

report_words : (first : Line) (items : List Line)
    → map told_words (report_told first items) ≡ first ∷ (items ++ (codes "done" ∷ []) ∷ [])
unfolding report_told
report_words first items =
    ap (λ ls. first ∷ ls) (map-append told_words (map item items) (done ∷ [])
    ∙ ap (λ ls. ls ++ (codes "done" ∷ []) ∷ []) (items_words items))

-- are a report's
report_kinds : (first : Line) (items : List Line) → All IsOfReport (report_told first items)
unfolding report_told
report_kinds first items = All-cons IsOfReport (report first) (map item items ++ done ∷ []) tt (of_items items)
  where
    of_items : (all : List Line) → All IsOfReport (map item all ++ done ∷ [])
    of_items [] = All-cons IsOfReport done [] tt (All-nil IsOfReport)
    of_items (words ∷ all) = All-cons IsOfReport (item words) (map item all ++ done ∷ []) tt (of_items all)

-- good where its items are
report_good : (first : Line) (items : List Line) → IsGood (report first) → All IsGoodItem items
    → All IsGood (report_told first items)
unfolding report_told
report_good first items good all =
    All-cons IsGood (report first) (map item items ++ done ∷ []) good (of_items items all)
  where
    of_items : (more : List Line) → All IsGoodItem more → All IsGood (map item more ++ done ∷ [])
    of_items [] fine = All-cons IsGood done [] tt (All-nil IsGood)
    of_items (words ∷ more) fine =
        All-cons IsGood (item words) (map item more ++ done ∷ []) (All-head IsGoodItem words more fine).is
        (of_items more (All-tail IsGoodItem words more fine))

-- can be read
report_lines : (first : Line) (items : List Line) → is_line first ≡ true → All IsGoodItem items
    → list_all is_line (map told_words (report_told first items)) ≡ true
report_lines first items line all =
    subst (λ ls. list_all is_line ls ≡ true) (sym (report_words first items)) (rw line (of_items items all))
  where
    of_items : (more : List Line) → All IsGoodItem more
        → list_all is_line (more ++ (codes "done" ∷ []) ∷ []) ≡ true
    of_items [] fine = refl
    of_items (words ∷ more) fine =
        rw ((All-head IsGoodItem words more fine).line) (of_items more (All-tail IsGoodItem words more fine))

-- the report's lines lead to the end of the text
report_leads : (first : Line) (items : List Line) (known : List (List ℕ)) (ends : List ℕ)
    → Leads (front_at Running known ends) (report_told first items) (front_at Closed known ends) []
unfolding report_told
report_leads first items known ends =
    goes (front_at Running known ends) (report first) (map item items ++ done ∷ []) Reporting known ends
    (front_at Closed known ends) [] refl refl refl (of_items items)
  where
    of_items : (more : List Line)
        → Leads (front_at Reporting known ends) (map item more ++ done ∷ []) (front_at Closed known ends) []
    of_items [] = goes_once (front_at Reporting known ends) done Closed known ends refl refl refl refl
    of_items (words ∷ more) =
        goes (front_at Reporting known ends) (item words) (map item more ++ done ∷ []) Reporting known ends
        (front_at Closed known ends) [] refl refl refl (of_items more)

-- ---- the trace

-- a core's lines
core_written : (names : List (List ℕ)) (course : CourseView) (c : ℕ) (ss : List Stint)
    → trace_text names course c ss ≡ text_of (map told_words (map (stint_told names course c) ss))
core_written names course c [] = refl
core_written names course c (s ∷ ss) =
    ap (λ l. l ++ trace_text names course c ss) (stint_written names course c s)
    ∙ ap (λ l. line_of (told_words (stint_told names course c s)) ++ l) (core_written names course c ss)

-- those of all cores
cores_written : (names : List (List ℕ)) (course : CourseView) (stints : ℕ → List Stint) (n : ℕ)
    → texts_below (λ c. trace_text names course c (stints c)) n
    ≡ text_of (map told_words (stints_below names course stints n))
unfolding texts_below
cores_written names course stints zero = refl
cores_written names course stints (suc n) =
    let before = stints_below names course stints n in
    let own = map (stint_told names course n) (stints n) in
    ap (λ l. l ++ trace_text names course n (stints n)) (cores_written names course stints n)
    ∙ (ap (λ l. text_of (map told_words before) ++ l) (core_written names course n (stints n))
    ∙ (sym (flat_map-append line_of (map told_words before) (map told_words own))
    ∙ ap text_of (sym (map-append told_words before own))))

-- ---- a whole run

-- the stints of a whole run's cores fill the time up to its end
run_whole : (host : Host) (changes : List (ℕ × Outcome)) (course : CourseView) (rounds : ℕ) (state : State)
    (told : ReportView) → IsWholeRun host changes course rounds state told
    → AreWhole (names_of host.vcpus) (rounds * ROUND) (stints_at state) course.cores
run_whole host changes course rounds state told is =
    let own = is.host_course in
    let kept = is.promises.invariant in
    let some = is.some_round in
    let few_cores = own.keeps.form.outline.few_cores in
    let size : length (names_of host.vcpus) ≡ length host.vcpus = length-map host.vcpus (λ v. v.name) in
    let many : length (plan_after course 0).tasks ≡ length (names_of host.vcpus) = vcpus_of_course host course own ∙ sym size in
    record {
      few = few_cores;
      some = omega arith;
      lines = λ c low. subst (λ ss. AreContiguous 0 ss (rounds * ROUND)) (sym (stints_there c low))
          (subst (AreContiguous 0 (core_of c).stints) (is.complete.clocks c (core_of c) (core_there c low))
          (kept.cores c (core_of c) (core_there c low)).timeline.contiguous);
      fit = λ c low. subst (All (IsFitStint (length (names_of host.vcpus)) c)) (sym (stints_there c low))
          (λ k d less. subst (λ n. IsFitStint n c (get_or (core_of c).stints k d)) many
          (fit_stint course rounds state c k (core_of c) (get_or (core_of c).stints k d) own.keeps
          is.few_rounds kept
          (core_there c low) (slice_get-get_or (core_of c).stints k d less)));
    }
  where
    core_of : ℕ → CoreState
    core_of c = get_or state.cores c opening_core

    core_there : (c : ℕ) → c < course.cores
        → slice_get state.cores c ≡ Some (get_or state.cores c opening_core)
    core_there c low =
        let size = is.promises.invariant.size in slice_get-get_or state.cores c opening_core (omega arith)

    stints_there : (c : ℕ) → c < course.cores → stints_at state c ≡ (get_or state.cores c opening_core).stints
    stints_there c low =
        let size = is.promises.invariant.size in
        ap stints_of (slice_get-get_or state.cores c opening_core (omega arith))

-- the text is read, and shows no slot
pub record IsTraceRead (host : Host) (changes : List (ℕ × Outcome)) (course : CourseView) (rounds : ℕ)
    (state : State) (told : ReportView) : Type 0 where
  pub behind : List Told
  pub of_report : All IsOfReport behind
  pub front : Front
  pub text : IsText (run_text Trace host changes course rounds (stints_at state) told)
      (stints_below (names_of host.vcpus) course (stints_at state) course.cores ++ behind) front
  pub run : front.place ≡ Closed
  pub no_slots : slots_from (Some Start)
      (stints_below (names_of host.vcpus) course (stints_at state) course.cores ++ behind) ≡ []

pub trace_read : (host : Host) (changes : List (ℕ × Outcome)) (course : CourseView) (rounds : ℕ)
    (state : State)
    (told : ReportView) → IsWholeRun host changes course rounds state told
    → IsTraceRead host changes course rounds state told
trace_read host changes course rounds state told is =
    let names = names_of host.vcpus in
    let own = is.host_course in
    let stints = stints_at state in
    let tolds = stints_below names course stints course.cores in
    let first = run_words rounds host.cores (length course.ticks) in
    let items = item_lines names (length host.vcpus) host.cores changes told in
    let behind = report_told first items in
    let whole = run_whole host changes course rounds state told is in
    let size : length names ≡ length host.vcpus = length-map host.vcpus (λ v. v.name) in
    let few : length names ≤ MAX_VCPUS = let least = own.few in omega arith in
    let some_core = own.keeps.form.outline.some_core in
    let few_cores = own.keeps.form.outline.few_cores in
    let few_events = own.keeps.form.outline.few_events in
    let few_rounds = is.few_rounds in
    let few_changes = is.few_changes in
    let cores : host.cores ≡ course.cores = sym own.course_is.cores in
    let each_vcpu : length told.vcpus ≡ length host.vcpus =
    let vcpus = is.report.is.each_vcpu in let same = vcpus_of_course host course own in omega arith in
    let each_core : length told.cores ≡ host.cores =
    ap length is.report.is.cores ∙ (length-map is.report.accounts core_ticks
    ∙ (is.report.are.size ∙ (is.promises.invariant.size ∙ sym cores))) in
    let reached = cores_reach names course (rounds * ROUND) stints course.cores course.cores few whole
    (omega arith) in
    let last = front_at Closed reached.known reached.ends in
    let running : reached.place ≡ Running = reached.holds.going (omega arith) in
    let leads : Leads start (tolds ++ behind) last [] =
    goes_on_by start tolds behind (front_at reached.place reached.known reached.ends) last [] [] reached.leads
    (subst (λ (p : Place). Leads (front_at p reached.known reached.ends) behind last []) (sym running)
    (report_leads first items reached.known reached.ends)) in
    let fits = run_fits rounds host.cores (length course.ticks) (omega arith) (omega arith) (omega arith) in
    let good = items_good names (length host.vcpus) host.cores changes told own.names.good size (omega arith)
    (omega arith) is.changes_of is.numbers each_vcpu each_core in
    let fine : All IsGood tolds =
    stints_fine names course (rounds * ROUND) stints course.cores course.cores own.names.good whole
    (omega arith) in
    let lines : list_all is_line (map told_words (tolds ++ behind)) ≡ true =
    subst (λ ls. list_all is_line ls ≡ true) (sym (map-append told_words tolds behind))
    (list_all-append is_line (map told_words tolds) (map told_words behind)
    ∙ rw (
      plain_lines tolds (stints_kinds names course stints course.cores) fine,
      report_lines first items
          fits.1 good,
    ) refl) in
    record {
      behind = behind;
      of_report = report_kinds first items;
      front = last;
      text = record {
        told = record {
          written = ap worded (all_written host changes course rounds state told)
              ∙ text_read (map told_words (tolds ++ behind)) lines;
          good = All-append IsGood tolds behind fine (report_good first items fits.0 good);
        };
        led = leads.led;
        whole = refl;
      };
      run = refl;
      no_slots = leads.shown;
    }
  where
    all_written : (host : Host) (changes : List (ℕ × Outcome)) (course : CourseView) (rounds : ℕ)
        (state : State)
        (told : ReportView) → run_text Trace host changes course rounds (stints_at state) told
        ≡ text_of (map told_words (stints_below (names_of host.vcpus) course (stints_at state) course.cores
        ++ report_told (run_words rounds host.cores (length course.ticks))
        (item_lines (names_of host.vcpus) (length host.vcpus) host.cores changes told)))
    all_written host changes course rounds state told =
        let names = names_of host.vcpus in
        let tolds = stints_below names course (stints_at state) course.cores in
        let first = run_words rounds host.cores (length course.ticks) in
        let items = item_lines names (length host.vcpus) host.cores changes told in
        ap (λ l. l ++ report_text host changes (length course.ticks) rounds told)
        (cores_written names course (stints_at state) course.cores)
        ∙ (ap (λ l. text_of (map told_words tolds) ++ l)
        (report_written host changes (length course.ticks) rounds told
        ∙ ap text_of (sym (report_words first items)))
        ∙ (sym (flat_map-append line_of (map told_words tolds) (map told_words (report_told first items)))
        ∙ ap text_of (sym (map-append told_words tolds (report_told first items)))))

-- the law's first clause: the text tells the stints, and then a report
pub trace_told_by : (host : Host) (changes : List (ℕ × Outcome)) (course : CourseView) (rounds : ℕ)
    (state : State)
    (told : ReportView) → IsWholeRun host changes course rounds state told
    → IsTraceText (run_text Trace host changes course rounds (stints_at state) told)
    (stints_below (names_of host.vcpus) course (stints_at state) course.cores)
trace_told_by host changes course rounds state told is =
    let read = trace_read host changes course rounds state told is in
    record { behind = read.behind; of_report = read.of_report; front = read.front; text = read.text }

-- ---- what is shown

-- what says nothing of a stint says nothing of all of them
nothing_of_stints : {X : Type 0} (f : Told → List X) (names : List (List ℕ)) (course : CourseView)
    (stints : ℕ → List Stint) (n : ℕ) → ((c : ℕ) (s : Stint) → f (stint_told names course c s) ≡ [])
    → flat_map f (stints_below names course stints n) ≡ []
nothing_of_stints f names course stints zero none = refl
nothing_of_stints f names course stints (suc n) none =
    flat_map-append f (stints_below names course stints n) (map (stint_told names course n) (stints n))
    ∙ (ap (λ xs. xs ++ flat_map f (map (stint_told names course n) (stints n)))
    (nothing_of_stints f names course stints n none) ∙ of_core (stints n))
  where
    of_core : (ss : List Stint) → flat_map f (map (stint_told names course n) ss) ≡ []
    of_core [] = refl
    of_core (s ∷ ss) = ap (λ xs. xs ++ flat_map f (map (stint_told names course n) ss)) (none n s) ∙ of_core ss

-- what says nothing of a report's line says nothing of the report
nothing_of_report : {X : Type 0} (f : Told → List X) (tolds : List Told)
    → ((told : Told) → IsOfReport told → f told ≡ [])
    → All IsOfReport tolds → flat_map f tolds ≡ []
nothing_of_report f [] none all = refl
nothing_of_report f (told ∷ tolds) none all =
    ap (λ xs. xs ++ flat_map f tolds) (none told (All-head IsOfReport told tolds all))
    ∙ nothing_of_report f tolds none (All-tail IsOfReport told tolds all)

no_task_in : (told : Told) → IsOfReport told → tasks_in told ≡ []
no_task_in (report words) is = refl
no_task_in (item words) is = refl
no_task_in done is = refl
no_task_in told is = absurd is

no_entry_in : (told : Told) → IsOfReport told → entries_in told ≡ []
no_entry_in (report words) is = refl
no_entry_in (item words) is = refl
no_entry_in done is = refl
no_entry_in told is = absurd is

no_stint_in : (told : Told) → IsOfReport told → told_stints told ≡ []
no_stint_in (report words) is = refl
no_stint_in (item words) is = refl
no_stint_in done is = refl
no_stint_in told is = absurd is

no_core_in : (told : Told) (n : ℕ) → IsOfReport told → cores_behind n told ≡ n
no_core_in (report words) n is = refl
no_core_in (item words) n is = refl
no_core_in done n is = refl
no_core_in told n is = absurd is

-- a report counts no cores
report_counts : (tolds : List Told) (n : ℕ) → All IsOfReport tolds → cores_after n tolds ≡ n
report_counts [] n all = refl
report_counts (told ∷ tolds) n all =
    ap (λ m. cores_after m tolds) (no_core_in told n (All-head IsOfReport told tolds all))
    ∙ report_counts tolds n (All-tail IsOfReport told tolds all)

-- stints count no cores
stints_count : (names : List (List ℕ)) (course : CourseView) (stints : ℕ → List Stint) (n m : ℕ)
    (rest : List Told)
    → cores_after m (stints_below names course stints n ++ rest) ≡ cores_after m rest
stints_count names course stints zero m rest = refl
stints_count names course stints (suc n) m rest =
    let own = map (stint_told names course n) (stints n) in
    ap (cores_after m) (append_assoc (stints_below names course stints n) own rest)
    ∙ (stints_count names course stints n m (own ++ rest) ∙ of_core (stints n))
  where
    of_core : (ss : List Stint) → cores_after m (map (stint_told names course n) ss ++ rest) ≡ cores_after m
        rest
    of_core [] = refl
    of_core (s ∷ ss) = of_core ss

-- the stints are those
stints_are : (names : List (List ℕ)) (course : CourseView) (stints : ℕ → List Stint) (n : ℕ)
    → flat_map told_stints (stints_below names course stints n) ≡ stints_below names course stints n
stints_are names course stints zero = refl
stints_are names course stints (suc n) =
    let own = map (stint_told names course n) (stints n) in
    flat_map-append told_stints (stints_below names course stints n) own
    ∙ (ap (λ ts. ts ++ flat_map told_stints own) (stints_are names course stints n)
    ∙ ap (λ ts. stints_below names course stints n ++ ts) (of_core (stints n)))
  where
    of_core : (ss : List Stint)
        → flat_map told_stints (map (stint_told names course n) ss) ≡ map (stint_told names course n) ss
    of_core [] = refl
    of_core (s ∷ ss) = ap (λ ts. stint_told names course n s ∷ ts) (of_core ss)

-- a view of the text shows the stints
pub trace_shown : (host : Host) (changes : List (ℕ × Outcome)) (course : CourseView) (rounds : ℕ)
    (state : State)
    (told : ReportView) (view : View) → IsWholeRun host changes course rounds state told
    → IsViewOf (run_text Trace host changes course rounds (stints_at state) told) view
    → ShowsStints (names_of host.vcpus) course (stints_at state) view
trace_shown host changes course rounds state told view of is =
    let names = names_of host.vcpus in
    let stints = stints_at state in
    let read = trace_read host changes course rounds state told of in
    let own = stints_below names course stints course.cores in
    let tolds = own ++ read.behind in
    let same = one_text (run_text Trace host changes course rounds stints told) is.tolds tolds is.front
    read.front
    is.text read.text in
    let shows : ShowsTold tolds read.front view =
    subst (λ (f : Front). ShowsTold tolds f view) same.1
    (subst (λ ts. ShowsTold ts is.front view) same.0 is.shows) in
    record {
      no_cores = shows.cores ∙ (stints_count names course stints course.cores 0 read.behind
          ∙ report_counts read.behind 0 read.of_report);
      run = shows.run ∙ ap is_run read.run;
      no_task = shows.tasks ∙ (flat_map-append tasks_in own read.behind
          ∙ (ap (λ ts. ts ++ flat_map tasks_in read.behind)
          (nothing_of_stints tasks_in names course stints course.cores (λ c s. refl))
          ∙ nothing_of_report tasks_in read.behind no_task_in read.of_report));
      no_slot = none_mapped (stretch_told read.front.names) view.slots.items (shows.slots ∙ read.no_slots);
      no_entry = shows.entries ∙ (flat_map-append entries_in own read.behind
          ∙ (ap (λ es. es ++ flat_map entries_in read.behind)
          (nothing_of_stints entries_in names course stints course.cores (λ c s. refl))
          ∙ nothing_of_report entries_in read.behind no_entry_in read.of_report));
      shown = ap (λ ns. map (stretch_told ns) view.stints.items) shows.names
          ∙ (shows.stints ∙ (flat_map-append told_stints own read.behind
          ∙ (ap (λ ts. flat_map told_stints own ++ ts)
          (nothing_of_report told_stints read.behind no_stint_in read.of_report)
          ∙ (append-nil (flat_map told_stints own) ∙ stints_are names course stints course.cores))));
    }

-- the trace's text has no bad line
pub trace_has_no_bad_line : (host : Host) (changes : List (ℕ × Outcome)) (course : CourseView) (rounds : ℕ)
    (state : State) (told : ReportView) (bad : ℕ) → IsWholeRun host changes course rounds state told
    → IsFirstBad (run_text Trace host changes course rounds (stints_at state) told) bad → ⊥
trace_has_no_bad_line host changes course rounds state told bad of is =
    let read = trace_read host changes course rounds state told of in
    no_bad_line (run_text Trace host changes course rounds (stints_at state) told) _ read.front bad
    read.text is
