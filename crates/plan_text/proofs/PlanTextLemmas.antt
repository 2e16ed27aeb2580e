-- The plan text in the parts in which it is written.
use Rattle.std.proofs.Common.{◌≡◌, ℕ, suc, ◌+◌, ◌<◌, ◌≤◌, List, [], ◌∷◌, ◌++◌, length, map, flat_map, drop, drop-cons, get_or, count_by, Option, Result, refl, subst, sym, ap, ◌∙◌, append-nil, add-one, arith}
use Rattle.std.proofs.lemmas.Grind.{flat_map-append}
use Rattle.std.proofs.lemmas.List.{drop_all, length-map}
use Rattle.tab_core.specs.declared.periodic.Periodic.{Periodic}
use Rattle.tab_core.specs.declared.vcpu.Vcpu.{Vcpu}
use Rattle.tab_io.specs.Sinks.{Writes}
use Rattle.tab_io.specs.Views.{SinkView}
use Rattle.tab_io.specs.declared.sink.WriteFault.{WriteFault}
use Rattle.tab_words.specs.Texts.{Line, line_of, text_of}
use Rattle.table_form.specs.Tables.Segments.{SegmentView, segments_from}
use Rattle.table_form.specs.Tables.Plans.{PlanView}
use Rattle.table_form.specs.Tables.Rows.{Row}
use Rattle.vcpu_names.specs.Names.{names_of}
use Rattle.vcpu_names.proofs.NamesLemmas.{name_here}
use Rattle.plan_text.specs.PlanLines.{core_lines, core_words, end_words, head_words, is_admitted, vcpu_lines, vcpu_part}
use Rattle.plan_text.specs.PlanText.{plan_text, segment_line, view_words}
use Rattle.plan_text.proofs.ReadingVcpuLemmas.{first_is}

-- the whole is written in four parts
pub plan_parts : (names : List (List ℕ)) (plan : PlanView)
    → plan_text names plan
    ≡ line_of (head_words (length plan.rows) (count_by is_admitted plan.tasks))
    ++ (text_of (vcpu_lines names plan.tasks plan.homes)
    ++ (text_of (core_lines (view_words names) 0 (map (segments_from 0) plan.rows)) ++ line_of end_words))
unfolding plan_text
plan_parts names plan =
    let rows = map (segments_from 0) plan.rows in
    let cores = core_lines (view_words names) 0 rows in
    let vcpus = vcpu_lines names plan.tasks plan.homes in
    let admitted = count_by is_admitted plan.tasks in
    ap (λ n. line_of (head_words n admitted) ++ text_of (vcpus ++ (cores ++ end_words ∷ [])))
    (length-map plan.rows (segments_from 0))
    ∙ ap (λ rest. line_of (head_words (length plan.rows) admitted) ++ rest)
    (flat_map-append line_of vcpus (cores ++ end_words ∷ [])
    ∙ ap (λ rest. text_of vcpus ++ rest)
    (flat_map-append line_of cores (end_words ∷ [])
    ∙ ap (λ rest. text_of cores ++ rest) (append-nil (line_of end_words))))

-- of the lines of the vCPUs from v on, the first one's come first
pub vcpus_left : (vcpus : List Vcpu) (tasks : List (Option Periodic)) (homes : List (Option ℕ))
    (v : ℕ) (vcpu : Vcpu) (task : Option Periodic) (home : Option ℕ)
    → v < length vcpus → v < length tasks → v < length homes
    → vcpu ≡ get_or vcpus v vcpu → task ≡ get_or tasks v task → home ≡ get_or homes v home
    → text_of (vcpu_lines (drop v (names_of vcpus)) (drop v tasks) (drop v homes))
    ≡ text_of (vcpu_part vcpu.name task home)
    ++ text_of (vcpu_lines (drop (v + 1) (names_of vcpus)) (drop (v + 1) tasks) (drop (v + 1) homes))
vcpus_left vcpus tasks homes v vcpu task home named tasked housed vcpu_is task_is home_is =
    let size = length-map vcpus (λ (x : Vcpu). x.name) in
    let names = names_of vcpus in
    let first = first_is names tasks v vcpu.name task (omega arith) tasked
    (name_here vcpus v vcpu named vcpu_is) (sym task_is) in
    let home_first : drop v homes ≡ home ∷ drop (v + 1) homes =
    drop-cons homes v home housed ∙ (ap (λ h. h ∷ drop (suc v) homes) (sym home_is)
    ∙ ap (λ k. home ∷ drop k homes) (sym (add-one v))) in
    rw (first.0, first.1, home_first)
    (flat_map-append line_of (vcpu_part vcpu.name task home)
    (vcpu_lines (drop (v + 1) names) (drop (v + 1) tasks) (drop (v + 1) homes)))

-- after the last task there is no line
pub no_vcpus_left : (names : List (List ℕ)) (tasks : List (Option Periodic)) (homes : List (Option ℕ)) (v : ℕ)
    → length tasks ≤ v → text_of (vcpu_lines (drop v names) (drop v tasks) (drop v homes)) ≡ []
no_vcpus_left names tasks homes v past =
    rw (drop_all v tasks past) (none (drop v names))
  where
    none : (ns : List (List ℕ)) → text_of (vcpu_lines ns [] (drop v homes)) ≡ []
    none [] = refl
    none (name ∷ ns) = refl

-- of the lines of the cores from one on, the first one's come first
pub cores_left : (names : List (List ℕ)) (rows : List Row) (core : ℕ) (row : Row)
    → core < length rows → row ≡ get_or rows core row
    → text_of (core_lines (view_words names) core (map (segments_from 0) (drop core rows)))
    ≡ text_of (core_words core ∷ map (view_words names) (segments_from 0 row))
    ++ text_of (core_lines (view_words names) (core + 1) (map (segments_from 0) (drop (core + 1) rows)))
cores_left names rows core row low is =
    let first : drop core rows ≡ row ∷ drop (core + 1) rows =
    drop-cons rows core row low ∙ (ap (λ r. r ∷ drop (suc core) rows) (sym is)
    ∙ ap (λ k. row ∷ drop k rows) (sym (add-one core))) in
    rw first
    (flat_map-append line_of (core_words core ∷ map (view_words names) (segments_from 0 row))
    (core_lines (view_words names) (core + 1) (map (segments_from 0) (drop (core + 1) rows))))

-- after the last row there is no line
pub no_cores_left : (names : List (List ℕ)) (rows : List Row) (core : ℕ) → length rows ≤ core
    → text_of (core_lines (view_words names) core (map (segments_from 0) (drop core rows))) ≡ []
no_cores_left names rows core past = rw (drop_all core rows past) refl

-- the lines of segments are their written lines
written_lines : (names : List (List ℕ)) (ss : List SegmentView)
    → text_of (map (view_words names) ss) ≡ flat_map (segment_line names) ss
unfolding segment_line
written_lines names [] = refl
written_lines names (s ∷ ss) = ap (λ rest. segment_line names s ++ rest) (written_lines names ss)

-- a core's text is its first line and its row's
pub core_parts : (names : List (List ℕ)) (core : ℕ) (row : Row)
    → text_of (core_words core ∷ map (view_words names) (segments_from 0 row))
    ≡ line_of (core_words core) ++ flat_map (segment_line names) (segments_from 0 row)
core_parts names core row =
    ap (λ rest. line_of (core_words core) ++ rest) (written_lines names (segments_from 0 row))

-- a call that wrote one line wrote the text of that line
pub line_written : (s t : SinkView) (words : Line) (r : Result (Unit {0}) WriteFault)
    → Writes s t (line_of words) r → Writes s t (text_of (words ∷ [])) r
line_written s t words r wrote =
    subst (λ (x : List ℕ). Writes s t x r) (sym (append-nil (line_of words))) wrote
