-- The text of a plan is read back as the plan.
use Rattle.std.proofs.Common.{◌≡◌, ℕ, ◌+◌, ◌*◌, ◌^◌, eqb, if◌then◌else◌, length-append, ◌<◌, ◌≤◌, Bool, true, false, List, [], ◌∷◌, ◌++◌, count_by, flat_map, length, map, replicate, zero, suc, Option, Some, None, refl, sym, ap, ◌∙◌, subst, append-nil, append_assoc, arith}
use Rattle.std.proofs.lemmas.Grind.{flat_map-append}
use Rattle.std.proofs.lemmas.List.{length-map, map-append}
use Rattle.std.proofs.lemmas.List.Elements.{All-append, All-cons, All-head, All-map, All-nil, All-tail}
use Rattle.std.proofs.lemmas.List.Sums.{count_by-le-length}
use Rattle.std.proofs.lemmas.Slice.Eq.{bytes_eq-Decides}
use Rattle.std.specs.List.{All}
use Rattle.std.specs.Option.{ForSome, option_eq}
use Rattle.std.specs.Str.{bytes_eq}
use Rattle.tab_words.specs.Texts.{text_of, worded}
use Rattle.tab_words.proofs.TextLemmas.{text_read}
use Rattle.tab_core.specs.declared.TheConstants.{MAX_CORES, MAX_VCPUS, ROUND}
use Rattle.tab_core.specs.declared.host.Host.{Host}
use Rattle.tab_core.specs.declared.periodic.Periodic.{Periodic}
use Rattle.table_form.specs.Tables.Homes.{are_housed}
use Rattle.table_form.specs.Tables.Plans.{PlanView}
use Rattle.table_form.specs.Tables.Rows.{Row}
use Rattle.table_form.specs.Tables.Segments.{SegmentView, put_front, segment_view, segments_from}
use Rattle.table_form.specs.Tables.Serves.{has_task, owner_at}
use Rattle.table_form.specs.declared.segment.Segment.{Segment}
use Rattle.table_form.proofs.SegmentLemmas.{maximal_of_row, segments_from-cons, segments_from-nil}
use Rattle.table_form.proofs.TaskLemmas.{task_within}
use Rattle.vcpu_names.specs.Names.{name_at, names_of}
use Rattle.plan_text.specs.Meaning.{AreFineRows, IsFineSegment}
use Rattle.plan_text.specs.Names.{AreHostNames}
use Rattle.plan_text.specs.PlanLines.{core_lines, end_words, head_words, is_admitted, vcpu_lines}
use Rattle.plan_text.specs.PlanText.{plan_text, view_words}
use Rattle.plan_text.specs.Written.{IsHostWithPlan}
use Rattle.plan_text.proofs.ReadBack.{read_back}
use Rattle.view_doc.specs.Grammar.{Front, is_known, start}
use Rattle.view_doc.specs.Lines.{IsGood, IsGoodOwner, IsPlain, Told, core, end, head, told_words}
use Rattle.view_doc.specs.Texts.{IsFirstBad, IsText}
use Rattle.view_doc.specs.Views.{IsViewOf, ShowsTold, cores_after, entries_in, stretch_told, tasks_in, told_stints}
use Rattle.view_doc.specs.declared.place.Place.TheVariants.{Row as InRow, Tasks}
use Rattle.view_doc.specs.declared.view.View.{View}
use Rattle.view_doc.proofs.OneText.{no_bad_line, one_text}
use Rattle.view_doc.proofs.NameLemmas.{known_behind}
use Rattle.view_laws.specs.ShownPlans.{IsShownAs, ShowsPlan, admitted_names, admitted_tasks, cores_told, owner_holder, plan_front, plan_told, segment_rows, segment_told, slots_of, tasks_told}
use Rattle.view_laws.proofs.Leading.{Leads, front_at, goes, goes_on_by, none_mapped}
use Rattle.view_laws.proofs.PlanLed.{HasKnownOwner, IsGoodRow, rows_led, tasks_led}
use Rattle.view_laws.proofs.PlanTicks.{tick_each, tick_some}
use Rattle.view_laws.proofs.PlainLines.{plain_lines}
use Rattle.view_laws.proofs.SizeLemmas.{text_size}
use Rattle.view_laws.proofs.PlanTold.{cores_plain, cores_fine, cores_past_rows, cores_past_tasks, cores_written, nothing_of_cores, nothing_of_tasks, tasks_are, tasks_fine, tasks_plain, tasks_written}

-- ---- owners

-- the name of a vCPU that has a task is among those that are said
admitted_known : (names : List (List ℕ)) (tasks : List (Option Periodic)) (v : ℕ)
    → length names ≡ length tasks → has_task tasks v ≡ true
    → is_known (admitted_names names tasks) (name_at names v) ≡ true
admitted_known [] [] v many has = absurd (cc)
admitted_known [] (t ∷ tasks) v many has = absurd (omega arith)
admitted_known (name ∷ names) [] v many has = absurd (omega arith)
admitted_known (name ∷ names) (None ∷ tasks) zero many has = absurd (cc)
admitted_known (name ∷ names) (None ∷ tasks) (suc v) many has = admitted_known names tasks v (omega arith) has
admitted_known (name ∷ names) (Some t ∷ tasks) zero many has = rw ((bytes_eq-Decides name name).1 refl) refl
admitted_known (name ∷ names) (Some t ∷ tasks) (suc v) many has =
    known_behind name (name_at names v) (admitted_names names tasks) (bytes_eq name (name_at names v)) refl
    (admitted_known names tasks v (omega arith) has)

-- what a reader of the plan's text finds: owners that are names, and that are known
record IsGoodSegment (known names : List (List ℕ)) (s : SegmentView) : Type 0 where
  good : IsGood (segment_told names s)
  owned : HasKnownOwner known names s

-- a segment of the text is such a one
good_segment : (names : List (List ℕ)) (tasks : List (Option Periodic)) (s : Segment) → AreHostNames names
    → length names ≡ length tasks → IsFineSegment tasks s
    → IsGoodSegment (admitted_names names tasks) names (segment_view s)
good_segment names tasks s good many fine = record {
  good = (fine.small, by_owner s.owner fine.owned);
  owned = λ v is. admitted_known names tasks v many (fine.owned v is);
}
  where
    by_owner : (owner : Option ℕ) → ForSome owner (λ v. has_task tasks v ≡ true)
        → IsGoodOwner (owner_holder names owner)
    by_owner None has = tt
    by_owner (Some v) has =
        good.good v (let below = task_within tasks v (has v refl) in omega arith)

-- the segments of all rows are good
good_rows : (names : List (List ℕ)) (tasks : List (Option Periodic)) (raw : List (List Segment))
    → AreHostNames names → length names ≡ length tasks → AreFineRows tasks raw
    → All (λ row. All (IsGoodSegment (admitted_names names tasks) names) row)
    (map (λ row. map segment_view row) raw)
good_rows names tasks raw good many fine =
    All-map (λ row. All (IsGoodSegment (admitted_names names tasks) names) row)
    (λ row. map segment_view row) raw
    (λ k d low. All-map (IsGoodSegment (admitted_names names tasks) names) segment_view _
    (λ j e less. good_segment names tasks _ good many (fine k d low j e less)))

-- ---- the text

-- the maximal segments of rows that fill the round
filled : (known names : List (List ℕ)) (rows : List Row) → All (λ (row : Row). length row ≡ ROUND) rows
    → All (λ row. All (IsGoodSegment known names) row) (map (λ row. segments_from 0 row) rows)
    → All (IsGoodRow known names) (map (λ row. segments_from 0 row) rows)
filled known names [] rounds good = All-nil (IsGoodRow known names)
filled known names (row ∷ rows) rounds good =
    let size : length row ≡ ROUND = All-head (λ (r : Row). length r ≡ ROUND) row rows rounds in
    let first = All-head (λ r. All (IsGoodSegment known names) r) (segments_from 0 row)
    (map (λ r. segments_from 0 r) rows) good in
    All-cons (IsGoodRow known names) (segments_from 0 row) (map (λ r. segments_from 0 r) rows)
    (record {
      maximal = maximal_of_row 0 row ROUND (omega arith);
      owned = λ k d low. (first k d low).owned;
    })
    (filled known names rows (All-tail (λ (r : Row). length r ≡ ROUND) row rows rounds)
    (All-tail (λ r. All (IsGoodSegment known names) r) (segments_from 0 row)
    (map (λ r. segments_from 0 r) rows) good))

-- the lines lead to the end of the plan
plan_led : (names : List (List ℕ)) (plan : PlanView) → length names ≡ length plan.tasks
    → length names ≤ MAX_VCPUS → AreHostNames names → 1 ≤ length plan.rows
    → are_housed (length plan.rows) plan.tasks plan.homes ≡ true
    → All (IsGoodRow (admitted_names names plan.tasks) names) (segment_rows plan)
    → Leads start (plan_told names plan) (plan_front names plan) (slots_of names 0 (segment_rows plan))
plan_led names plan many few good some housed rows = by_rows (segment_rows plan)
    (length-map plan.rows (λ row. segments_from 0 row)) rows
  where
    known : List (List ℕ)
    known = admitted_names names plan.tasks

    by_rows : (rows : List (List SegmentView)) → length rows ≡ length plan.rows
        → All (IsGoodRow (admitted_names names plan.tasks) names) rows
        → Leads start (head (length plan.rows) (count_by is_admitted plan.tasks)
        ∷ (tasks_told names plan.tasks plan.homes ++ (cores_told names 0 rows ++ end ∷ [])))
        (plan_front names plan) (slots_of names 0 rows)
    by_rows [] size all = absurd (omega arith)
    by_rows (row ∷ rows) size all =
        let m = length plan.rows in
        let ends : List ℕ = replicate MAX_CORES 0 in
        let last = plan_front names plan in
        let slots = slots_of names 0 (row ∷ rows) in
        let behind = rows_led m 0 known names ends row rows (omega arith)
        (All-head (IsGoodRow known names) row rows all)
        (All-tail (IsGoodRow known names) row rows all) in
        let from_core : Leads (front_at (Tasks m 0) known ends)
        (cores_told names 0 (row ∷ rows) ++ end ∷ []) last slots =
        subst (λ ts. Leads (front_at (Tasks m 0) known ends) (core 0 ∷ ts) last slots)
        (sym (append_assoc (map (segment_told names) row) (cores_told names 1 rows) (end ∷ [])))
        (goes (front_at (Tasks m 0) known ends) (core 0) _ (InRow m 0 0) known ends last slots refl refl
        refl behind) in
        let count = count_by is_admitted plan.tasks in
        let from_tasks : Leads (front_at (Tasks m count) [] ends)
        (tasks_told names plan.tasks plan.homes ++ (cores_told names 0 (row ∷ rows) ++ end ∷ [])) last slots =
        goes_on_by (front_at (Tasks m count) [] ends) (tasks_told names plan.tasks plan.homes)
        (cores_told names 0 (row ∷ rows) ++ end ∷ []) (front_at (Tasks m 0) known ends) last [] slots
        (tasks_led m [] names plan.tasks plan.homes ends many housed (λ v low. refl) good.distinct
        (omega arith))
        from_core in
        goes start (head m count) _ (Tasks m count) [] ends last slots refl refl refl from_tasks

-- what the lines of the text need: rows whose segments are good, and as many names as tasks
record AreGood (host : Host) (plan : PlanView) : Type 0 where
  many : length (names_of host.vcpus) ≡ length plan.tasks
  rows : All (λ row. All (IsGoodSegment (admitted_names (names_of host.vcpus) plan.tasks)
      (names_of host.vcpus)) row)
      (segment_rows plan)

all_good : (host : Host) (plan : PlanView) → IsHostWithPlan host plan → AreGood host plan
all_good host plan all =
    let names = names_of host.vcpus in
    let back = read_back host plan all in
    let size : length names ≡ length host.vcpus = length-map host.vcpus (λ v. v.name) in
    let same : length names ≡ length plan.tasks = let vcpus = all.is_for.vcpus in omega arith in
    record {
      many = same;
      rows = subst (All (λ row. All (IsGoodSegment (admitted_names names plan.tasks) names) row)) back.own.rows
          (good_rows names plan.tasks back.raw.rows all.names same back.text.fine.segments);
    }

-- the lines lead to the end of the plan, and show its rows
plan_leads : (host : Host) (plan : PlanView) → IsHostWithPlan host plan
    → Leads start (plan_told (names_of host.vcpus) plan) (plan_front (names_of host.vcpus) plan)
    (slots_of (names_of host.vcpus) 0 (segment_rows plan))
plan_leads host plan all =
    let names = names_of host.vcpus in
    let good = all_good host plan all in
    let some = host.some_core in
    let cores = all.is_for.rows in
    let size : length names ≡ length host.vcpus = length-map host.vcpus (λ v. v.name) in
    let few : length names ≤ MAX_VCPUS = let least = all.few in omega arith in
    plan_led names plan good.many few all.names (omega arith) all.keeps.housed
    (filled (admitted_names names plan.tasks) names plan.rows all.rounds good.rows)

-- they are the lines of the text
plan_written : (names : List (List ℕ)) (plan : PlanView)
    → plan_text names plan ≡ text_of (map told_words (plan_told names plan))
unfolding plan_text
plan_written names plan =
    let count = count_by is_admitted plan.tasks in
    let tasks = vcpu_lines names plan.tasks plan.homes in
    let cores = core_lines (view_words names) 0 (segment_rows plan) in
    let told = tasks_told names plan.tasks plan.homes in
    let of_cores = cores_told names 0 (segment_rows plan) in
    let many = length-map plan.rows (λ row. segments_from 0 row) in
    ap text_of (ap (λ n. head_words n count ∷ (tasks ++ (cores ++ end_words ∷ []))) many
    ∙ (ap (λ ls. head_words (length plan.rows) count ∷ (ls ++ (cores ++ end_words ∷ [])))
    (tasks_written names plan.tasks plan.homes)
    ∙ (ap (λ ls. head_words (length plan.rows) count ∷ (map told_words told ++ (ls ++ end_words ∷ [])))
    (cores_written names 0 (segment_rows plan))
    ∙ ap (λ ls. head_words (length plan.rows) count ∷ ls)
    (ap (λ ls. map told_words told ++ ls) (sym (map-append told_words of_cores (end ∷ [])))
    ∙ sym (map-append told_words told (of_cores ++ end ∷ []))))))

-- none of them is of a report
plan_plain : (names : List (List ℕ)) (plan : PlanView) → All IsPlain (plan_told names plan)
plan_plain names plan =
    All-cons IsPlain (head (length plan.rows) (count_by is_admitted plan.tasks)) _ tt
    (All-append IsPlain (tasks_told names plan.tasks plan.homes)
    (cores_told names 0 (segment_rows plan) ++ end ∷ [])
    (tasks_plain names plan.tasks plan.homes)
    (All-append IsPlain (cores_told names 0 (segment_rows plan)) (end ∷ []) (cores_plain names 0 (segment_rows plan))
    (All-cons IsPlain end [] tt (All-nil IsPlain))))

-- the plan's lines are good
plan_fine : (host : Host) (plan : PlanView) → IsHostWithPlan host plan
    → All IsGood (plan_told (names_of host.vcpus) plan)
plan_fine host plan all =
    let names = names_of host.vcpus in
    let good = all_good host plan all in
    let some = host.some_core in
    let few = host.few_cores in
    let cores : length plan.rows ≡ host.cores = all.is_for.rows in
    let few_tasks : length plan.tasks ≤ MAX_VCPUS = let least = all.few in let vcpus = all.is_for.vcpus in omega arith in
    let same : length (segment_rows plan) ≡ length plan.rows = length-map plan.rows (λ row. segments_from 0 row) in
    let admitted = count_by-le-length is_admitted plan.tasks in
    let of_rows : All IsGood (cores_told names 0 (segment_rows plan)) =
    cores_fine names 0 (segment_rows plan) (omega arith) (λ k d low j e less. (good.rows k d low j e less).good) in
    let of_tasks : All IsGood (tasks_told names plan.tasks plan.homes) =
    tasks_fine host.cores names plan.tasks plan.homes few all.names.good
    (subst (λ n. are_housed n plan.tasks plan.homes ≡ true) cores all.keeps.housed) in
    All-cons IsGood (head (length plan.rows) (count_by is_admitted plan.tasks)) _
    (omega arith, omega arith, omega arith)
    (All-append IsGood (tasks_told names plan.tasks plan.homes) (cores_told names 0 (segment_rows plan) ++ end ∷ [])
    of_tasks (All-append IsGood (cores_told names 0 (segment_rows plan)) (end ∷ []) of_rows
    (All-cons IsGood end [] tt (All-nil IsGood))))

-- the law's first clause: the text tells the plan
pub plan_told_by : (host : Host) (plan : PlanView) → IsHostWithPlan host plan
    → IsText (plan_text (names_of host.vcpus) plan) (plan_told (names_of host.vcpus) plan)
    (plan_front (names_of host.vcpus) plan)
plan_told_by host plan all =
    let names = names_of host.vcpus in
    let fine = plan_fine host plan all in
    record {
      told = record {
        written = ap worded (plan_written names plan)
            ∙ text_read (map told_words (plan_told names plan))
            (plain_lines (plan_told names plan) (plan_plain names plan) fine);
        good = fine;
      };
      led = (plan_leads host plan all).led;
      whole = refl;
    }

-- ---- what is shown

-- what says nothing of cores and ends says nothing after the lines of vCPUs
tasks_alone : {X : Type 0} (f : Told → List X) (names : List (List ℕ)) (plan : PlanView) (xs : List X)
    → ((m k : ℕ) → f (head m k) ≡ []) → ((c : ℕ) → f (core c) ≡ [])
    → ((s : SegmentView) → f (segment_told names s) ≡ []) → f end ≡ []
    → flat_map f (tasks_told names plan.tasks plan.homes) ≡ xs
    → flat_map f (plan_told names plan) ≡ xs
tasks_alone f names plan xs no_head no_core no_segment no_end are =
    let told = tasks_told names plan.tasks plan.homes in
    let cores = cores_told names 0 (segment_rows plan) in
    ap (λ ys. ys ++ flat_map f (told ++ (cores ++ end ∷ [])))
    (no_head (length plan.rows) (count_by is_admitted plan.tasks))
    ∙ (flat_map-append f told (cores ++ end ∷ [])
    ∙ (ap (λ ys. flat_map f told ++ ys) (flat_map-append f cores (end ∷ []))
    ∙ (ap (λ ys. flat_map f told ++ (ys ++ flat_map f (end ∷ [])))
    (nothing_of_cores f names 0 (segment_rows plan) no_core no_segment)
    ∙ (ap (λ ys. flat_map f told ++ (ys ++ [])) no_end
    ∙ (append-nil (flat_map f told) ∙ are)))))

-- the count of cores is the plan's
cores_shown : (names : List (List ℕ)) (plan : PlanView)
    → cores_after 0 (plan_told names plan) ≡ length plan.rows
cores_shown names plan =
    cores_past_tasks (length plan.rows) names plan.tasks plan.homes
    (cores_told names 0 (segment_rows plan) ++ end ∷ [])
    ∙ cores_past_rows (length plan.rows) names 0 (segment_rows plan) (end ∷ [])

-- the second: a view of the text shows the plan
pub plan_shown : (host : Host) (plan : PlanView) (view : View) → IsHostWithPlan host plan
    → IsViewOf (plan_text (names_of host.vcpus) plan) view → ShowsPlan host plan view
plan_shown host plan view all is =
    let names = names_of host.vcpus in
    let text = plan_told_by host plan all in
    let same = one_text (plan_text names plan) is.tolds (plan_told names plan) is.front (plan_front names plan)
    is.text text in
    let shows : ShowsTold (plan_told names plan) (plan_front names plan) view =
    subst (λ (f : Front). ShowsTold (plan_told names plan) f view) same.1
    (subst (λ ts. ShowsTold ts is.front view) same.0 is.shows) in
    let size : length names ≡ length host.vcpus = length-map host.vcpus (λ v. v.name) in
    let many : length names ≡ length plan.tasks = let vcpus = all.is_for.vcpus in omega arith in
    record {
      cores = shows.cores ∙ (cores_shown names plan ∙ all.is_for.rows);
      no_run = shows.run;
      names = shows.names;
      tasks = shows.tasks ∙ tasks_alone tasks_in names plan (admitted_tasks plan.tasks plan.homes)
          (λ m k. refl)
          (λ c. refl) (λ s. refl) refl (tasks_are names plan.tasks plan.homes many);
      slots = ap (λ ns. map (stretch_told ns) view.slots.items) shows.names
          ∙ (shows.slots ∙ (plan_leads host plan all).shown);
      no_entry = shows.entries ∙ tasks_alone entries_in names plan [] (λ m k. refl) (λ c. refl) (λ s. refl)
          refl
          (nothing_of_tasks entries_in names plan.tasks plan.homes (λ name t n h. refl));
      no_stint = none_mapped (stretch_told (admitted_names names plan.tasks)) view.stints.items
          (shows.stints ∙ tasks_alone told_stints names plan [] (λ m k. refl) (λ c. refl) (λ s. refl) refl
          (nothing_of_tasks told_stints names plan.tasks plan.homes (λ name t n h. refl)));
    }

-- the third: each tick of a core is shown as the owner's
pub plan_ticks_shown : (host : Host) (plan : PlanView) (view : View) (c tick : ℕ) → IsHostWithPlan host plan
    → IsViewOf (plan_text (names_of host.vcpus) plan) view → c < host.cores → tick < ROUND
    → IsShownAs view c tick (owner_holder (names_of host.vcpus) (owner_at plan.rows c tick))
plan_ticks_shown host plan view c tick all is low within =
    let names = names_of host.vcpus in
    let shows = plan_shown host plan view all is in
    let cores = all.is_for.rows in
    let found = tick_some names view.names.items plan.rows view.slots.items c tick all.rounds shows.slots
    (omega arith)
    within in
    record {
      some = found;
      each = λ place slot at has.
          tick_each names view.names.items plan.rows view.slots.items c tick place slot all.rounds
          shows.slots at has;
    }

-- the fourth: the text has no bad line
pub plan_has_no_bad_line : (host : Host) (plan : PlanView) (bad : ℕ) → IsHostWithPlan host plan
    → IsFirstBad (plan_text (names_of host.vcpus) plan) bad → ⊥
plan_has_no_bad_line host plan bad all is =
    no_bad_line (plan_text (names_of host.vcpus) plan) (plan_told (names_of host.vcpus) plan)
    (plan_front (names_of host.vcpus) plan) bad (plan_told_by host plan all) is

-- ---- its length

-- a row has no more segments than cells
few_segments : (at : ℕ) (row : Row) → length (segments_from at row) ≤ length row
few_segments at [] = rw (segments_from-nil at) (omega arith)
few_segments at (cell ∷ cells) =
    rw (segments_from-cons at cell cells)
    (let rest = few_segments (at + 1) cells in
    let one = front_size (record { owner = cell; end = at + 1 }) (segments_from (at + 1) cells) in omega arith)
  where
    front_size : (s : SegmentView) (ss : List SegmentView) → length (put_front s ss) ≤ length ss + 1
    front_size s [] = omega arith
    front_size s (t ∷ ts) = by_test (option_eq eqb s.owner t.owner)
      where
        by_test : (same : Bool) → length (if same then t ∷ ts else s ∷ t ∷ ts) ≤ length (t ∷ ts) + 1
        by_test true = omega arith
        by_test false = omega arith

-- the rows have few lines
few_lines : (names : List (List ℕ)) (c : ℕ) (rows : List Row) → All (λ (row : Row). length row ≡ ROUND) rows
    → length (cores_told names c (map (λ row. segments_from 0 row) rows)) ≤ length rows * (ROUND + 1)
few_lines names c [] rounds = omega arith
few_lines names c (row ∷ rows) rounds =
    let size : length row ≡ ROUND = All-head (λ (r : Row). length r ≡ ROUND) row rows rounds in
    let own = few_segments 0 row in
    let many = length-map (segments_from 0 row) (segment_told names) in
    let sum = length-append (map (segment_told names) (segments_from 0 row))
    (cores_told names (c + 1) (map (λ r. segments_from 0 r) rows)) in
    let rest = few_lines names (c + 1) rows (All-tail (λ (r : Row). length r ≡ ROUND) row rows rounds) in
    omega arith

-- there is a line for each task at most
few_tasks : (names : List (List ℕ)) (tasks : List (Option Periodic)) (homes : List (Option ℕ))
    → length (tasks_told names tasks homes) ≤ length tasks
few_tasks [] tasks homes = omega arith
few_tasks (name ∷ names) [] homes = omega arith
few_tasks (name ∷ names) (t ∷ tasks) [] = omega arith
few_tasks (name ∷ names) (None ∷ tasks) (home ∷ homes) = let rest = few_tasks names tasks homes in omega arith
few_tasks (name ∷ names) (Some t ∷ tasks) (None ∷ homes) = let rest = few_tasks names tasks homes in
    omega arith
few_tasks (name ∷ names) (Some t ∷ tasks) (Some home ∷ homes) =
    let rest = few_tasks names tasks homes in omega arith

-- the fifth: the text is short enough to be read
pub plan_short : (host : Host) (plan : PlanView) → IsHostWithPlan host plan
    → length (plan_text (names_of host.vcpus) plan) < 2 ^ 31
plan_short host plan all =
    let names = names_of host.vcpus in
    let few = host.few_cores in
    let cores : length plan.rows ≡ host.cores = all.is_for.rows in
    let few_vcpus : length plan.tasks ≤ MAX_VCPUS = let least = all.few in let vcpus = all.is_for.vcpus in omega arith in
    let tasks = few_tasks names plan.tasks plan.homes in
    let lines = few_lines names 0 plan.rows all.rounds in
    let sum = length-append (tasks_told names plan.tasks plan.homes)
    (cores_told names 0 (segment_rows plan) ++ end ∷ []) in
    let last = length-append (cores_told names 0 (segment_rows plan)) (end ∷ []) in
    let size = text_size (plan_told names plan) (plan_plain names plan) (plan_fine host plan all) in
    let same = ap length (plan_written names plan) in
    omega arith
