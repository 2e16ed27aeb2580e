-- The text of a plan is read back as its homes and its maximal segments.
use Rattle.std.proofs.Common.{◌≡◌, ℕ, ◌+◌, ◌<◌, ◌≤◌, Bool, true, false, eqb, List, [], ◌∷◌, ◌++◌, length, map, get_or, count_by, Option, Some, refl, sym, ap, ◌∙◌, subst, arith}
use Rattle.std.specs.Prelude.{slice_get}
use Rattle.std.specs.List.{All, AllByRecursion}
use Rattle.std.specs.Option.{ForSome, option_eq}
use Rattle.std.proofs.lemmas.List.{length-map}
use Rattle.std.proofs.lemmas.List.Elements.{All-cons, All-nil, All-tail}
use Rattle.std.proofs.lemmas.Option.{slice_get-get_or}
use Rattle.tab_core.specs.declared.TheConstants.{MAX_VCPUS, ROUND}
use Rattle.tab_core.specs.declared.host.Host.{Host}
use Rattle.tab_core.specs.declared.periodic.Periodic.{Periodic}
use Rattle.tab_words.specs.Texts.{text_of, worded}
use Rattle.table_form.specs.Tables.Homes.{are_housed}
use Rattle.table_form.specs.Tables.Plans.{PlanView}
use Rattle.table_form.specs.Tables.Rows.{Row}
use Rattle.table_form.specs.Tables.Serves.{OwnersHaveTasks, cell_of, flat, has_task}
use Rattle.table_form.specs.Tables.Segments.{SegmentView, put_front, segment_view, segments_from}
use Rattle.table_form.specs.declared.raw_tables.RawTables.{RawTables}
use Rattle.table_form.specs.declared.segment.Segment.{Segment}
use Rattle.table_form.proofs.SegmentLemmas.{segments_from-cons, segments_from-nil}
use Rattle.vcpu_names.specs.Names.{names_of}
use Rattle.plan_text.specs.Meaning.{AreFineRows, IsFine, IsFineSegment, segment_words}
use Rattle.plan_text.specs.PlanLines.{core_lines, core_words, end_words, head_words, is_admitted, plan_lines, vcpu_lines}
use Rattle.plan_text.specs.PlanText.{plan_text, view_words}
use Rattle.plan_text.specs.Written.{IsHostWithPlan, IsReadBack}
use Rattle.plan_text.proofs.MeaningLemmas.{text_of_tables}
use Rattle.table_form.proofs.TaskLemmas.{task_within}

-- ---- the tables that a plan's text stands for

-- a segment that a text can have
record IsGoodView (tasks : List (Option Periodic)) (most : ℕ) (s : SegmentView) : Type 0 where
  low : s.end ≤ most
  owned : ForSome s.owner (λ v. has_task tasks v ≡ true)

-- an owner has a task
abbrev IsOwned : List (Option Periodic) → Option ℕ → Type 0
IsOwned tasks owner = ForSome owner (λ v. has_task tasks v ≡ true)

-- a good segment before good ones
front_good : (tasks : List (Option Periodic)) (most : ℕ) (s : SegmentView) (ss : List SegmentView)
    → IsGoodView tasks most s → AllByRecursion (IsGoodView tasks most) ss
    → AllByRecursion (IsGoodView tasks most) (put_front s ss)
front_good tasks most s [] good all = (good, all)
front_good tasks most s (t ∷ ts) good all = by_test (option_eq eqb s.owner t.owner) refl
  where
    by_test : (b : Bool) → option_eq eqb s.owner t.owner ≡ b
        → AllByRecursion (IsGoodView tasks most) (put_front s (t ∷ ts))
    by_test true same = rw same all
    by_test false other = rw other (good, all)

-- the maximal segments of cells whose owners have tasks are good
views_good : (tasks : List (Option Periodic)) (most at : ℕ) (row : Row) → at + length row ≤ most
    → All (IsOwned tasks) row
    → AllByRecursion (IsGoodView tasks most) (segments_from at row)
views_good tasks most at [] within all = rw (segments_from-nil at) tt
views_good tasks most at (cell ∷ cells) within all =
    rw (segments_from-cons at cell cells)
    (front_good tasks most (record { owner = cell; end = at + 1 }) (segments_from (at + 1) cells)
    (record { low = omega arith; owned = all 0 cell (omega arith) })
    (views_good tasks most (at + 1) cells (omega arith) (All-tail (IsOwned tasks) cell cells all)))

-- segments that say these
segments_of : (tasks : List (Option Periodic)) (most : ℕ) (ss : List SegmentView) → length tasks ≤ MAX_VCPUS
    → AllByRecursion (IsGoodView tasks most) ss
    → (segments : List Segment) × (map segment_view segments ≡ ss)
segments_of tasks most [] few all = ([], refl)
segments_of tasks most (s ∷ ss) few all =
    let small : ForSome s.owner (λ v. v < MAX_VCPUS) =
    λ v is. let below = task_within tasks v (all.0.owned v is) in
    omega arith in
    let first : Segment = record { owner = s.owner; end = s.end; owner_small = small } in
    let more = segments_of tasks most ss few all.1 in
    (first ∷ more.0, ap (λ rest. s ∷ rest) more.1)

-- segments of all rows say these rows
rows_of : (tasks : List (Option Periodic)) (rows : List Row) → length tasks ≤ MAX_VCPUS
    → All (λ (row : Row). length row ≡ ROUND) rows → All (λ row. All (IsOwned tasks) row) rows
    → (raw : List (List Segment)) × (map (λ row. map segment_view row) raw
    ≡ map (λ row. segments_from 0 row) rows)
rows_of tasks [] few rounds owned = ([], refl)
rows_of tasks (row ∷ rows) few rounds owned =
    let size : 0 + length row ≤ ROUND = let is = rounds 0 row (omega arith) in omega arith in
    let first = segments_of tasks ROUND (segments_from 0 row) few
    (views_good tasks ROUND 0 row size (owned 0 row (omega arith))) in
    let more = rows_of tasks rows few (All-tail (λ (r : Row). length r ≡ ROUND) row rows rounds)
    (All-tail (λ r. All (IsOwned tasks) r) row rows owned) in (
      first.0 ∷ more.0,
      ap (λ ss. ss ∷ map (λ r. map segment_view r) more.0) first.1
          ∙ ap (λ rest. segments_from 0 row ∷ rest) more.1,
    )

-- such segments are fine
fine_segments : (tasks : List (Option Periodic)) (segments : List Segment) (ss : List SegmentView)
    → map segment_view segments ≡ ss → AllByRecursion (IsGoodView tasks ROUND) ss
    → All (IsFineSegment tasks) segments
fine_segments tasks [] ss is all = All-nil (IsFineSegment tasks)
fine_segments tasks (s ∷ segments) [] is all = absurd (cc)
fine_segments tasks (s ∷ segments) (t ∷ ss) is all =
    let first : segment_view s ≡ t = cc in
    let good : IsGoodView tasks ROUND (segment_view s) =
    subst (IsGoodView tasks ROUND) (sym first) all.0 in
    All-cons (IsFineSegment tasks) s segments
    (record { small = let low = good.low in omega arith; owned = good.owned })
    (fine_segments tasks segments ss (cc) all.1)

-- in all rows
fine_rows : (tasks : List (Option Periodic)) (raw : List (List Segment)) (rows : List Row)
    → map (λ row. map segment_view row) raw ≡ map (λ row. segments_from 0 row) rows
    → All (λ (row : Row). length row ≡ ROUND) rows → All (λ row. All (IsOwned tasks) row) rows
    → AreFineRows tasks raw
fine_rows tasks [] rows is rounds owned = All-nil (λ row. All (IsFineSegment tasks) row)
fine_rows tasks (segments ∷ raw) [] is rounds owned = absurd (cc)
fine_rows tasks (segments ∷ raw) (row ∷ rows) is rounds owned =
    let size : 0 + length row ≤ ROUND = let same = rounds 0 row (omega arith) in omega arith in
    All-cons (λ r. All (IsFineSegment tasks) r) segments raw
    (fine_segments tasks segments (segments_from 0 row) (cc)
    (views_good tasks ROUND 0 row size (owned 0 row (omega arith))))
    (fine_rows tasks raw rows (cc) (All-tail (λ (r : Row). length r ≡ ROUND) row rows rounds)
    (All-tail (λ r. All (IsOwned tasks) r) row rows owned))

-- ---- the text of a plan as that of these tables

-- a segment has the line of what it says
same_words : (names : List (List ℕ)) (segments : List Segment)
    → map (segment_words names) segments ≡ map (view_words names) (map segment_view segments)
same_words names [] = refl
same_words names (s ∷ segments) = ap (λ rest. segment_words names s ∷ rest) (same_words names segments)

-- cores have the lines of what they say
view_lines : (names : List (List ℕ)) (core : ℕ) (raw : List (List Segment))
    → core_lines (view_words names) core (map (λ row. map segment_view row) raw)
    ≡ core_lines (segment_words names) core raw
view_lines names core [] = refl
view_lines names core (row ∷ raw) =
    ap (λ ls. (core_words core ∷ ls)
    ++ core_lines (view_words names) (core + 1) (map (λ r. map segment_view r) raw))
    (sym (same_words names row))
    ∙ ap (λ ls. (core_words core ∷ map (segment_words names) row) ++ ls) (view_lines names (core + 1) raw)

-- the plan's text is that of the tables
text_of_plan : (names : List (List ℕ)) (plan : PlanView) (raw : List (List Segment))
    → map (λ row. map segment_view row) raw ≡ map (λ row. segments_from 0 row) plan.rows
    → plan_text names plan ≡ text_of (plan_lines (segment_words names) names plan.tasks plan.homes raw)
unfolding plan_text
text_of_plan names plan raw is =
    let vcpus = vcpu_lines names plan.tasks plan.homes in
    let admitted = count_by is_admitted plan.tasks in
    let cores = core_lines (view_words names) 0 (map (λ row. map segment_view row) raw) in
    ap (λ rows. text_of (plan_lines (view_words names) names plan.tasks plan.homes rows)) (sym is)
    ∙ ap (λ n. text_of (head_words n admitted ∷ (vcpus ++ (cores ++ end_words ∷ []))))
    (length-map raw (λ row. map segment_view row))
    ∙ ap (λ ls. text_of (head_words (length raw) admitted ∷ (vcpus ++ (ls ++ end_words ∷ []))))
    (view_lines names 0 raw)

-- ---- the whole

-- owners have tasks, row by row
all_owned : (tasks : List (Option Periodic)) (rows : List Row) → OwnersHaveTasks tasks rows
    → All (λ row. All (IsOwned tasks) row) rows
all_owned tasks rows owned core row low place cell within v is =
    let at : slice_get rows core ≡ Some (get_or rows core row) = slice_get-get_or rows core row low in
    let cell_at : slice_get (get_or rows core row) place ≡ Some (get_or (get_or rows core row) place cell) =
    slice_get-get_or (get_or rows core row) place cell within in
    owned v place core (ap (λ r. cell_of r place) at ∙ (ap flat cell_at ∙ is))

-- a plan's text is read back: the law's proof
pub read_back : (host : Host) (plan : PlanView) → IsHostWithPlan host plan → IsReadBack host plan
read_back host plan all =
    let names = names_of host.vcpus in
    let size = length-map host.vcpus (λ v. v.name) in
    let few_cores = host.few_cores in
    let cores : length plan.rows ≡ host.cores = all.is_for.rows in
    let many : length names ≡ length plan.tasks = let vcpus = all.is_for.vcpus in omega arith in
    let few_tasks : length plan.tasks ≤ MAX_VCPUS =
    let few = all.few in let vcpus = all.is_for.vcpus in omega arith in
    let owned = all_owned plan.tasks plan.rows all.keeps.owned in
    let rows = rows_of plan.tasks plan.rows few_tasks all.rounds owned in
    let raw : RawTables = record { homes = plan.homes; rows = rows.0 } in
    let same : length rows.0 ≡ length plan.rows =
    sym (length-map rows.0 (λ row. map segment_view row))
    ∙ (ap length rows.1 ∙ length-map plan.rows (λ row. segments_from 0 row)) in
    let fine : IsFine host.cores plan.tasks raw = record {
      housed = subst (λ n. are_housed n plan.tasks plan.homes ≡ true) cores all.keeps.housed;
      rows = same ∙ cores;
      segments = fine_rows plan.tasks rows.0 plan.rows rows.1 all.rounds owned;
    } in
    record {
      raw = raw;
      own = record { homes = refl; rows = rows.1 };
      text = record {
        fine = fine;
        written = ap worded (text_of_plan names plan rows.0 rows.1)
            ∙ text_of_tables names host.cores plan.tasks raw all.names many few_cores few_tasks fine;
      };
    }
