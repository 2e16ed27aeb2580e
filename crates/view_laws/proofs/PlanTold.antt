-- The lines of a plan's text tell its vCPUs and its rows.
use Rattle.std.proofs.Common.{◌≡◌, ℕ, ◌+◌, ◌<◌, ◌≤◌, true, ltb, List, [], ◌∷◌, ◌++◌, flat_map, length, map, suc, Option, Some, None, refl, sym, ap, ◌∙◌, append_assoc, arith}
use Rattle.std.proofs.lemmas.Bool.{and_parts}
use Rattle.std.proofs.lemmas.Bool.Decides.{nat_tests}
use Rattle.std.proofs.lemmas.Grind.{flat_map-append}
use Rattle.std.proofs.lemmas.List.{map-append}
use Rattle.std.proofs.lemmas.List.Elements.{All-append, All-cons, All-head, All-map, All-nil, All-tail}
use Rattle.std.specs.List.{All}
use Rattle.tab_core.proofs.Periods.{period_facts}
use Rattle.tab_core.specs.Name.{IsName}
use Rattle.tab_core.specs.declared.TheConstants.{MAX_CORES}
use Rattle.tab_core.specs.declared.periodic.Periodic.{Periodic}
use Rattle.table_form.specs.Tables.Homes.{are_housed}
use Rattle.table_form.specs.Tables.Segments.{SegmentView}
use Rattle.vcpu_names.specs.Names.{name_at}
use Rattle.plan_text.specs.PlanLines.{core_lines, owner_words, vcpu_lines}
use Rattle.plan_text.specs.PlanText.{view_words}
use Rattle.view_doc.specs.Lines.{IsGood, IsPlain, Told, core, segment, task, told_words}
use Rattle.view_doc.specs.Views.{cores_after, tasks_in}
use Rattle.view_laws.specs.ShownPlans.{admitted_tasks, cores_told, owner_holder, segment_told, tasks_told}

-- ---- the words

-- a segment's line
segment_written : (names : List (List ℕ)) (s : SegmentView)
    → view_words names s ≡ told_words (segment_told names s)
segment_written names s = by_owner s.owner
  where
    by_owner : (owner : Option ℕ) → owner_words names owner s.end
        ≡ told_words (segment s.end (owner_holder names owner))
    by_owner None = refl
    by_owner (Some v) = refl

-- a row's lines
row_written : (names : List (List ℕ)) (row : List SegmentView)
    → map (view_words names) row ≡ map told_words (map (segment_told names) row)
row_written names [] = refl
row_written names (s ∷ row) =
    ap (λ l. l ∷ map (view_words names) row) (segment_written names s)
    ∙ ap (λ ls. told_words (segment_told names s) ∷ ls) (row_written names row)

-- those of all cores
pub cores_written : (names : List (List ℕ)) (c : ℕ) (rows : List (List SegmentView))
    → core_lines (view_words names) c rows ≡ map told_words (cores_told names c rows)
cores_written names c [] = refl
cores_written names c (row ∷ rows) =
    let first = map (segment_told names) row in
    let rest = cores_told names (c + 1) rows in
    ap (λ ls. (told_words (core c) ∷ ls) ++ core_lines (view_words names) (c + 1) rows) (row_written names row)
    ∙ (ap (λ ls. (told_words (core c) ∷ map told_words first) ++ ls) (cores_written names (c + 1) rows)
    ∙ sym (map-append told_words (core c ∷ first) rest))

-- the vCPUs' lines are those of the tasks
pub tasks_written : (names : List (List ℕ)) (tasks : List (Option Periodic)) (homes : List (Option ℕ))
    → vcpu_lines names tasks homes ≡ map told_words (tasks_told names tasks homes)
tasks_written [] tasks homes = refl
tasks_written (name ∷ names) [] homes = refl
tasks_written (name ∷ names) (t ∷ tasks) [] = refl
tasks_written (name ∷ names) (None ∷ tasks) (home ∷ homes) = tasks_written names tasks homes
tasks_written (name ∷ names) (Some t ∷ tasks) (None ∷ homes) = tasks_written names tasks homes
tasks_written (name ∷ names) (Some t ∷ tasks) (Some home ∷ homes) =
    ap (λ ls. told_words (task name t.period t.cost home) ∷ ls) (tasks_written names tasks homes)

-- ---- the ranges

-- the lines of vCPUs are good
pub tasks_fine : (cores : ℕ) (names : List (List ℕ)) (tasks : List (Option Periodic)) (homes : List (Option ℕ))
    → cores ≤ MAX_CORES → ((v : ℕ) → v < length names → IsName (name_at names v))
    → are_housed cores tasks homes ≡ true → All IsGood (tasks_told names tasks homes)
tasks_fine cores [] tasks homes few good housed = All-nil IsGood
tasks_fine cores (name ∷ names) [] homes few good housed = All-nil IsGood
tasks_fine cores (name ∷ names) (t ∷ tasks) [] few good housed = All-nil IsGood
tasks_fine cores (name ∷ names) (None ∷ tasks) (None ∷ homes) few good housed =
    tasks_fine cores names tasks homes few (λ v low. good (suc v) (omega arith)) housed
tasks_fine cores (name ∷ names) (None ∷ tasks) (Some home ∷ homes) few good housed = absurd (cc)
tasks_fine cores (name ∷ names) (Some t ∷ tasks) (None ∷ homes) few good housed = absurd (cc)
tasks_fine cores (name ∷ names) (Some t ∷ tasks) (Some home ∷ homes) few good housed =
    let parts = and_parts (ltb home cores) (are_housed cores tasks homes) housed in
    let low : home < cores = grind (arith, nat_tests, parts.0) in
    let listed = (period_facts t.period t.listed).at_most in
    let within = t.within in
    All-cons IsGood (task name t.period t.cost home) (tasks_told names tasks homes)
    (good 0 (omega arith), omega arith, omega arith, omega arith)
    (tasks_fine cores names tasks homes few (λ v less. good (suc v) (omega arith)) parts.1)

-- those of rows are, where those of each segment are
pub cores_fine : (names : List (List ℕ)) (c : ℕ) (rows : List (List SegmentView))
    → c + length rows ≤ MAX_CORES → All (λ row. All (λ s. IsGood (segment_told names s)) row) rows
    → All IsGood (cores_told names c rows)
cores_fine names c [] few all = All-nil IsGood
cores_fine names c (row ∷ rows) few all =
    let low : c < MAX_CORES = omega arith in
    All-cons IsGood (core c) (map (segment_told names) row ++ cores_told names (c + 1) rows) low
    (All-append IsGood (map (segment_told names) row) (cores_told names (c + 1) rows)
    (All-map IsGood (segment_told names) row
    (All-head (λ r. All (λ s. IsGood (segment_told names s)) r) row rows all))
    (cores_fine names (c + 1) rows (omega arith)
    (All-tail (λ r. All (λ s. IsGood (segment_told names s)) r) row rows all)))

-- none is of a report
pub tasks_plain : (names : List (List ℕ)) (tasks : List (Option Periodic)) (homes : List (Option ℕ))
    → All IsPlain (tasks_told names tasks homes)
tasks_plain [] tasks homes = All-nil IsPlain
tasks_plain (name ∷ names) [] homes = All-nil IsPlain
tasks_plain (name ∷ names) (t ∷ tasks) [] = All-nil IsPlain
tasks_plain (name ∷ names) (None ∷ tasks) (home ∷ homes) = tasks_plain names tasks homes
tasks_plain (name ∷ names) (Some t ∷ tasks) (None ∷ homes) = tasks_plain names tasks homes
tasks_plain (name ∷ names) (Some t ∷ tasks) (Some home ∷ homes) =
    All-cons IsPlain (task name t.period t.cost home) (tasks_told names tasks homes) tt
    (tasks_plain names tasks homes)

pub cores_plain : (names : List (List ℕ)) (c : ℕ) (rows : List (List SegmentView))
    → All IsPlain (cores_told names c rows)
cores_plain names c [] = All-nil IsPlain
cores_plain names c (row ∷ rows) =
    All-cons IsPlain (core c) (map (segment_told names) row ++ cores_told names (c + 1) rows) tt
    (All-append IsPlain (map (segment_told names) row) (cores_told names (c + 1) rows) (of_row row)
    (cores_plain names (c + 1) rows))
  where
    of_row : (ss : List SegmentView) → All IsPlain (map (segment_told names) ss)
    of_row [] = All-nil IsPlain
    of_row (s ∷ ss) = All-cons IsPlain (segment_told names s) (map (segment_told names) ss) tt (of_row ss)

-- ---- what they say

-- what says nothing of segments and cores says nothing of rows
pub nothing_of_cores : {X : Type 0} (f : Told → List X) (names : List (List ℕ)) (c : ℕ)
    (rows : List (List SegmentView)) → ((d : ℕ) → f (core d) ≡ [])
    → ((s : SegmentView) → f (segment_told names s) ≡ []) → flat_map f (cores_told names c rows) ≡ []
nothing_of_cores f names c [] no_core no_segment = refl
nothing_of_cores f names c (row ∷ rows) no_core no_segment =
    ap (λ xs. xs ++ flat_map f (map (segment_told names) row ++ cores_told names (c + 1) rows)) (no_core c)
    ∙ (flat_map-append f (map (segment_told names) row) (cores_told names (c + 1) rows)
    ∙ (ap (λ xs. xs ++ flat_map f (cores_told names (c + 1) rows)) (of_row row)
    ∙ nothing_of_cores f names (c + 1) rows no_core no_segment))
  where
    of_row : (ss : List SegmentView) → flat_map f (map (segment_told names) ss) ≡ []
    of_row [] = refl
    of_row (s ∷ ss) = ap (λ xs. xs ++ flat_map f (map (segment_told names) ss)) (no_segment s) ∙ of_row ss

-- what says nothing of a vCPU's line says nothing of all of them
pub nothing_of_tasks : {X : Type 0} (f : Told → List X) (names : List (List ℕ))
    (tasks : List (Option Periodic))
    (homes : List (Option ℕ)) → ((name : List ℕ) (t n h : ℕ) → f (task name t n h) ≡ [])
    → flat_map f (tasks_told names tasks homes) ≡ []
nothing_of_tasks f [] tasks homes none = refl
nothing_of_tasks f (name ∷ names) [] homes none = refl
nothing_of_tasks f (name ∷ names) (t ∷ tasks) [] none = refl
nothing_of_tasks f (name ∷ names) (None ∷ tasks) (home ∷ homes) none = nothing_of_tasks f names tasks homes
    none
nothing_of_tasks f (name ∷ names) (Some t ∷ tasks) (None ∷ homes) none =
    nothing_of_tasks f names tasks homes none
nothing_of_tasks f (name ∷ names) (Some t ∷ tasks) (Some home ∷ homes) none =
    ap (λ xs. xs ++ flat_map f (tasks_told names tasks homes)) (none name t.period t.cost home)
    ∙ nothing_of_tasks f names tasks homes none

-- the vCPUs' tasks and homes
pub tasks_are : (names : List (List ℕ)) (tasks : List (Option Periodic)) (homes : List (Option ℕ))
    → length names ≡ length tasks
    → flat_map tasks_in (tasks_told names tasks homes) ≡ admitted_tasks tasks homes
tasks_are [] [] homes many = refl
tasks_are [] (t ∷ tasks) homes many = absurd (omega arith)
tasks_are (name ∷ names) [] homes many = absurd (omega arith)
tasks_are (name ∷ names) (t ∷ tasks) [] many = refl
tasks_are (name ∷ names) (None ∷ tasks) (home ∷ homes) many = tasks_are names tasks homes (omega arith)
tasks_are (name ∷ names) (Some t ∷ tasks) (None ∷ homes) many = tasks_are names tasks homes (omega arith)
tasks_are (name ∷ names) (Some t ∷ tasks) (Some home ∷ homes) many =
    ap (λ ts. (record { period = t.period; cost = t.cost; home = home }) ∷ ts)
    (tasks_are names tasks homes (omega arith))

-- the count of cores is the head's, whatever lines of vCPUs follow
pub cores_past_tasks : (n : ℕ) (names : List (List ℕ)) (tasks : List (Option Periodic))
    (homes : List (Option ℕ))
    (rest : List Told) → cores_after n (tasks_told names tasks homes ++ rest) ≡ cores_after n rest
cores_past_tasks n [] tasks homes rest = refl
cores_past_tasks n (name ∷ names) [] homes rest = refl
cores_past_tasks n (name ∷ names) (t ∷ tasks) [] rest = refl
cores_past_tasks n (name ∷ names) (None ∷ tasks) (home ∷ homes) rest = cores_past_tasks n names tasks homes
    rest
cores_past_tasks n (name ∷ names) (Some t ∷ tasks) (None ∷ homes) rest =
    cores_past_tasks n names tasks homes rest
cores_past_tasks n (name ∷ names) (Some t ∷ tasks) (Some home ∷ homes) rest =
    cores_past_tasks n names tasks homes rest

-- the count of cores is the head's, whatever rows follow
pub cores_past_rows : (n : ℕ) (names : List (List ℕ)) (c : ℕ) (rows : List (List SegmentView))
    (rest : List Told)
    → cores_after n (cores_told names c rows ++ rest) ≡ cores_after n rest
cores_past_rows n names c [] rest = refl
cores_past_rows n names c (row ∷ rows) rest =
    ap (cores_after n) (append_assoc (map (segment_told names) row) (cores_told names (c + 1) rows) rest)
    ∙ (past_row row (cores_told names (c + 1) rows ++ rest) ∙ cores_past_rows n names (c + 1) rows rest)
  where
    past_row : (ss : List SegmentView) (more : List Told)
        → cores_after n (map (segment_told names) ss ++ more) ≡ cores_after n more
    past_row [] more = refl
    past_row (s ∷ ss) more = past_row ss more
