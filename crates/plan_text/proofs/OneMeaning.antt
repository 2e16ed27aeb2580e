-- A text stands for one pair of tables at most.
use Rattle.std.proofs.Common.{◌≡◌, ℕ, ◌+◌, ◌<◌, ◌≤◌, nat_lt, true, List, [], ◌∷◌, ◌++◌, length, map, decimal, Option, Some, None, refl, sym, ap, ◌∙◌, subst, append_assoc, arith}
use Rattle.std.proofs.lemmas.Bool.{and_parts}
use Rattle.std.proofs.lemmas.Bool.Decides.{nat_tests}
use Rattle.std.proofs.lemmas.Fmt.{decimal_injective}
use Rattle.std.proofs.lemmas.List.Elements.{All-tail}
use Rattle.std.specs.List.{All}
use Rattle.std.specs.Option.{ForSome}
use Rattle.tab_core.specs.Name.{IsName}
use Rattle.tab_core.specs.declared.TheConstants.{MAX_CORES, MAX_VCPUS}
use Rattle.tab_core.specs.declared.periodic.Periodic.{Periodic}
use Rattle.tab_core.proofs.Alike.{one_owner_proof}
use Rattle.tab_words.specs.Texts.{Line}
use Rattle.table_form.specs.Tables.Homes.{are_housed}
use Rattle.table_form.specs.Tables.Serves.{has_task}
use Rattle.table_form.specs.declared.raw_tables.RawTables.{RawTables}
use Rattle.table_form.specs.declared.segment.Segment.{Segment}
use Rattle.plan_text.specs.Names.{AreHostNames}
use Rattle.plan_text.specs.Meaning.{AreFineRows, AreLinesOf, IsFineSegment, segment_words}
use Rattle.plan_text.specs.PlanLines.{core_lines, end_words, vcpu_lines}
use Rattle.vcpu_names.specs.Names.{owner_word}
use Rattle.plan_text.proofs.ReadingLemmas.{core_is_no_end, core_is_no_segment, end_is_no_segment}
use Rattle.table_form.proofs.TaskLemmas.{task_within}
use Rattle.plan_text.proofs.ReadingSegmentLemmas.{dash_is_no_name}

-- ---- segments

-- a segment by its parts, so that equal parts can be put in place of one another
build : (owner : Option ℕ) (end : ℕ) → ForSome owner (λ v. v < MAX_VCPUS) → Segment
build owner end small = record { owner = owner; end = end; owner_small = small }

-- equal owners give equal segments
build_same : (o p : Option ℕ) (end : ℕ) (x : ForSome o (λ v. v < MAX_VCPUS))
    (y : ForSome p (λ v. v < MAX_VCPUS))
    → o ≡ p → build o end x ≡ build p end y
build_same o p end x y is =
    subst (λ (q : Option ℕ). (y : ForSome q (λ v. v < MAX_VCPUS)) → build o end x ≡ build q end y) is
    (λ y. ap (λ (z : ForSome o (λ v. v < MAX_VCPUS)). build o end z) (one_owner_proof o x y)) y

-- a segment is its owner and its end
segment_same : (s t : Segment) → s.owner ≡ t.owner → s.end ≡ t.end → s ≡ t
unfolding build
segment_same s t owner end =
    let here : build s.owner s.end s.owner_small ≡ build t.owner s.end t.owner_small =
    build_same s.owner t.owner s.end s.owner_small t.owner_small owner in
    here ∙ ap (λ e. build t.owner e t.owner_small) end

-- two owners of one word are one: names differ, and none is `-`
owner_same : (names : List (List ℕ)) (tasks : List (Option Periodic)) (o p : Option ℕ)
    → length names ≡ length tasks
    → AreHostNames names
    → ForSome o (λ v. has_task tasks v ≡ true) → ForSome p (λ v. has_task tasks v ≡ true)
    → owner_word names o ≡ owner_word names p → o ≡ p
owner_same names tasks None None many good of_o of_p is = refl
owner_same names tasks None (Some w) many good of_o of_p is =
    let low : w < length names = let below = task_within tasks w (of_p w refl) in omega arith in
    absurd (dash_is_no_name (subst IsName (sym is) (good.good w low)))
owner_same names tasks (Some v) None many good of_o of_p is =
    let low : v < length names = let below = task_within tasks v (of_o v refl) in omega arith in
    absurd (dash_is_no_name (subst IsName is (good.good v low)))
owner_same names tasks (Some v) (Some w) many good of_o of_p is =
    let low : v < length names = let below = task_within tasks v (of_o v refl) in omega arith in
    let other : w < length names = let below = task_within tasks w (of_p w refl) in omega arith in
    ap Some (good.distinct v w low other is)

-- two segments of one line are one
words_same : (names : List (List ℕ)) (tasks : List (Option Periodic)) (s t : Segment)
    → length names ≡ length tasks
    → AreHostNames names
    → IsFineSegment tasks s → IsFineSegment tasks t → segment_words names s ≡ segment_words names t → s ≡ t
words_same names tasks s t many good of_s of_t is =
    let small = of_s.small in
    let small' = of_t.small in
    let digits : decimal s.end ≡ decimal t.end = cc in
    let owner : owner_word names s.owner ≡ owner_word names t.owner = cc in
    segment_same s t (owner_same names tasks s.owner t.owner many good of_s.owned of_t.owned owner)
    (decimal_injective s.end t.end (omega arith) (omega arith) digits)

-- ---- rows

-- the first line is no segment's, if there is one
abbrev NoSegmentFirst : List (List ℕ) → List (Option Periodic) → List Line → Type 0
NoSegmentFirst names tasks lines = (s : Segment) (rest : List Line) → IsFineSegment tasks s
    → lines ≡ segment_words names s ∷ rest → ⊥

-- two rows of the same lines are one, and the same lines follow them
row_same : (names : List (List ℕ)) (tasks : List (Option Periodic)) (row other : List Segment)
    (rest more : List Line) → length names ≡ length tasks → AreHostNames names
    → All (IsFineSegment tasks) row → All (IsFineSegment tasks) other → NoSegmentFirst names tasks rest
    → NoSegmentFirst names tasks more
    → map (segment_words names) row ++ rest ≡ map (segment_words names) other ++ more
    → (row ≡ other) × (rest ≡ more)
row_same names tasks [] [] rest more many good all all' none none' is = (refl, is)
row_same names tasks [] (t ∷ other) rest more many good all all' none none' is =
    absurd (none t (map (segment_words names) other ++ more) (all' 0 t (omega arith)) is)
row_same names tasks (s ∷ row) [] rest more many good all all' none none' is =
    absurd (none' s (map (segment_words names) row ++ rest) (all 0 s (omega arith)) (sym is))
row_same names tasks (s ∷ row) (t ∷ other) rest more many good all all' none none' is =
    let words : segment_words names s ≡ segment_words names t = cc in
    let tails : map (segment_words names) row ++ rest ≡ map (segment_words names) other ++ more = cc in
    let first = words_same names tasks s t many good (all 0 s (omega arith)) (all' 0 t (omega arith)) words in
    let behind = row_same names tasks row other rest more many good (All-tail (IsFineSegment tasks) s row all)
    (All-tail (IsFineSegment tasks) t other all') none none' tails in
    (ap (λ x. x ∷ row) first ∙ ap (λ xs. t ∷ xs) behind.0, behind.1)

-- after a row there is no segment's line, so where it ends is fixed
cores_first : (names : List (List ℕ)) (tasks : List (Option Periodic)) (core : ℕ) (rows : List (List Segment))
    → NoSegmentFirst names tasks (core_lines (segment_words names) core rows ++ end_words ∷ [])
cores_first names tasks core [] s rest fine is = end_is_no_segment names s cc
cores_first names tasks core (row ∷ rows) s rest fine is = core_is_no_segment names tasks core s fine cc

-- all rows of the same lines are the same
rows_same : (names : List (List ℕ)) (tasks : List (Option Periodic)) (core : ℕ)
    (rows others : List (List Segment))
    → length names ≡ length tasks → AreHostNames names
    → AreFineRows tasks rows → AreFineRows tasks others
    → core_lines (segment_words names) core rows ++ end_words ∷ []
    ≡ core_lines (segment_words names) core others ++ end_words ∷ []
    → rows ≡ others
rows_same names tasks core [] [] many good all all' is = refl
rows_same names tasks core [] (other ∷ others) many good all all' is = absurd (core_is_no_end core cc)
rows_same names tasks core (row ∷ rows) [] many good all all' is = absurd (core_is_no_end core cc)
rows_same names tasks core (row ∷ rows) (other ∷ others) many good all all' is =
    let tails : (map (segment_words names) row ++ core_lines (segment_words names) (core + 1) rows)
    ++ end_words ∷ []
    ≡ (map (segment_words names) other ++ core_lines (segment_words names) (core + 1) others)
    ++ end_words ∷ [] = cc in
    let parted : map (segment_words names) row ++ (core_lines (segment_words names) (core + 1) rows
    ++ end_words ∷ []) ≡ map
    (segment_words names) other ++ (core_lines (segment_words names) (core + 1) others ++ end_words ∷ []) =
    sym (append_assoc (map (segment_words names) row) (core_lines (segment_words names) (core + 1) rows)
    (end_words ∷ []))
    ∙ tails ∙ append_assoc (map (segment_words names) other)
    (core_lines (segment_words names) (core + 1) others)
    (end_words ∷ []) in
    let both = row_same names tasks row other _ _ many good (all 0 row (omega arith))
    (all' 0 other (omega arith))
    (cores_first names tasks (core + 1) rows) (cores_first names tasks (core + 1) others) parted in
    let behind = rows_same names tasks (core + 1) rows others many good
    (All-tail (λ r. All (IsFineSegment tasks) r) row rows all)
    (All-tail (λ r. All (IsFineSegment tasks) r) other others all') both.1 in
    ap (λ x. x ∷ rows) both.0 ∙ ap (λ xs. other ∷ xs) behind

-- ---- homes

-- all homes of the same lines are the same, and the same lines follow them
homes_same : (names : List (List ℕ)) (cores : ℕ) (tasks : List (Option Periodic))
    (homes others : List (Option ℕ))
    (rest more : List Line) → length names ≡ length tasks → cores ≤ MAX_CORES
    → are_housed cores tasks homes ≡ true → are_housed cores tasks others ≡ true
    → vcpu_lines names tasks homes ++ rest ≡ vcpu_lines names tasks others ++ more
    → (homes ≡ others) × (rest ≡ more)
homes_same [] cores [] [] [] rest more many few all all' is = (refl, is)
homes_same [] cores [] [] (other ∷ others) rest more many few all all' is = absurd (cc)
homes_same [] cores [] (home ∷ homes) others rest more many few all all' is = absurd (cc)
homes_same [] cores (task ∷ tasks) homes others rest more many few all all' is = absurd (omega arith)
homes_same (name ∷ names) cores [] homes others rest more many few all all' is = absurd (omega arith)
homes_same (name ∷ names) cores (task ∷ tasks) [] others rest more many few all all' is = absurd (cc)
homes_same (name ∷ names) cores (task ∷ tasks) (home ∷ homes) [] rest more many few all all' is = absurd (cc)
homes_same (name ∷ names) cores (None ∷ tasks) (None ∷ homes) (None ∷ others) rest more many few all all' is =
    let behind = homes_same names cores tasks homes others rest more (omega arith) few all all' is in
    (ap (λ hs. None ∷ hs) behind.0, behind.1)
homes_same (name ∷ names) cores (None ∷ tasks) (Some home ∷ homes)
    (other ∷ others) rest more many few all all' is =
    absurd (cc)
homes_same (name ∷ names) cores (None ∷ tasks) (None ∷ homes)
    (Some other ∷ others) rest more many few all all' is =
    absurd (cc)
homes_same (name ∷ names) cores (Some task ∷ tasks) (None ∷ homes)
    (other ∷ others) rest more many few all all' is =
    absurd (cc)
homes_same (name ∷ names) cores (Some task ∷ tasks) (Some home ∷ homes)
    (None ∷ others) rest more many few all all' is = absurd (cc)
homes_same (name ∷ names) cores (Some task ∷ tasks) (Some home ∷ homes)
    (Some other ∷ others) rest more many few all all' is =
    let parts = and_parts (nat_lt home cores) (are_housed cores tasks homes) all in
    let parts' = and_parts (nat_lt other cores) (are_housed cores tasks others) all' in
    let low : home < cores = grind (arith, nat_tests, parts.0) in
    let low' : other < cores = grind (arith, nat_tests, parts'.0) in
    let digits : decimal home ≡ decimal other = cc in
    let tails : vcpu_lines names tasks homes ++ rest ≡ vcpu_lines names tasks others ++ more = cc in
    let behind = homes_same names cores tasks homes others rest more
    (omega arith) few parts.1 parts'.1 tails in
    let first : home ≡ other = decimal_injective home other (omega arith) (omega arith) digits in
    (ap (λ h. Some h ∷ homes) first ∙ ap (λ hs. Some other ∷ hs) behind.0, behind.1)

-- ---- all

-- tables are their homes and their rows
tables_same : (raw other : RawTables) → raw.homes ≡ other.homes → raw.rows ≡ other.rows → raw ≡ other
tables_same raw other homes rows =
    let first : raw ≡ record { homes = other.homes; rows = raw.rows } =
    ap (λ (h : List (Option ℕ)). let t : RawTables = record { homes = h; rows = raw.rows } in t) homes in
    first ∙ ap
    (λ (r : List (List Segment)). let t : RawTables = record { homes = other.homes; rows = r } in t) rows

-- the law's proof
pub one_meaning : (names : List (List ℕ)) (cores : ℕ) (tasks : List (Option Periodic)) (lines : List Line)
    (raw other : RawTables) → length names ≡ length tasks → cores ≤ MAX_CORES → AreHostNames names
    → AreLinesOf names cores tasks lines raw → AreLinesOf names cores tasks lines other → raw ≡ other
one_meaning names cores tasks lines raw other many few good is also =
    let same = sym is.written ∙ also.written in
    let tails : vcpu_lines names tasks raw.homes ++ (core_lines (segment_words names) 0 raw.rows
    ++ end_words ∷ [])
    ≡ vcpu_lines names tasks other.homes ++ (core_lines (segment_words names) 0 other.rows
    ++ end_words ∷ []) = cc in
    let homes = homes_same names cores tasks raw.homes other.homes _ _ many few is.fine.housed
    also.fine.housed tails in
    tables_same raw other homes.0 (rows_same names tasks 0 raw.rows other.rows many good is.fine.segments
    also.fine.segments homes.1)
