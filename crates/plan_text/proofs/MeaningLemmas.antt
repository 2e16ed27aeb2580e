-- The text of any tables that a text may stand for is read as their lines.
use Rattle.std.proofs.Common.{◌≡◌, ◌≢◌, ℕ, ◌+◌, ◌<◌, ◌≤◌, ◌&&◌, nat_le, nat_lt, not, true, List, [], ◌∷◌, ◌++◌, length, map, codes, count_by, decimal, Option, Some, None, suc, refl, sym, ap, ◌∙◌, arith}
use Rattle.std.specs.List.{All, list_all}
use Rattle.std.proofs.lemmas.Bool.{and_parts}
use Rattle.std.proofs.lemmas.Bool.Decides.{nat_tests}
use Rattle.std.proofs.lemmas.List.Elements.{All-tail}
use Rattle.std.proofs.lemmas.List.Folds.{list_all-append}
use Rattle.std.proofs.lemmas.List.Sums.{count_by-le-length}
use Rattle.tab_core.proofs.Periods.{period_facts}
use Rattle.tab_core.specs.Name.{IsName, is_lone_dash, is_byte_of_name}
use Rattle.tab_core.specs.declared.TheConstants.{MAX_CORES, MAX_NAME, MAX_VCPUS, ROUND}
use Rattle.tab_core.specs.declared.periodic.Periodic.{Periodic}
use Rattle.tab_words.specs.Texts.{Line, text_of, worded}
use Rattle.tab_words.proofs.TextLemmas.{decimal_word, is_line, is_plain, is_word, text_read}
use Rattle.table_form.specs.Tables.Homes.{are_housed, is_housed}
use Rattle.table_form.specs.declared.raw_tables.RawTables.{RawTables}
use Rattle.table_form.specs.declared.segment.Segment.{Segment}
use Rattle.vcpu_names.specs.Names.{name_at, owner_word}
use Rattle.plan_text.specs.Meaning.{AreFineRows, IsFine, IsFineSegment, segment_words}
use Rattle.plan_text.specs.Names.{AreHostNames}
use Rattle.plan_text.specs.PlanLines.{core_lines, core_words, end_words, head_words, is_admitted, plan_lines, vcpu_lines, vcpu_part, vcpu_words}
use Rattle.table_form.proofs.TaskLemmas.{task_within}

-- ---- words and lines

-- a byte of a name parts nothing
plain_name_byte : (byte : ℕ) → is_byte_of_name byte ≡ true → is_plain byte ≡ true
plain_name_byte byte is =
    let no_space : byte ≢ 32 = λ same.
    absurd (let no : is_byte_of_name 32 ≡ true = ap is_byte_of_name (sym same) ∙ is in cc) in
    let no_line_feed : byte ≢ 10 = λ same.
    absurd (let no : is_byte_of_name 10 ≡ true = ap is_byte_of_name (sym same) ∙ is in cc) in
    grind (arith, nat_tests)

-- bytes of a name in a row part nothing
plain_name : (bytes : List ℕ) → list_all is_byte_of_name bytes ≡ true → list_all is_plain bytes ≡ true
plain_name [] all = refl
plain_name (byte ∷ bytes) all =
    let parts = and_parts (is_byte_of_name byte) (list_all is_byte_of_name bytes) all in
    rw (plain_name_byte byte parts.0) (plain_name bytes parts.1)

-- a name is one word
pub name_word : (name : List ℕ) → IsName name → is_word name ≡ true
name_word name good =
    let parts =
    and_parts ((nat_le 1 (length name) && nat_le (length name) MAX_NAME)
    && not (is_lone_dash name))
    (list_all is_byte_of_name name) good in
    let sized = and_parts (nat_le 1 (length name) && nat_le (length name) MAX_NAME)
    (not (is_lone_dash name)) parts.0 in
    let long = and_parts (nat_le 1 (length name)) (nat_le (length name) MAX_NAME) sized.0 in
    let some : nat_lt 0 (length name) ≡ true = grind (arith, nat_tests, long.0) in
    rw some (plain_name name parts.1)

-- an owner is one word
owner_is_word : (names : List (List ℕ)) (owner : Option ℕ)
    → ((v : ℕ) → owner ≡ Some v → IsName (name_at names v))
    → is_word (owner_word names owner) ≡ true
owner_is_word names None good = refl
owner_is_word names (Some v) good = name_word (name_at names v) (good v refl)

-- words are a line, if there is one
line_good : (word : List ℕ) (words : List (List ℕ)) → list_all is_word (word ∷ words) ≡ true
    → is_line (word ∷ words) ≡ true
line_good word words all =
    let some : nat_lt 0 (length (word ∷ words)) ≡ true = grind (arith, nat_tests) in rw some all

-- lines before such lines
both_good : (first second : List Line) → list_all is_line first ≡ true → list_all is_line second ≡ true
    → list_all is_line (first ++ second) ≡ true
both_good first second of_first of_second = list_all-append is_line first second ∙ rw of_first of_second

-- ---- the lines of tables

-- a period and a cost are small enough to be read again
period_small : (task : Periodic) → task.period ≤ ROUND
period_small task = (period_facts task.period task.listed).at_most

-- the line of one vCPU
part_good : (cores : ℕ) (name : List ℕ) (task : Option Periodic) (home : Option ℕ)
    → cores ≤ MAX_CORES → IsName name → is_housed cores task home ≡ true
    → list_all is_line (vcpu_part name task home) ≡ true
part_good cores name None home few good housed = refl
part_good cores name (Some task) None few good housed = refl
part_good cores name (Some task) (Some home) few good housed =
    let low : home < cores = grind (arith, nat_tests) in
    let listed = period_small task in
    let within = task.within in
    let all : list_all is_word (vcpu_words name task home) ≡ true =
    rw (name_word name good) (rw (decimal_word task.period (omega arith))
    (rw (decimal_word task.cost (omega arith)) (rw (decimal_word home (omega arith)) refl))) in
    rw (line_good (codes "vcpu") (name ∷ codes "period" ∷ decimal task.period ∷ codes "cost"
    ∷ decimal task.cost ∷ codes "home" ∷ decimal home ∷ []) all) refl

-- the lines of all vCPUs
vcpus_good : (cores : ℕ) (names : List (List ℕ)) (tasks : List (Option Periodic)) (homes : List (Option ℕ))
    → cores ≤ MAX_CORES → ((v : ℕ) → v < length names → IsName (name_at names v))
    → are_housed cores tasks homes ≡ true → list_all is_line (vcpu_lines names tasks homes) ≡ true
vcpus_good cores [] tasks homes few good housed = refl
vcpus_good cores (name ∷ names) [] homes few good housed = refl
vcpus_good cores (name ∷ names) (task ∷ tasks) [] few good housed = refl
vcpus_good cores (name ∷ names) (task ∷ tasks) (home ∷ homes) few good housed =
    let parts = and_parts (is_housed cores task home) (are_housed cores tasks homes) housed in
    both_good (vcpu_part name task home) (vcpu_lines names tasks homes)
    (part_good cores name task home few (good 0 (omega arith)) parts.0)
    (vcpus_good cores names tasks homes few (λ v low. good (suc v) (omega arith)) parts.1)

-- the lines of a row
row_good : (names : List (List ℕ)) (tasks : List (Option Periodic)) (row : List Segment)
    → AreHostNames names → length names ≡ length tasks → All (IsFineSegment tasks) row
    → list_all is_line (map (segment_words names) row) ≡ true
row_good names tasks [] good many all = refl
row_good names tasks (s ∷ row) good many all =
    let fine = all 0 s (omega arith) in
    let small = fine.small in
    let owner = owner_is_word names s.owner
    (λ v is. good.good v (let below = task_within tasks v (fine.owned v is) in omega arith)) in
    let words : list_all is_word (segment_words names s) ≡ true =
    rw (decimal_word s.end (omega arith)) (rw owner refl) in
    rw (line_good (decimal s.end) (owner_word names s.owner ∷ []) words)
    (row_good names tasks row good many (All-tail (IsFineSegment tasks) s row all))

-- the lines of all cores
cores_good : (names : List (List ℕ)) (tasks : List (Option Periodic)) (core : ℕ) (rows : List (List Segment))
    → AreHostNames names → length names ≡ length tasks → core + length rows ≤ MAX_CORES
    → AreFineRows tasks rows
    → list_all is_line (core_lines (segment_words names) core rows) ≡ true
cores_good names tasks core [] good many few fine = refl
cores_good names tasks core (row ∷ rows) good many few fine =
    let words : list_all is_word (core_words core) ≡ true = rw (decimal_word core (omega arith)) refl in
    let first : list_all is_line (core_words core ∷ map (segment_words names) row) ≡ true =
    rw (line_good (codes "core") (decimal core ∷ []) words)
    (row_good names tasks row good many (fine 0 row (omega arith))) in
    both_good (core_words core ∷ map (segment_words names) row)
    (core_lines (segment_words names) (core + 1) rows)
    first
    (cores_good names tasks (core + 1) rows good many (omega arith)
    (All-tail (λ r. All (IsFineSegment tasks) r) row rows fine))

-- all lines
plan_good : (names : List (List ℕ)) (cores : ℕ) (tasks : List (Option Periodic)) (raw : RawTables)
    → AreHostNames names → length names ≡ length tasks → cores ≤ MAX_CORES → length tasks ≤ MAX_VCPUS
    → IsFine cores tasks raw
    → list_all is_line (plan_lines (segment_words names) names tasks raw.homes raw.rows) ≡ true
plan_good names cores tasks raw good many few few_tasks fine =
    let rows = fine.rows in
    let admitted = count_by-le-length is_admitted tasks in
    let vcpus = vcpu_lines names tasks raw.homes in
    let lines = core_lines (segment_words names) 0 raw.rows in
    let words : list_all is_word (head_words (length raw.rows) (count_by is_admitted tasks)) ≡ true =
    rw (decimal_word (length raw.rows) (omega arith))
    (rw (decimal_word (count_by is_admitted tasks) (omega arith)) refl) in
    rw (line_good (codes "plan") (codes "cores" ∷ decimal (length raw.rows) ∷ codes "vcpus"
    ∷ decimal (count_by is_admitted tasks) ∷ []) words)
    (both_good vcpus (lines ++ end_words ∷ [])
    (vcpus_good cores names tasks raw.homes few good.good fine.housed)
    (both_good lines (end_words ∷ [])
    (cores_good names tasks 0 raw.rows good many (omega arith) fine.segments) refl))

-- the text of such tables is one of the lines
pub text_of_tables : (names : List (List ℕ)) (cores : ℕ) (tasks : List (Option Periodic)) (raw : RawTables)
    → AreHostNames names → length names ≡ length tasks → cores ≤ MAX_CORES → length tasks ≤ MAX_VCPUS
    → IsFine cores tasks raw
    → worded (text_of (plan_lines (segment_words names) names tasks raw.homes raw.rows))
    ≡ plan_lines (segment_words names) names tasks raw.homes raw.rows
text_of_tables names cores tasks raw good many few few_tasks fine =
    text_read (plan_lines (segment_words names) names tasks raw.homes raw.rows)
    (plan_good names cores tasks raw good many few few_tasks fine)
