-- The first line of a plan text, and the text as a whole.
use Rattle.std.proofs.Common.{◌≡◌, ◌≢◌, ◌⊎◌, inl, inr, ℕ, ◌+◌, ◌<◌, ◌≤◌, Bool, true, false, if◌then◌else◌, List, [], ◌∷◌, ◌++◌, length, map, get_or, count_by, Option, Result, Ok, Err, IfOk, refl, sym, ap, ◌∙◌, subst, arith, slice_get, Some}
use Rattle.std.proofs.lemmas.Bool.Decides.{nat_tests}
use Rattle.std.proofs.lemmas.List.{length-map}
use Rattle.std.proofs.lemmas.Option.{slice_get_cases}
use Rattle.std.specs.Bool.{◌==◌}
use Rattle.std.specs.List.{onto_first}
use Rattle.std.specs.Result.{IsErrOf}
use Rattle.tab_core.specs.declared.TheConstants.{MAX_CORES}
use Rattle.tab_core.specs.Name.{IsName}
use Rattle.tab_core.specs.Vcpus.{HaveDistinctNames}
use Rattle.tab_core.specs.declared.periodic.Periodic.{Periodic}
use Rattle.tab_core.specs.declared.vcpu.Vcpu.{Vcpu}
use Rattle.tab_words.specs.Lines.{lines_of, raw_lines_of, without_feed}
use Rattle.tab_words.specs.Words.{words_of}
use Rattle.tab_words.proofs.LineLemmas.{length-raw_lines_of, length-without_feed}
use Rattle.tab_words.proofs.WordLemmas.{words_of-last, words_of-nil, words_of-space}
use Rattle.tab_words.specs.Texts.{Line, worded}
use Rattle.table_form.specs.Tables.Homes.{are_housed}
use Rattle.table_form.specs.declared.raw_tables.RawTables.{RawTables}
use Rattle.table_form.specs.declared.segment.Segment.{Segment}
use Rattle.vcpu_names.specs.Names.{AreNames, name_at, names_of}
use Rattle.plan_text.specs.FirstBad.{BeginsText, IsFirstBadFor}
use Rattle.plan_text.specs.Names.{AreHostNames}
use Rattle.plan_text.specs.Meaning.{AreFineRows, AreLinesOf, IsSomePlan, segment_words}
use Rattle.plan_text.specs.PlanLines.{core_lines, end_words, head_words, is_admitted, vcpu_lines}
use Rattle.plan_text.specs.Inside.Reading.{AreFromVcpu}
use Rattle.plan_text.specs.declared.read_fault.ReadPlan.{ReadPlan}
use Rattle.plan_text.specs.declared.read_fault.ReadPlan.TheVariants.{BadLine, NoMemory}
use Rattle.plan_text.proofs.FirstBadLemmas.{bad_behind, first_is_bad, no_text, one_bad}
use Rattle.plan_text.proofs.OneMeaning.{one_meaning}
use Rattle.vcpu_names.proofs.NamesLemmas.{name_here}
use Rattle.plan_text.proofs.ReadingVcpuLemmas.{vcpus_begun}

-- ---- how many lines there are

-- a first line with its line feed and the lines after it are no more than the bytes
raw_first_and_rest : (bytes first : List ℕ) (rest : List (List ℕ)) → raw_lines_of bytes ≡ first ∷ rest
    → length first + length rest ≤ length bytes
unfolding raw_lines_of
raw_first_and_rest [] first rest is = absurd (cc)
raw_first_and_rest (byte ∷ bytes) first rest is =
    by_end (λ line lines at. raw_first_and_rest bytes line lines at) (byte == 10) is
  where
    onto : ((l : List ℕ) (ls : List (List ℕ)) → raw_lines_of bytes ≡ l ∷ ls → length l + length ls ≤ length bytes)
        → (lines : List (List ℕ)) → raw_lines_of bytes ≡ lines → onto_first byte lines ≡ first ∷ rest
        → length first + length rest ≤ length (byte ∷ bytes)
    onto all [] at is =
        let one : byte ∷ [] ≡ first = cc in
        let none : [] ≡ rest = cc in
        let size : 1 ≡ length first = ap length one in
        let no_size : 0 ≡ length rest = ap length none in
        omega arith
    onto all (line ∷ lines) at is =
        let more = all line lines at in
        let grown : byte ∷ line ≡ first = cc in
        let same : lines ≡ rest = cc in
        let size : length (byte ∷ line) ≡ length first = ap length grown in
        let same_size : length lines ≡ length rest = ap length same in
        omega arith

    by_end : ((l : List ℕ) (ls : List (List ℕ)) → raw_lines_of bytes ≡ l ∷ ls
        → length l + length ls ≤ length bytes)
        → (b : Bool)
        → (if b then (byte ∷ []) ∷ raw_lines_of bytes else onto_first byte (raw_lines_of bytes)) ≡ first ∷ rest
        → length first + length rest ≤ length (byte ∷ bytes)
    by_end all true is =
        let few = length-raw_lines_of bytes in
        let one : byte ∷ [] ≡ first = cc in
        let same : raw_lines_of bytes ≡ rest = cc in
        let size : 1 ≡ length first = ap length one in
        let same_size : length (raw_lines_of bytes) ≡ length rest = ap length same in
        omega arith
    by_end all false is = onto all (raw_lines_of bytes) refl is

-- there are fewer lines after the first than bytes
first_and_rest : (bytes first : List ℕ) (rest : List (List ℕ)) → lines_of bytes ≡ first ∷ rest
    → length first + length rest ≤ length bytes
unfolding lines_of
first_and_rest bytes first rest is = by_rows (raw_lines_of bytes) refl is
  where
    by_rows : (rows : List (List ℕ)) → raw_lines_of bytes ≡ rows → map without_feed rows ≡ first ∷ rest
        → length first + length rest ≤ length bytes
    by_rows [] at is = absurd (cc)
    by_rows (row ∷ rows) at is =
        let few = raw_first_and_rest bytes row rows at in
        let shorter = length-without_feed row in
        let text : without_feed row ≡ first = cc in
        let texts : map without_feed rows ≡ rest = cc in
        let size : length (without_feed row) ≡ length first = ap length text in
        let many : length (map without_feed rows) ≡ length rest = ap length texts in
        omega (arith, length-map rows without_feed)

-- a line of one byte has one word at most
one_byte : (byte : ℕ) (space : Bool) → (byte == 32) ≡ space → length (words_of (byte ∷ [])) ≤ 1
one_byte byte true is =
    let blank : byte ≡ 32 = grind (arith, nat_tests) in
    let none : words_of (byte ∷ []) ≡ [] =
    ap (λ b. words_of (b ∷ [])) blank ∙ words_of-space [] ∙ words_of-nil in
    let size : length (words_of (byte ∷ [])) ≡ 0 = ap length none in
    omega arith
one_byte byte false is =
    let other : byte ≢ 32 = grind (arith, nat_tests) in
    let one = words_of-last (byte ∷ []) (omega arith) (all_one other) in
    let size : length (words_of (byte ∷ [])) ≡ 1 = ap length one in
    omega arith
  where
    all_one : byte ≢ 32 → (k : ℕ) (d : ℕ) → k < 1 → get_or (byte ∷ []) k d ≢ 32
    all_one other k d low = let first : k ≡ 0 = omega arith in rw first other

-- a line of two words and more has two bytes
long_line : (line : List ℕ) → 2 ≤ length (words_of line) → 2 ≤ length line
long_line [] many = let none : length (words_of []) ≡ 0 = ap length words_of-nil in absurd (omega arith)
long_line (byte ∷ []) many = let few = one_byte byte (byte == 32) refl in absurd (omega arith)
long_line (byte ∷ next ∷ line) many = omega arith

-- the lines after a first one of several words
pub few_behind : (bytes first : List ℕ) (rest : List (List ℕ)) (cores admitted : ℕ)
    → lines_of bytes ≡ first ∷ rest
    → words_of first ≡ head_words cores admitted
    → length rest + 2 ≤ length bytes
few_behind bytes first rest cores admitted is words =
    let size = first_and_rest bytes first rest is in
    let five : length (words_of first) ≡ 5 = ap length words in
    let long = long_line first (omega arith) in
    omega arith

-- ---- the first line

-- the first line before the lines of vCPUs and cores
head_back : (names : List (List ℕ)) (tasks : List (Option Periodic)) (cores : ℕ) (lines : List Line)
    → AreFromVcpu names tasks cores 0 lines
    → IsSomePlan names cores tasks (head_words cores (count_by is_admitted tasks) ∷ lines)
head_back names tasks cores lines are =
    let rows = are.rows in
    let raw : RawTables = record { homes = are.homes; rows = rows.rows } in
    record {
      raw = raw;
      text = record {
        fine = record { housed = are.housed; rows = rows.many; segments = rows.fine };
        written =
            ap (λ n. head_words n (count_by is_admitted tasks) ∷ lines) (sym rows.many)
            ∙ ap (λ ls. head_words (length rows.rows) (count_by is_admitted tasks) ∷ ls)
            (are.written ∙ ap (λ ls. vcpu_lines names tasks are.homes ++ ls) rows.written);
      };
    }

-- what a text has after its first line
record HeadGoes (names : List (List ℕ)) (tasks : List (Option Periodic)) (cores : ℕ) (line : Line)
    (lines : List Line) : Type 0 where
  is_head : line ≡ head_words cores (count_by is_admitted tasks)
  more : AreFromVcpu names tasks cores 0 lines

-- a text begins with its first line
head_goes : (names : List (List ℕ)) (tasks : List (Option Periodic)) (cores : ℕ) (line : Line)
    (lines : List Line)
    → IsSomePlan names cores tasks (line ∷ lines) → HeadGoes names tasks cores line lines
head_goes names tasks cores line lines plan =
    let fine = plan.text.fine in
    let first : line ≡ head_words (length plan.raw.rows) (count_by is_admitted tasks) =
    let is = plan.text.written in
    cc in
    let rest : lines ≡ vcpu_lines names tasks plan.raw.homes
    ++ (core_lines (segment_words names) 0 plan.raw.rows
    ++ end_words ∷ []) = let is = plan.text.written in cc in
    record {
      is_head = first ∙ ap (λ n. head_words n (count_by is_admitted tasks)) fine.rows;
      more = record {
        homes = plan.raw.homes;
        housed = fine.housed;
        rest = core_lines (segment_words names) 0 plan.raw.rows ++ end_words ∷ [];
        rows = record { rows = plan.raw.rows; many = fine.rows; fine = fine.segments; written = refl };
        written = rest;
      };
    }

-- for each host some text is possible
plan_begun : (names : List (List ℕ)) (tasks : List (Option Periodic)) (cores : ℕ) → 0 < cores
    → BeginsText (IsSomePlan names cores tasks) []
plan_begun names tasks cores some =
    let begun = vcpus_begun names tasks cores 0 some in
    record {
      rest = head_words cores (count_by is_admitted tasks) ∷ begun.rest;
      text =
          head_back names tasks cores begun.rest begun.text;
    }

-- another first line is the first bad one
pub head_is_bad : (names : List (List ℕ)) (tasks : List (Option Periodic)) (cores : ℕ)
    (lines : List Line) → 0 < cores
    → ((rest : List Line) → lines ≡ head_words cores (count_by is_admitted tasks) ∷ rest → ⊥)
    → IsFirstBadFor (IsSomePlan names cores tasks) 1 lines 1
head_is_bad names tasks cores lines some other =
    first_is_bad (IsSomePlan names cores tasks) 1 lines (plan_begun names tasks cores some)
    (λ line back at rest plan. other back
    (at ∙ ap (λ l. l ∷ back) (head_goes names tasks cores line rest plan).is_head))
    (λ at plan. let is = plan.text.written in absurd (cc))

-- after the first line, a bad line of the rest is the text's
pub bad_behind_head : (names : List (List ℕ)) (tasks : List (Option Periodic)) (cores : ℕ)
    (lines rest : List Line)
    (bad : ℕ)
    → lines ≡ head_words cores (count_by is_admitted tasks) ∷ rest
    → IsFirstBadFor (AreFromVcpu names tasks cores 0) 2 rest bad
    → IsFirstBadFor (IsSomePlan names cores tasks) 1 lines bad
bad_behind_head names tasks cores lines rest bad is in_rest =
    rw is (bad_behind (IsSomePlan names cores tasks) (AreFromVcpu names tasks cores 0) 1
    (head_words cores (count_by is_admitted tasks)) rest bad
    (λ some are. head_back names tasks cores some are)
    (λ some plan. (head_goes names tasks cores
    (head_words cores (count_by is_admitted tasks)) some plan).more)
    in_rest)

-- ---- the whole

-- what the parts of the reader found is what the text stands for
pub whole_read : (names : List (List ℕ)) (tasks : List (Option Periodic)) (cores : ℕ)
    (lines rest behind : List Line)
    (homes : List (Option ℕ)) (rows : List (List Segment))
    → lines ≡ head_words cores (count_by is_admitted tasks) ∷ rest
    → rest ≡ vcpu_lines names tasks homes ++ behind
    → behind ≡ core_lines (segment_words names) 0 rows ++ end_words ∷ []
    → are_housed cores tasks homes ≡ true → length rows ≡ cores → AreFineRows tasks rows
    → AreLinesOf names cores tasks lines (record { homes = homes; rows = rows })
whole_read names tasks cores lines rest behind homes rows is vcpus cores_is housed many fine = record {
  fine = record { housed = housed; rows = many; segments = fine };
  written =
      is ∙ (ap (λ n. head_words n (count_by is_admitted tasks) ∷ rest) (sym many)
      ∙ ap (λ ls. head_words (length rows) (count_by is_admitted tasks) ∷ ls)
      (vcpus ∙ ap (λ ls. vcpu_lines names tasks homes ++ ls) cores_is));
}

-- a text with a bad line is the text of no tables
none_with_bad : (names : List (List ℕ)) (tasks : List (Option Periodic)) (cores : ℕ)
    (lines : List Line) (bad : ℕ)
    → IsFirstBadFor (IsSomePlan names cores tasks) 1 lines bad
    → (raw : RawTables) → AreLinesOf names cores tasks lines raw → ⊥
none_with_bad names tasks cores lines bad is raw text =
    no_text (IsSomePlan names cores tasks) 1 lines bad is (record { raw = raw; text = text })

-- what is read is what the text stands for
pub read_is_due : (names : List (List ℕ)) (tasks : List (Option Periodic)) (cores : ℕ) (lines : List Line)
    (result : Result RawTables ReadPlan) → length names ≡ length tasks → cores ≤ MAX_CORES
    → AreHostNames names
    → IfOk result (AreLinesOf names cores tasks lines)
    → ((bad : ℕ) → IsErrOf result (BadLine bad) → IsFirstBadFor (IsSomePlan names cores tasks) 1 lines bad)
    → (raw : RawTables) → AreLinesOf names cores tasks lines raw → (result ≡ Ok raw) ⊎ (result ≡ Err NoMemory)
read_is_due names tasks cores lines (Ok read) many few good ok bad raw text =
    inl (ap Ok (one_meaning names cores tasks lines read raw many few good ok text))
read_is_due names tasks cores lines (Err (BadLine line)) many few good ok bad raw text =
    absurd (none_with_bad names tasks cores lines line (bad line refl) raw text)
read_is_due names tasks cores lines (Err NoMemory) many few good ok bad raw text = inr refl

-- a text with a bad line is refused there
pub refusal_is_due : (names : List (List ℕ)) (tasks : List (Option Periodic)) (cores : ℕ) (lines : List Line)
    (result : Result RawTables ReadPlan)
    → IfOk result (AreLinesOf names cores tasks lines)
    → ((bad : ℕ) → IsErrOf result (BadLine bad) → IsFirstBadFor (IsSomePlan names cores tasks) 1 lines bad)
    → (line : ℕ) → IsFirstBadFor (IsSomePlan names cores tasks) 1 lines line
    → (result ≡ Err (BadLine line)) ⊎ (result ≡ Err NoMemory)
refusal_is_due names tasks cores lines (Ok read) ok bad line is =
    absurd (none_with_bad names tasks cores lines line is read ok)
refusal_is_due names tasks cores lines (Err (BadLine other)) ok bad line is =
    inl (ap (λ n. Err (BadLine n))
    (one_bad (IsSomePlan names cores tasks) 1 lines other line (bad other refl) is))
refusal_is_due names tasks cores lines (Err NoMemory) ok bad line is = inr refl

-- a bad line after the first one
pub bad_in_text : (names own : List (List ℕ)) (tasks these those : List (Option Periodic)) (cores number : ℕ)
    (bytes head : List ℕ) (rest : List (List ℕ)) (lines : List Line) (bad : ℕ)
    → own ≡ names → these ≡ tasks → those ≡ tasks → lines_of bytes ≡ head ∷ rest
    → words_of head ≡ head_words cores (count_by is_admitted those)
    → lines ≡ map words_of rest → number ≡ 2
    → IsFirstBadFor (AreFromVcpu own these cores 0) number lines bad
    → IsFirstBadFor (IsSomePlan names cores tasks) 1 (worded bytes) bad
bad_in_text names own tasks these those cores number bytes head rest lines bad same_names same_tasks
    also at words
    left two is =
    let whole : worded bytes ≡ head_words cores (count_by is_admitted tasks) ∷ lines =
    ap (map words_of) at ∙ (ap (λ l. l ∷ map words_of rest)
    (words ∙ ap (λ ts. head_words cores (count_by is_admitted ts)) also)
    ∙ ap (λ ls. head_words cores (count_by is_admitted tasks) ∷ ls) (sym left)) in
    bad_behind_head names tasks cores (worded bytes) lines bad whole
    (subst (λ n. IsFirstBadFor (AreFromVcpu names tasks cores 0) n lines bad) two
    (subst (λ ts. IsFirstBadFor (AreFromVcpu names ts cores 0) number lines bad) same_tasks
    (subst (λ ns. IsFirstBadFor (AreFromVcpu ns these cores 0) number lines bad) same_names is)))

-- the names of a host
pub host_names : (vcpus : List Vcpu) (names : List (List ℕ)) → names ≡ names_of vcpus → AreNames names
    → HaveDistinctNames vcpus → AreHostNames names
host_names vcpus names is good distinct = record {
  good = good;
  distinct = λ v w low low' same. elim ((slice_get_cases vcpus v).1) [
    | inl (a, in_v, at_v, is_a) ↦ elim ((slice_get_cases vcpus w).1) [
      | inl (b, in_w, at_w, is_b) ↦ distinct v w a b at_v at_w
          (sym (name_here vcpus v a in_v (sym is_a))
          ∙ (ap (λ ns. name_at ns v) (sym is)
          ∙ (same ∙ (ap (λ ns. name_at ns w) is ∙ name_here vcpus w b in_w (sym is_b)))))
      | inr (past, none) ↦ absurd (let size = length-map vcpus (λ (x : Vcpu). x.name) in
          let of_names : length names ≡ length (names_of vcpus) = ap length is in omega arith)
    ]
    | inr (past, none) ↦ absurd (let size = length-map vcpus (λ (x : Vcpu). x.name) in
        let of_names : length names ≡ length (names_of vcpus) = ap length is in omega arith)
  ];
}

-- the names of a host that was read, each of which is known to be a name
pub names_of_host : (vcpus : List Vcpu)
    → ((v : ℕ) (vcpu : Vcpu) → slice_get vcpus v ≡ Some vcpu → IsName vcpu.name) → HaveDistinctNames vcpus
    → AreHostNames (names_of vcpus)
names_of_host vcpus good = host_names vcpus (names_of vcpus) refl (λ v lt.
    elim ((slice_get_cases vcpus v).1) [
      | inl (vcpu, within, at, same) ↦ subst IsName (sym (name_here vcpus v vcpu within (sym same))) (good v vcpu at)
      | inr (past, none) ↦ absurd (let size = length-map vcpus (λ (x : Vcpu). x.name) in omega arith)
    ])
