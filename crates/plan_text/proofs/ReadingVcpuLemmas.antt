-- The lines of vCPUs, and what may follow them.
use Rattle.std.proofs.Common.{◌≡◌, ℕ, suc, nat_lt, ◌+◌, ◌<◌, ◌≤◌, true, List, [], ◌∷◌, ◌++◌, length, length-drop, drop, drop-cons, take, get_or, Option, Some, None, refl, sym, ap, ◌∙◌, subst, append_assoc, append-nil, add-one, arith}
use Rattle.std.proofs.lemmas.Bool.{and_parts}
use Rattle.std.proofs.lemmas.Bool.Decides.{nat_tests}
use Rattle.std.proofs.lemmas.List.{take_all, take_more}
use Rattle.tab_core.specs.declared.periodic.Periodic.{Periodic}
use Rattle.tab_words.specs.Texts.{Line}
use Rattle.table_form.specs.Tables.Homes.{are_housed, is_housed}
use Rattle.vcpu_names.specs.Names.{name_at}
use Rattle.plan_text.specs.FirstBad.{BeginsText, IsFirstBadFor}
use Rattle.plan_text.specs.PlanLines.{vcpu_lines, vcpu_part, vcpu_words}
use Rattle.plan_text.specs.Inside.Reading.{AreFromCore, AreFromVcpu, IsNoVcpu}
use Rattle.plan_text.proofs.FirstBadLemmas.{bad_behind, bad_of_both, first_is_bad}
use Rattle.plan_text.proofs.ReadingLemmas.{rows_begun}

-- the first n vCPUs' lines, and one more
pub vcpu_lines-last : (names : List (List ℕ)) (tasks : List (Option Periodic)) (homes : List (Option ℕ))
    (home : Option ℕ) (d : Option Periodic)
    → length homes < length names → length homes < length tasks
    → vcpu_lines names tasks (homes ++ home ∷ []) ≡ vcpu_lines names tasks homes ++ vcpu_part
    (name_at names (length homes)) (get_or tasks (length homes) d) home
vcpu_lines-last [] tasks homes home d named tasked = absurd (omega arith)
vcpu_lines-last (name ∷ names) [] homes home d named tasked = absurd (omega arith)
vcpu_lines-last (name ∷ names) (task ∷ tasks) [] home d named tasked = none names tasks
  where
    none : (names : List (List ℕ)) (tasks : List (Option Periodic))
        → vcpu_part name task home ++ vcpu_lines names tasks [] ≡ vcpu_part name task home
    none [] tasks = append-nil (vcpu_part name task home)
    none (next ∷ names) [] = append-nil (vcpu_part name task home)
    none (next ∷ names) (more ∷ tasks) = append-nil (vcpu_part name task home)
vcpu_lines-last (name ∷ names) (task ∷ tasks) (first ∷ homes) home d named tasked =
    ap (λ ls. vcpu_part name task first ++ ls)
    (vcpu_lines-last names tasks homes home d (omega arith) (omega arith))
    ∙ sym (append_assoc (vcpu_part name task first) (vcpu_lines names tasks homes)
    (vcpu_part (name_at names (length homes)) (get_or tasks (length homes) d) home))

-- the lemma below, for whole lists
housed_last : (cores : ℕ) (tasks : List (Option Periodic)) (homes : List (Option ℕ)) (task : Option Periodic)
    (home : Option ℕ)
    → are_housed cores tasks homes ≡ true → is_housed cores task home ≡ true
    → are_housed cores (tasks ++ task ∷ []) (homes ++ home ∷ []) ≡ true
housed_last cores [] [] task home all is = rw is refl
housed_last cores [] (first ∷ homes) task home all is = absurd (cc)
housed_last cores (start ∷ tasks) [] task home all is = absurd (cc)
housed_last cores (start ∷ tasks) (first ∷ homes) task home all is =
    let parts = and_parts (is_housed cores start first) (are_housed cores tasks homes) all in
    rw parts.0 (housed_last cores tasks homes task home parts.1 is)

-- the loop's step: one home more is where its task allows it
pub housed_more : (cores : ℕ) (tasks : List (Option Periodic)) (v : ℕ) (d : Option Periodic)
    (homes : List (Option ℕ)) (home : Option ℕ) → v < length tasks
    → are_housed cores (take v tasks) homes ≡ true → is_housed cores (get_or tasks v d) home ≡ true
    → are_housed cores (take (v + 1) tasks) (homes ++ home ∷ []) ≡ true
housed_more cores tasks v d homes home low all is =
    subst (λ ts. are_housed cores ts (homes ++ home ∷ []) ≡ true) (sym (take_more tasks v d low))
    (housed_last cores (take v tasks) homes (get_or tasks v d) home all is)

-- ---- what may follow

-- a home for each task
abbrev some_homes : List (Option Periodic) → List (Option ℕ)
some_homes [] = []
some_homes (None ∷ tasks) = None ∷ some_homes tasks
some_homes (Some task ∷ tasks) = Some 0 ∷ some_homes tasks

-- such homes are allowed, since there is a core
some_housed : (cores : ℕ) (tasks : List (Option Periodic)) → 0 < cores
    → are_housed cores tasks (some_homes tasks) ≡ true
some_housed cores [] some = refl
some_housed cores (None ∷ tasks) some = some_housed cores tasks some
some_housed cores (Some task ∷ tasks) some =
    let low : nat_lt 0 cores ≡ true = grind (arith, nat_tests) in rw low (some_housed cores tasks some)

-- with some vCPUs read some text is still possible
pub vcpus_begun : (names : List (List ℕ)) (tasks : List (Option Periodic)) (cores v : ℕ) → 0 < cores
    → BeginsText (AreFromVcpu names tasks cores v) []
vcpus_begun names tasks cores v some =
    let rows = rows_begun names tasks 0 cores in
    let homes = some_homes (drop v tasks) in
    record {
      rest = vcpu_lines (drop v names) (drop v tasks) homes ++ rows.rest;
      text = record {
        homes = homes;
        housed = some_housed cores (drop v tasks) some;
        rest = rows.rest;
        rows =
            rows.text;
        written = refl;
      };
    }

-- the vCPUs from v on, of which the first has this name and task
abbrev pub FirstIs : List (List ℕ) → List (Option Periodic) → ℕ → List ℕ → Option Periodic → Type 0
FirstIs names tasks v name task =
    (drop v names ≡ name ∷ drop (v + 1) names) × (drop v tasks ≡ task ∷ drop (v + 1) tasks)

-- the name and the task that a loop reads are the first of those that are left
pub first_is : (names : List (List ℕ)) (tasks : List (Option Periodic)) (v : ℕ) (name : List ℕ)
    (task : Option Periodic)
    → v < length names → v < length tasks
    → name_at names v ≡ name → get_or tasks v task ≡ task → FirstIs names tasks v name task
first_is names tasks v name task named tasked is_name is_task = (
  drop-cons names v [] named ∙ (ap (λ n. n ∷ drop (suc v) names) is_name
      ∙ ap (λ k. name ∷ drop k names) (sym (add-one v))),
  drop-cons tasks v task tasked ∙ (ap (λ t. t ∷ drop (suc v) tasks) is_task
      ∙ ap (λ k. task ∷ drop k tasks) (sym (add-one v))),
)

-- a vCPU's line before those of the next
vcpus_back : (names : List (List ℕ)) (tasks : List (Option Periodic)) (cores v : ℕ) (name : List ℕ)
    (task : Option Periodic) (home : Option ℕ) (lines : List Line)
    → FirstIs names tasks v name task → is_housed cores task home ≡ true
    → AreFromVcpu names tasks cores (v + 1) lines
    → AreFromVcpu names tasks cores v (vcpu_part name task home ++ lines)
vcpus_back names tasks cores v name task home lines first is are = record {
  homes = home ∷ are.homes;
  housed = rw first.1 (rw is are.housed);
  rest = are.rest;
  rows = are.rows;
  written = rw first.0 (rw first.1 (ap (λ ls. vcpu_part name task home ++ ls) are.written
      ∙ sym (append_assoc (vcpu_part name task home)
      (vcpu_lines (drop (v + 1) names) (drop (v + 1) tasks) are.homes) are.rest)));
}

-- what texts that go on so have for the first vCPU
pub record VcpusGo (names : List (List ℕ)) (tasks : List (Option Periodic)) (cores v : ℕ) (name : List ℕ)
    (task : Option Periodic) (lines : List Line) : Type 0 where
  pub home : Option ℕ
  pub housed : is_housed cores task home ≡ true
  pub rest : List Line
  pub more : AreFromVcpu names tasks cores (v + 1) rest
  pub written : lines ≡ vcpu_part name task home ++ rest

-- the lemma below, by the homes of the text
go_parts : (names : List (List ℕ)) (tasks : List (Option Periodic)) (cores v : ℕ) (name : List ℕ)
    (task : Option Periodic) (lines : List Line) (homes : List (Option ℕ)) (rest : List Line)
    → are_housed cores (task ∷ drop (v + 1) tasks) homes ≡ true → AreFromCore names tasks 0 cores rest
    → lines ≡ vcpu_lines (name ∷ drop (v + 1) names) (task ∷ drop (v + 1) tasks) homes ++ rest
    → VcpusGo names tasks cores v name task lines
go_parts names tasks cores v name task lines [] rest housed rows written = absurd (cc)
go_parts names tasks cores v name task lines (home ∷ homes) rest housed rows written =
    let parts = and_parts (is_housed cores task home) (are_housed cores (drop (v + 1) tasks) homes) housed in
    record {
      home = home;
      housed = parts.0;
      rest = vcpu_lines (drop (v + 1) names) (drop (v + 1) tasks) homes ++ rest;
      more = record { homes = homes; housed = parts.1; rest = rest; rows = rows; written = refl };
      written = written ∙ append_assoc (vcpu_part name task home)
          (vcpu_lines (drop (v + 1) names) (drop (v + 1) tasks) homes) rest;
    }

-- where a vCPU is due, the text begins with its line
vcpus_go : (names : List (List ℕ)) (tasks : List (Option Periodic)) (cores v : ℕ) (name : List ℕ)
    (task : Option Periodic) (lines : List Line)
    → FirstIs names tasks v name task → AreFromVcpu names tasks cores v lines
    → VcpusGo names tasks cores v name task lines
vcpus_go names tasks cores v name task lines first are =
    go_parts names tasks cores v name task lines are.homes are.rest (rw (← first.1) are.housed) are.rows
    (rw (← first.0) (rw (← first.1) are.written))

-- a vCPU without a task has no line
idle_goes : (names : List (List ℕ)) (tasks : List (Option Periodic)) (cores v : ℕ) (name : List ℕ)
    (lines : List Line)
    → VcpusGo names tasks cores v name None lines → AreFromVcpu names tasks cores (v + 1) lines
idle_goes names tasks cores v name lines go =
    subst (AreFromVcpu names tasks cores (v + 1)) (sym go.written) go.more

-- a line that a text has for a vCPU gives it a home below the count of cores
with_home : (names : List (List ℕ)) (tasks : List (Option Periodic)) (cores v : ℕ) (name : List ℕ)
    (task : Periodic)
    (line : Line) (lines : List Line) (home : Option ℕ) (rest : List Line)
    → is_housed cores (Some task) home ≡ true → AreFromVcpu names tasks cores (v + 1) rest
    → line ∷ lines ≡ vcpu_part name (Some task) home ++ rest
    → (core : ℕ) × (core < cores) × (line ≡ vcpu_words name task core)
    × AreFromVcpu names tasks cores (v + 1) lines
with_home names tasks cores v name task line lines None rest housed more written = absurd (cc)
with_home names tasks cores v name task line lines (Some core) rest housed more written =
    let same : rest ≡ lines = cc in
    (core, grind (arith, nat_tests), cc, subst (AreFromVcpu names tasks cores (v + 1)) same more)

-- after the line of one vCPU, if it has one
pub bad_behind_vcpu : (names : List (List ℕ)) (tasks : List (Option Periodic)) (cores v first number : ℕ)
    (name : List ℕ) (task : Option Periodic) (home : Option ℕ) (lines rest : List Line) (bad : ℕ)
    → v < length names → v < length tasks → name_at names v ≡ name → get_or tasks v task ≡ task
    → is_housed cores task home ≡ true
    → lines ≡ vcpu_part name task home ++ rest → number ≡ first + length (vcpu_part name task home)
    → IsFirstBadFor (AreFromVcpu names tasks cores (v + 1)) number rest bad
    → IsFirstBadFor (AreFromVcpu names tasks cores v) first lines bad
bad_behind_vcpu names tasks cores v first number name None home lines rest bad named tasked is_name
    is_task housed
    written count is =
    let parts = first_is names tasks v name None named tasked is_name is_task in
    rw written (bad_of_both (AreFromVcpu names tasks cores v)
    (AreFromVcpu names tasks cores (v + 1)) first rest bad
    (λ some are. vcpus_back names tasks cores v name None home some parts housed are)
    (λ line back more at are. idle_goes names tasks cores v name (line ∷ more)
    (vcpus_go names tasks cores v name None (line ∷ more) parts are))
    (λ at are. idle_goes names tasks cores v name [] (vcpus_go names tasks cores v name None [] parts are))
    (subst (λ n. IsFirstBadFor (AreFromVcpu names tasks cores (v + 1)) n rest bad) (omega arith) is))
bad_behind_vcpu names tasks cores v first number name
    (Some task) None lines rest bad named tasked is_name is_task housed written count is = absurd (cc)
bad_behind_vcpu names tasks cores v first number name (Some task)
    (Some core) lines rest bad named tasked is_name is_task housed written count is =
    let parts = first_is names tasks v name (Some task) named tasked is_name is_task in
    rw written (bad_behind (AreFromVcpu names tasks cores v) (AreFromVcpu names tasks cores (v + 1)) first
    (vcpu_words name task core) rest bad
    (λ some are. vcpus_back names tasks cores v name (Some task) (Some core) some parts housed are)
    (λ some are.
    let go = vcpus_go names tasks cores v name (Some task) (vcpu_words name task core ∷ some) parts are in
    (with_home names tasks cores v name task
    (vcpu_words name task core) some go.home go.rest go.housed go.more go.written).3)
    (subst (λ n. IsFirstBadFor (AreFromVcpu names tasks cores (v + 1)) n rest bad) (omega arith) is))

-- without such a line no text goes on
no_such_line : (names : List (List ℕ)) (tasks : List (Option Periodic)) (cores v : ℕ) (name : List ℕ)
    (task : Periodic) (lines : List Line)
    → IsNoVcpu name (Some task) cores lines → VcpusGo names tasks cores v name (Some task) lines → ⊥
no_such_line names tasks cores v name task lines none go = of_home go.home go.housed go.written
  where
    of_home : (home : Option ℕ) → is_housed cores (Some task) home ≡ true
        → lines ≡ vcpu_part name (Some task) home ++ go.rest → ⊥
    of_home None housed written = absurd (cc)
    of_home (Some core) housed written = none core (grind (arith, nat_tests)) go.rest written

-- the line isn't that of the vCPU
pub vcpu_is_bad : (names : List (List ℕ)) (tasks : List (Option Periodic)) (cores v first : ℕ) (name : List ℕ)
    (task : Option Periodic) (lines : List Line)
    → 0 < cores → v < length names → v < length tasks → name_at names v ≡ name → get_or tasks v task ≡ task
    → IsNoVcpu name task cores lines → IsFirstBadFor (AreFromVcpu names tasks cores v) first lines first
vcpu_is_bad names tasks cores v first name None lines some named tasked is_name is_task none = absurd none
vcpu_is_bad names tasks cores v first name (Some task) lines some named tasked is_name is_task none =
    let parts = first_is names tasks v name (Some task) named tasked is_name is_task in
    let never : (more : List Line) → IsNoVcpu name (Some task) cores more
    → AreFromVcpu names tasks cores v more → ⊥ =
    λ more other are. no_such_line names tasks cores v name task more other
    (vcpus_go names tasks cores v name (Some task) more parts are) in
    first_is_bad (AreFromVcpu names tasks cores v) first lines (vcpus_begun names tasks cores v some)
    (λ line back at rest are. never (line ∷ rest)
    (λ home low back' is. none home low back
    (at ∙ (let l : line ≡ vcpu_words name task home = cc in ap (λ l. l ∷ back) l))) are)
    (λ at are. never [] (λ home low back' is. absurd (cc)) are)

-- after the last vCPU there are the cores
pub bad_behind_vcpus : (names : List (List ℕ)) (tasks : List (Option Periodic)) (cores v first : ℕ)
    (lines : List Line) (bad : ℕ) → v ≡ length tasks
    → IsFirstBadFor (AreFromCore names tasks 0 cores) first lines bad
    → IsFirstBadFor (AreFromVcpu names tasks cores v) first lines bad
bad_behind_vcpus names tasks cores v first lines bad end is =
    bad_of_both (AreFromVcpu names tasks cores v) (AreFromCore names tasks 0 cores) first lines bad
    (λ some rows. record {
      homes = [];
      housed = rw none refl;
      rest = some;
      rows = rows;
      written =
          rw none (sym (ap (λ ls. ls ++ some) (no_lines (drop v names))));
    })
    (λ line rest more at are. only_rows (line ∷ more) are)
    (λ at are. only_rows [] are)
    is
  where
    nothing : (ts : List (Option Periodic)) → length ts ≡ 0 → ts ≡ []
    nothing [] size = refl
    nothing (t ∷ ts) size = absurd (omega arith)

    none : drop v tasks ≡ []
    none = let size = length-drop v tasks in nothing (drop v tasks) (omega arith)

    no_lines : (ns : List (List ℕ)) → vcpu_lines ns [] [] ≡ []
    no_lines [] = refl
    no_lines (n ∷ ns) = refl

    no_homes : (ns : List (List ℕ)) (homes : List (Option ℕ)) → vcpu_lines ns [] homes ≡ []
    no_homes [] homes = refl
    no_homes (n ∷ ns) homes = refl

    only_rows : (some : List Line) → AreFromVcpu names tasks cores v some
        → AreFromCore names tasks 0 cores some
    only_rows some are = subst (AreFromCore names tasks 0 cores)
        (sym (are.written ∙ (ap (λ ts. vcpu_lines (drop v names) ts are.homes ++ are.rest) none
        ∙ ap (λ ls. ls ++ are.rest) (no_homes (drop v names) are.homes)))) are.rows

-- before the first vCPU no line is read
pub no_vcpus_yet : (names : List (List ℕ)) (tasks : List (Option Periodic)) (lines : List Line)
    → lines ≡ vcpu_lines names tasks [] ++ lines
no_vcpus_yet [] tasks lines = refl
no_vcpus_yet (name ∷ names) [] lines = refl
no_vcpus_yet (name ∷ names) (task ∷ tasks) lines = refl

-- the loop's step: the lines so far are those of one vCPU more
pub lines_more : (names : List (List ℕ)) (tasks : List (Option Periodic)) (v : ℕ) (homes : List (Option ℕ))
    (home : Option ℕ) (name : List ℕ) (task : Option Periodic) (all left rest : List Line)
    → length homes ≡ v → v < length names → v < length tasks → name_at names v ≡ name
    → get_or tasks v task ≡ task
    → all ≡ vcpu_lines names tasks homes ++ left → left ≡ vcpu_part name task home ++ rest
    → all ≡ vcpu_lines names tasks (homes ++ home ∷ []) ++ rest
lines_more names tasks v homes home name task all left rest many named tasked is_name is_task before here =
    let part : vcpu_part (name_at names (length homes)) (get_or tasks (length homes) task) home
    ≡ vcpu_part name task home =
    rw many (rw is_name (rw is_task refl)) in
    before ∙ (ap (λ ls. vcpu_lines names tasks homes ++ ls) here
    ∙ (sym (append_assoc (vcpu_lines names tasks homes) (vcpu_part name task home) rest)
    ∙ ap (λ ls. ls ++ rest) (sym (vcpu_lines-last names tasks homes home task (omega arith) (omega arith)
    ∙ ap (λ ls. vcpu_lines names tasks homes ++ ls) part))))

-- after the last vCPU all homes are where their tasks allow
pub housed_whole : (cores : ℕ) (tasks : List (Option Periodic)) (v : ℕ) (homes : List (Option ℕ))
    → length tasks ≤ v
    → are_housed cores (take v tasks) homes ≡ true → are_housed cores tasks homes ≡ true
housed_whole cores tasks v homes past is =
    subst (λ ts. are_housed cores ts homes ≡ true) (take_all v tasks past) is
