-- The lines of a plan lead from the first line of a text to its end.
use Rattle.std.proofs.Common.{cond, ◌≡◌, ℕ, ◌+◌, ◌-◌, ◌&&◌, ◌<◌, ◌≤◌, Bool, true, false, ltb, leb, eqb, List, [], ◌∷◌, ◌++◌, count_by, length, length-append, map, suc, Option, Some, None, refl, sym, ◌∙◌, subst, append_assoc, append-nil, arith}
use Rattle.std.proofs.lemmas.Bool.{and_parts, eq-eqb, le-leb, lt-ltb}
use Rattle.std.proofs.lemmas.List.Elements.{All-head, All-tail}
use Rattle.std.proofs.lemmas.List.Folds.{list_any-append}
use Rattle.std.proofs.lemmas.List.Sums.{sum_by-cons}
use Rattle.std.proofs.lemmas.Slice.Eq.{bytes_eq-Decides}
use Rattle.std.specs.List.{All}
use Rattle.std.specs.Option.{ForSome}
use Rattle.std.specs.Str.{bytes_eq}
use Rattle.tab_core.specs.declared.TheConstants.{MAX_VCPUS, ROUND}
use Rattle.tab_core.specs.declared.periodic.Periodic.{Periodic}
use Rattle.table_form.specs.Tables.Homes.{are_housed}
use Rattle.table_form.specs.Tables.Segments.{AreMaximal, SegmentView}
use Rattle.table_form.proofs.SegmentLemmas.{maximal_end}
use Rattle.vcpu_names.specs.Names.{name_at}
use Rattle.plan_text.specs.PlanLines.{is_admitted}
use Rattle.view_doc.specs.Grammar.{goes_on, is_known, names_behind}
use Rattle.view_doc.specs.Lines.{core, end, segment, task}
use Rattle.view_doc.specs.declared.place.Place.TheVariants.{Planned, Row, Tasks}
use Rattle.view_laws.specs.ShownPlans.{admitted_names, core_slots, cores_told, owner_holder, segment_told, slots_of, tasks_told}
use Rattle.view_laws.proofs.Leading.{Leads, front_at, goes, goes_on_by, goes_once, stays}

-- ---- the lines of vCPUs

-- none of these names is known
abbrev pub AreNew : List (List ℕ) → List (List ℕ) → Type 0
AreNew known names = (v : ℕ) → v < length names → is_known known (name_at names v) ≡ false

-- no two of these names are one
abbrev pub AreApart : List (List ℕ) → Type 0
AreApart names = (v w : ℕ) → v < length names → w < length names → name_at names v ≡ name_at names w → v ≡ w

-- names that differ are distinguished
differ : (a b : List ℕ) → (a ≡ b → ⊥) → bytes_eq a b ≡ false
differ a b other = by_test (bytes_eq a b) refl
  where
    by_test : (same : Bool) → bytes_eq a b ≡ same → bytes_eq a b ≡ false
    by_test false is = is
    by_test true is = absurd (other ((bytes_eq-Decides a b).0 is))

-- a name isn't known that none of two lists has
not_in_both : (known : List (List ℕ)) (one name : List ℕ) → is_known known name ≡ false
    → bytes_eq one name ≡ false → is_known (known ++ one ∷ []) name ≡ false
not_in_both known one name not_known other =
    list_any-append (λ (k : List ℕ). bytes_eq k name) known (one ∷ []) ∙ rw (not_known, other) refl

-- the names after the first aren't known with it
new_behind : (known : List (List ℕ)) (name : List ℕ) (names : List (List ℕ)) → AreNew known (name ∷ names)
    → AreApart (name ∷ names) → AreNew (known ++ name ∷ []) names
new_behind known name names new apart v low =
    not_in_both known name (name_at names v) (new (suc v) (omega arith))
    (differ name (name_at names v)
    (λ same. let place : 0 ≡ suc v = apart 0 (suc v) (omega arith) (omega arith) same in absurd (omega arith)))

-- fewer names are apart
apart_behind : (name : List ℕ) (names : List (List ℕ)) → AreApart (name ∷ names) → AreApart names
apart_behind name names apart v w low less same =
    let next : suc v ≡ suc w = apart (suc v) (suc w) (omega arith) (omega arith) same in omega arith

-- after a vCPU's line one less is left
task_place : (cores left count home : ℕ) → left ≡ count + 1 → ltb home cores ≡ true
    → goes_on (ltb 0 left && ltb home cores) (Tasks cores (left - 1)) ≡ Some (Tasks cores count)
task_place cores left count home many low =
    let some : ltb 0 left ≡ true = lt-ltb 0 left (omega arith) in
    let less : left - 1 ≡ count = omega arith in
    rw (some, low, less) refl

-- one line of a vCPU leads to the next
pub tasks_led : (cores : ℕ) (known names : List (List ℕ)) (tasks : List (Option Periodic))
    (homes : List (Option ℕ)) (ends : List ℕ) → length names ≡ length tasks
    → are_housed cores tasks homes ≡ true → AreNew known names → AreApart names
    → length known + length names ≤ MAX_VCPUS
    → Leads (front_at (Tasks cores (count_by is_admitted tasks)) known ends) (tasks_told names tasks homes)
    (front_at (Tasks cores 0) (known ++ admitted_names names tasks) ends) []
tasks_led cores known [] [] homes ends many housed new apart few =
    subst (λ ns. Leads (front_at (Tasks cores 0) known ends) [] (front_at (Tasks cores 0) ns ends) [])
    (sym (append-nil known)) (stays (front_at (Tasks cores 0) known ends))
tasks_led cores known [] (t ∷ tasks) homes ends many housed new apart few = absurd (omega arith)
tasks_led cores known (name ∷ names) [] homes ends many housed new apart few = absurd (omega arith)
tasks_led cores known (name ∷ names) (t ∷ tasks) [] ends many housed new apart few = absurd (cc)
tasks_led cores known (name ∷ names) (None ∷ tasks) (None ∷ homes) ends many housed new apart few =
    tasks_led cores known names tasks homes ends (omega arith) housed (λ v low. new (suc v) (omega arith))
    (apart_behind name names apart) (omega arith)
tasks_led cores known (name ∷ names) (None ∷ tasks) (Some home ∷ homes) ends many housed new apart few =
    absurd (cc)
tasks_led cores known (name ∷ names) (Some t ∷ tasks) (None ∷ homes) ends many housed new apart few =
    absurd (cc)
tasks_led cores known (name ∷ names) (Some t ∷ tasks) (Some home ∷ homes) ends many housed new apart few =
    let parts = and_parts (ltb home cores) (are_housed cores tasks homes) housed in
    let count = count_by is_admitted tasks in
    let left = count_by is_admitted (Some t ∷ tasks) in
    let more : left ≡ 1 + count = sum_by-cons (λ (x : Option Periodic). cond (is_admitted x) 1 0) (Some t)
    tasks in
    let front = front_at (Tasks cores left) known ends in
    let fresh : is_known known name ≡ false = new 0 (omega arith) in
    let room : ltb (length known) MAX_VCPUS ≡ true = lt-ltb (length known) MAX_VCPUS (omega arith) in
    let size : length (known ++ name ∷ []) ≡ length known + 1 = length-append known (name ∷ []) in
    let rest = tasks_led cores (known ++ name ∷ []) names tasks homes ends (omega arith) parts.1
    (new_behind known name names new apart) (apart_behind name names apart) (omega arith) in
    subst (λ ns. Leads front (task name t.period t.cost home ∷ tasks_told names tasks homes)
    (front_at (Tasks cores 0) ns ends) [])
    (append_assoc known (name ∷ []) (admitted_names names tasks))
    (goes front (task name t.period t.cost home) (tasks_told names tasks homes) (Tasks cores count)
    (known ++ name ∷ []) ends (front_at (Tasks cores 0) ((known ++ name ∷ []) ++ admitted_names names tasks)
    ends)
    [] (task_place cores left count home (omega arith) parts.0) (rw (fresh, room) refl) refl rest)

-- ---- the lines of rows

-- whoever owns a segment is known
abbrev pub HasKnownOwner : List (List ℕ) → List (List ℕ) → SegmentView → Type 0
HasKnownOwner known names s = ForSome s.owner (λ v. is_known known (name_at names v) ≡ true)

-- the segments of a row lead to its end
pub segments_led : (cores c from to : ℕ) (known names : List (List ℕ)) (ends : List ℕ)
    (ss : List SegmentView) → AreMaximal from ss to → to ≤ ROUND → All (HasKnownOwner known names) ss
    → Leads (front_at (Row cores c from) known ends) (map (segment_told names) ss)
    (front_at (Row cores c to) known ends) (core_slots names c from ss)
segments_led cores c from to known names ends [] maximal within owned =
    subst (λ (n : ℕ). Leads (front_at (Row cores c from) known ends) []
    (front_at (Row cores c n) known ends) [])
    maximal (stays (front_at (Row cores c from) known ends))
segments_led cores c from to known names ends (s ∷ ss) maximal within owned =
    let high : s.end ≤ ROUND = let last = maximal_end s.end ss to maximal.2 in omega arith in
    let above : ltb from s.end ≡ true = lt-ltb from s.end maximal.0 in
    let below : leb s.end ROUND ≡ true = le-leb s.end ROUND high in
    goes (front_at (Row cores c from) known ends) (segment_told names s) (map (segment_told names) ss)
    (Row cores c s.end) known ends (front_at (Row cores c to) known ends) (core_slots names c s.end ss)
    (rw (above, below) refl) (known_owner s.owner (All-head (HasKnownOwner known names) s ss owned)) refl
    (segments_led cores c s.end to known names ends ss maximal.2 within
    (All-tail (HasKnownOwner known names) s ss owned))
  where
    known_owner : (owner : Option ℕ) → ForSome owner (λ v. is_known known (name_at names v) ≡ true)
        → names_behind known (segment s.end (owner_holder names owner)) ≡ Some known
    known_owner None is = refl
    known_owner (Some v) is = rw (is v refl) refl

-- each row fills the round, and its owners are known
pub record IsGoodRow (known names : List (List ℕ)) (row : List SegmentView) : Type 0 where
  pub maximal : AreMaximal 0 row ROUND
  pub owned : All (HasKnownOwner known names) row

-- a core's rows and those after it lead to the end of the plan
pub rows_led : (cores c : ℕ) (known names : List (List ℕ)) (ends : List ℕ) (row : List SegmentView)
    (rows : List (List SegmentView)) → c + 1 + length rows ≡ cores → IsGoodRow known names row
    → All (IsGoodRow known names) rows
    → Leads (front_at (Row cores c 0) known ends)
    (map (segment_told names) row ++ (cores_told names (c + 1) rows ++ end ∷ []))
    (front_at Planned known ends) (core_slots names c 0 row ++ slots_of names (c + 1) rows)
rows_led cores c known names ends row [] many good all =
    let full : eqb ROUND ROUND ≡ true = refl in
    let last : eqb (c + 1) cores ≡ true = eq-eqb (c + 1) cores (omega arith) in
    goes_on_by (front_at (Row cores c 0) known ends) (map (segment_told names) row) (end ∷ [])
    (front_at (Row cores c ROUND) known ends) (front_at Planned known ends) (core_slots names c 0 row) []
    (segments_led cores c 0 ROUND known names ends row good.maximal (omega arith) good.owned)
    (goes_once (front_at (Row cores c ROUND) known ends) end Planned known ends (rw last refl) refl refl refl)
rows_led cores c known names ends row (next ∷ rows) many good all =
    let low : ltb (c + 1) cores ≡ true = lt-ltb (c + 1) cores (omega arith) in
    let same : eqb (c + 1) (c + 1) ≡ true = eq-eqb (c + 1) (c + 1) refl in
    let front = front_at (Row cores c ROUND) known ends in
    let behind = rows_led cores (c + 1) known names ends next rows (omega arith)
    (All-head (IsGoodRow known names) next rows all) (All-tail (IsGoodRow known names) next rows all) in
    let from_core : Leads front (core (c + 1) ∷ (map (segment_told names) next
    ++ (cores_told names (c + 1 + 1) rows ++ end ∷ []))) (front_at Planned known ends)
    (slots_of names (c + 1) (next ∷ rows)) =
    goes front (core (c + 1)) (map (segment_told names) next
    ++ (cores_told names (c + 1 + 1) rows ++ end ∷ []))
    (Row cores (c + 1) 0) known ends (front_at Planned known ends) (slots_of names (c + 1) (next ∷ rows))
    (rw (same, low) refl) refl refl behind in
    goes_on_by (front_at (Row cores c 0) known ends) (map (segment_told names) row)
    (cores_told names (c + 1) (next ∷ rows) ++ end ∷ [])
    front (front_at Planned known ends) (core_slots names c 0 row) (slots_of names (c + 1) (next ∷ rows))
    (segments_led cores c 0 ROUND known names ends row good.maximal (omega arith) good.owned)
    (subst (λ ts. Leads front (core (c + 1) ∷ ts) (front_at Planned known ends)
    (slots_of names (c + 1) (next ∷ rows)))
    (sym (append_assoc (map (segment_told names) next) (cores_told names (c + 1 + 1) rows) (end ∷ [])))
    from_core)
