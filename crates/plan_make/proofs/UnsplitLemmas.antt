-- The pieces of the vCPUs that are unsplit on a core.
use Rattle.std.proofs.Common.{◌≡◌, ℕ, zero, suc, ◌+◌, ◌*◌, ◌/◌, ◌<◌, ◌≤◌, cond, eqb, List, [], ◌∷◌, ◌++◌, slice_get, take, zip, map, sum_by, Option, None, Some, refl, ap, subst, sym, ◌∙◌, inl, inr, arith}
use Rattle.std.specs.List.{All}
use Rattle.std.proofs.lemmas.Bool.{cases_Bool, eqb-true}
use Rattle.std.proofs.lemmas.List.{append-nil, append_assoc, length-map, get_or-map}
use Rattle.std.proofs.lemmas.List.Elements.{All-append, All-cons, All-head, All-nil, All-tail, All-weaker}
use Rattle.std.proofs.lemmas.List.Sums.{sum_by-append, sum_by-cons}
use Rattle.tab_core.specs.declared.TheConstants.{ROUND}
use Rattle.tab_core.specs.declared.periodic.Periodic.{Periodic}
use Rattle.tab_core.specs.declared.piece.Piece.{Piece}
use Rattle.table_form.specs.Planning.Demand.{Fits}
use Rattle.table_form.specs.Planning.Jobs.{Subtask, jobs_of, subtask_of}
use Rattle.edf_table.specs.Load.{AreUnsplit, load_of_pieces}
use Rattle.edf_table.proofs.LoadLemmas.{unsplit_fits}
use Rattle.worst_fit.specs.Load.{is_on, load_on, task_demand}
use Rattle.worst_fit.proofs.LoadLemmas.{load_on-nil}
use Rattle.plan_make.specs.Unsplit.{unsplit, unsplit_at, unsplit_from}

-- one vCPU more

-- the step over one vCPU, at any first number, for the induction
unsplit_from-take_suc : (core first n : ℕ) (tasks : List (Option Periodic)) (homes : List (Option ℕ))
    (task : Option Periodic) (home : Option ℕ) →
    slice_get tasks n ≡ Some task → slice_get homes n ≡ Some home →
    unsplit_from core first (take (suc n) tasks) (take (suc n) homes)
    ≡ unsplit_from core first (take n tasks) (take n homes)
    ++ unsplit_at core (first + n) task home
unfolding unsplit_from
unsplit_from-take_suc core first zero [] homes task home at at' = absurd (cc)
unsplit_from-take_suc core first zero (t ∷ tasks) [] task home at at' = absurd (cc)
unsplit_from-take_suc core first zero (t ∷ tasks) (h ∷ homes) task home at at' =
    let same : t ≡ task = cc in
    let same' : h ≡ home = cc in
    let number : first ≡ first + 0 = omega arith in
    append-nil (unsplit_at core first t h) ∙ ap (λ v. unsplit_at core v t h) number
    ∙ ap (λ x. unsplit_at core (first + 0) x h) same
    ∙ ap (λ x. unsplit_at core (first + 0) task x) same'
unsplit_from-take_suc core first (suc n) [] homes task home at at' = absurd (cc)
unsplit_from-take_suc core first (suc n) (t ∷ tasks) [] task home at at' = absurd (cc)
unsplit_from-take_suc core first (suc n) (t ∷ tasks) (h ∷ homes) task home at at' =
    let number : (first + 1) + n ≡ first + suc n = omega arith in
    ap (λ ws. unsplit_at core first t h ++ ws)
    (unsplit_from-take_suc core (first + 1) n tasks homes task home at at')
    ∙ sym (append_assoc (unsplit_at core first t h)
    (unsplit_from core (first + 1) (take n tasks) (take n homes))
    (unsplit_at core ((first + 1) + n) task home))
    ∙ ap (λ v. (unsplit_at core first t h ++ unsplit_from core (first + 1) (take n tasks)
    (take n homes)) ++ unsplit_at core v task home) number

-- the loop's step: one vCPU more is one subtask more, or none
pub unsplit_from-take_more : (core n : ℕ) (tasks : List (Option Periodic)) (homes : List (Option ℕ))
    (task : Option Periodic) (home : Option ℕ) →
    slice_get tasks n ≡ Some task → slice_get homes n ≡ Some home →
    unsplit_from core 0 (take (n + 1) tasks) (take (n + 1) homes)
    ≡ unsplit_from core 0 (take n tasks) (take n homes) ++ unsplit_at core n task home
unsplit_from-take_more core n tasks homes task home at at' =
    let more : n + 1 ≡ suc n = omega arith in
    let number : 0 + n ≡ n = omega arith in
    ap (λ m. unsplit_from core 0 (take m tasks) (take m homes)) more
    ∙ unsplit_from-take_suc core 0 n tasks homes task home at at'
    ∙ ap (λ v. unsplit_from core 0 (take n tasks) (take n homes) ++ unsplit_at core v task home) number

-- before the first vCPU there is none
pub unsplit_from-none : (core : ℕ) → unsplit_from core 0 [] [] ≡ []
unfolding unsplit_from
unsplit_from-none core = refl

-- who is there

-- the subtask is all of a vCPU that is on the core
pub record IsUnsplitOn (core first : ℕ) (tasks : List (Option Periodic)) (homes : List (Option ℕ))
    (s : Subtask) : Type 0 where
  pub number : ℕ
  pub task : Periodic
  pub at : slice_get tasks number ≡ Some (Some task)
  pub home : slice_get homes number ≡ Some (Some core)
  pub is : s ≡ unsplit (first + number) task

-- of the first vCPU
first_is_unsplit : (core first : ℕ) (t : Option Periodic) (tasks : List (Option Periodic)) (h : Option ℕ)
    (homes : List (Option ℕ)) →
    All (IsUnsplitOn core first (t ∷ tasks) (h ∷ homes)) (unsplit_at core first t h)
first_is_unsplit core first None tasks h homes = All-nil (IsUnsplitOn core first (None ∷ tasks) (h ∷ homes))
first_is_unsplit core first (Some task) tasks None homes =
    All-nil (IsUnsplitOn core first (Some task ∷ tasks) (None ∷ homes))
first_is_unsplit core first (Some task) tasks (Some home) homes = elim (cases_Bool (eqb home core)) [
  | inl same ↦ (let number : first ≡ first + 0 = omega arith in
      let P = IsUnsplitOn core first (Some task ∷ tasks) (Some home ∷ homes) in
      rw same (All-cons P (unsplit first task) []
      (record {
        number = 0;
        task = task;
        at = refl;
        home = ap (λ c. Some (Some c)) (eqb-true home core same);
        is = ap (λ v. unsplit v task) number;
      }) (All-nil P)))
  | inr other ↦ rw other (All-nil (IsUnsplitOn core first (Some task ∷ tasks) (Some home ∷ homes)))
]

-- whatever is on the core is all of a vCPU whose home it is
pub all_unsplit_on : (core first : ℕ) (tasks : List (Option Periodic)) (homes : List (Option ℕ))
    → All (IsUnsplitOn core first tasks homes) (unsplit_from core first tasks homes)
unfolding unsplit_from
all_unsplit_on core first [] homes = All-nil (IsUnsplitOn core first [] homes)
all_unsplit_on core first (t ∷ tasks) [] = All-nil (IsUnsplitOn core first (t ∷ tasks) [])
all_unsplit_on core first (t ∷ tasks) (h ∷ homes) =
    All-append (IsUnsplitOn core first (t ∷ tasks) (h ∷ homes)) (unsplit_at core first t h)
    (unsplit_from core (first + 1) tasks homes)
    (first_is_unsplit core first t tasks h homes)
    (All-weaker (IsUnsplitOn core (first + 1) tasks homes) (IsUnsplitOn core first (t ∷ tasks) (h ∷ homes))
    (λ s w. let number : (first + 1) + w.number ≡ first + suc w.number = omega arith in
    record {
      number = suc w.number;
      task = w.task;
      at = w.at;
      home = w.home;
      is = w.is ∙ ap (λ v. unsplit v w.task) number;
    })
    (unsplit_from core (first + 1) tasks homes) (all_unsplit_on core (first + 1) tasks homes))

-- what holds of the images holds of the elements
pub All-from_map : {X Y : Type 0} (f : X → Y) (P : Y → Type 0) (xs : List X) → All P (map f xs)
    → All (λ x. P (f x)) xs
All-from_map f P xs all k d lt =
    subst P (get_or-map f xs k d (f d) lt)
    (all k (f d) (subst (λ n. k < n) (sym (length-map xs f)) lt))

-- their load

-- what a subtask takes of a round
abbrev ticks_of : Subtask → ℕ
ticks_of s = s.cost * (ROUND / s.period)

-- the load that makes pieces fit, by subtasks
load_of_subtasks : (ps : List Piece) → load_of_pieces ps ≡ sum_by ticks_of (map subtask_of ps)
load_of_subtasks [] = refl
load_of_subtasks (p ∷ ps) =
    let rest = load_of_subtasks ps in
    let more = sum_by-cons ticks_of (subtask_of p) (map subtask_of ps) in
    omega arith

-- what a vCPU adds to the load of a core, in the words of the placement
abbrev load_at : ℕ → Option Periodic → Option ℕ → ℕ
load_at core task home = cond (is_on core home) (task_demand task) 0

-- one vCPU takes of the core what the placement counts for it
load_of_unsplit : (core vcpu : ℕ) (task : Option Periodic) (home : Option ℕ)
    → sum_by ticks_of (unsplit_at core vcpu task home) ≡ load_at core task home
load_of_unsplit core vcpu None None = refl
load_of_unsplit core vcpu None (Some home) =
    elim (cases_Bool (eqb home core)) [ inl same ↦ rw same refl | inr other ↦ rw other refl ]
load_of_unsplit core vcpu (Some task) None = refl
load_of_unsplit core vcpu (Some task) (Some home) = elim (cases_Bool (eqb home core)) [
  | inl same ↦ rw same (omega (arith, sum_by-cons ticks_of (unsplit vcpu task) []))
  | inr other ↦ rw other refl
]

-- opens the placement's load by one vCPU
load_on-cons : (core : ℕ) (t : Option Periodic) (tasks : List (Option Periodic)) (h : Option ℕ)
    (homes : List (Option ℕ)) →
    load_on core (t ∷ tasks) (h ∷ homes) ≡ load_at core t h + load_on core tasks homes
unfolding load_on
load_on-cons core t tasks h homes =
    sum_by-cons (λ vcpu. cond (is_on core vcpu.1) (task_demand vcpu.0) 0) (t, h) (zip tasks homes)

-- vCPUs without a place add no load
load_on-unplaced : (core : ℕ) (tasks : List (Option Periodic)) → load_on core tasks [] ≡ 0
unfolding load_on
load_on-unplaced core [] = refl
load_on-unplaced core (t ∷ tasks) = refl

-- the pieces' load is the one that worst fit has kept within a round
load_of_all_unsplit : (core first : ℕ) (tasks : List (Option Periodic)) (homes : List (Option ℕ))
    → sum_by ticks_of (unsplit_from core first tasks homes) ≡ load_on core tasks homes
unfolding unsplit_from
load_of_all_unsplit core first [] homes = sym (load_on-nil core homes)
load_of_all_unsplit core first (t ∷ tasks) [] = sym (load_on-unplaced core (t ∷ tasks))
load_of_all_unsplit core first (t ∷ tasks) (h ∷ homes) =
    let rest = load_of_all_unsplit core (first + 1) tasks homes in
    let here = load_of_unsplit core first t h in
    let sum = sum_by-append ticks_of (unsplit_at core first t h)
    (unsplit_from core (first + 1) tasks homes) in
    let all = load_on-cons core t tasks h homes in
    omega arith

-- the first vCPUs take no more than all
load_on-take-le : (core n : ℕ) (tasks : List (Option Periodic)) (homes : List (Option ℕ))
    → load_on core (take n tasks) (take n homes) ≤ load_on core tasks homes
load_on-take-le core zero tasks homes = omega (arith, load_on-nil core [])
load_on-take-le core (suc n) [] homes = omega (arith, load_on-nil core (take (suc n) homes))
load_on-take-le core (suc n) (t ∷ tasks) [] = omega (arith, load_on-unplaced core (take (suc n) (t ∷ tasks)))
load_on-take-le core (suc n) (t ∷ tasks) (h ∷ homes) =
    let rest = load_on-take-le core n tasks homes in
    let some = load_on-cons core t (take n tasks) h (take n homes) in
    let all = load_on-cons core t tasks h homes in
    omega arith

-- the unsplit pieces of a core fit

-- the pieces fill their periods, and such pieces fit where their load does
all_whole : (ps : List Piece) → All (λ (s : Subtask). (s.from ≡ 0) × (s.to ≡ s.period)) (map subtask_of ps)
    → AreUnsplit ps
all_whole [] all = tt
all_whole (p ∷ ps) all =
    let P : Subtask → Type 0 = λ s. (s.from ≡ 0) × (s.to ≡ s.period) in
    let here = All-head P (subtask_of p) (map subtask_of ps) all in (
      record { begins = here.0; ends = here.1 },
      all_whole ps (All-tail P (subtask_of p) (map subtask_of ps) all),
    )

-- the unsplit pieces of the first vCPUs on a core fit where all of them take no more than a round
pub unsplit_fit : (core n : ℕ) (tasks : List (Option Periodic)) (homes : List (Option ℕ)) (ps : List Piece) →
    map subtask_of ps ≡ unsplit_from core 0 (take n tasks) (take n homes)
    → load_on core tasks homes ≤ ROUND → Fits (jobs_of ps)
unsplit_fit core n tasks homes ps stand light =
    let P : Subtask → Type 0 = λ s. (s.from ≡ 0) × (s.to ≡ s.period) in
    let on = all_unsplit_on core 0 (take n tasks) (take n homes) in
    let shapes = All-weaker (IsUnsplitOn core 0 (take n tasks) (take n homes)) P
    (λ s w. (
      ap (λ (x : Subtask). x.from) w.is,
      ap (λ (x : Subtask). x.to) w.is ∙ sym (ap (λ (x : Subtask). x.period) w.is),
    ))
    (unsplit_from core 0 (take n tasks) (take n homes)) on in
    let taken = load_of_subtasks ps ∙ ap (sum_by ticks_of) stand
    ∙ load_of_all_unsplit core 0 (take n tasks) (take n homes) in
    unsplit_fits ps (all_whole ps (subst (All P) (sym stand) shapes))
    (omega (arith, load_on-take-le core n tasks homes))
