-- The vCPUs that are unsplit have their pieces.
use Rattle.std.proofs.Common.{◌≡◌, ℕ, zero, suc, ◌+◌, ◌<◌, ◌≤◌, true, cond, eqb, List, [], ◌∷◌, length, get_or, set, slice_get, map, sum_by, Option, Some, None, refl, ap, subst, sym, ◌∙◌, inl, inr, arith, length-set, get_or-set_same, get_or-set_other}
use Rattle.std.specs.List.{All}
use Rattle.std.proofs.lemmas.Bool.{cases_Bool, cases_eq, cases_lt, eq-eqb, ne_eqb}
use Rattle.std.proofs.lemmas.List.{get_or_past}
use Rattle.std.proofs.lemmas.List.Elements.{All-from_get_or, All-weaker}
use Rattle.std.proofs.lemmas.List.Sums.{sum_by-append, sum_by-cons, sum_by-le, sum_by-set}
use Rattle.tab_core.specs.declared.periodic.Periodic.{Periodic}
use Rattle.tab_core.specs.declared.piece.Piece.{Piece}
use Rattle.table_form.specs.Planning.Jobs.{Subtask, subtask_of}
use Rattle.worst_fit.specs.Placement.{IsAdmitted, PlacesEach}
use Rattle.worst_fit.specs.declared.placed.Placed.{Placed}
use Rattle.cd_split.specs.Cores.{LackVcpu, pieces_on}
use Rattle.cd_split.specs.declared.fault.SplitFault.{SplitFault}
use Rattle.table_form.specs.Planning.Drafts.{cost_on}
use Rattle.plan_make.specs.Inside.Allotted.{AreAllottedTo, AreLaidOut, has_piece}
use Rattle.plan_make.specs.Inside.Splits.{IsStuckFault}
use Rattle.plan_make.specs.Unsplit.{StandUnsplit, unsplit, unsplit_at, unsplit_from}
use Rattle.table_form.proofs.Supplies.{cost_on-cons, cost_on-nil}
use Rattle.plan_make.proofs.ListMembers.{all_at, all_from_places}
use Rattle.plan_make.proofs.SharesLemmas.{cost_on_none}
use Rattle.plan_make.proofs.UnsplitLemmas.{All-from_map, IsUnsplitOn, all_unsplit_on}

-- a piece on a core is all of a vCPU whose home is the core
unsplit_on : (tasks : List (Option Periodic)) (homes : List (Option ℕ)) (count : ℕ)
    (cores : List (List Piece))
    → StandUnsplit tasks homes count cores → (core i : ℕ) (p : Piece) →
    slice_get (pieces_on cores core) i ≡ Some p → IsUnsplitOn core 0 tasks homes (subtask_of p)
unsplit_on tasks homes count cores stand core i p at = elim (cases_lt core count) [
  | inl lt ↦ all_at (λ (q : Piece). IsUnsplitOn core 0 tasks homes (subtask_of q)) (pieces_on cores core) i p
      (All-from_map subtask_of (IsUnsplitOn core 0 tasks homes) (pieces_on cores core)
      (subst (All (IsUnsplitOn core 0 tasks homes)) (sym (stand.stand core lt))
      (all_unsplit_on core 0 tasks homes))) at
  | inr past ↦ (let past' : length cores ≤ core = subst (λ n. n ≤ core) (sym stand.size) past in
      let nothing = ap (λ ps. slice_get ps i) (sym (get_or_past cores core [] past')) ∙ at in absurd (cc))
]

-- the vCPU of the piece has this number
number_is : (core : ℕ) (tasks : List (Option Periodic)) (homes : List (Option ℕ)) (p : Piece)
    (w : IsUnsplitOn core 0 tasks homes (subtask_of p))
    → p.vcpu ≡ w.number
number_is core tasks homes p w = let e = ap (λ (s : Subtask). s.vcpu) w.is in omega arith

-- its home is the core on which it is
home_is : (core : ℕ) (tasks : List (Option Periodic)) (homes : List (Option ℕ)) (p : Piece)
    → IsUnsplitOn core 0 tasks homes (subtask_of p) → slice_get homes p.vcpu ≡ Some (Some core)
home_is core tasks homes p w = ap (slice_get homes) (number_is core tasks homes p w) ∙ w.home

-- what a vCPU gets where it is unsplit

-- what a subtask gives the vCPU
abbrev cost_of : ℕ → Subtask → ℕ
cost_of vcpu s = cond (eqb s.vcpu vcpu) s.cost 0

-- what a core gives the vCPU, by subtasks, in which the start is defined
cost_on_subtasks : (vcpu : ℕ) (ps : List Piece) → cost_on vcpu ps ≡ sum_by (cost_of vcpu) (map subtask_of ps)
unfolding cost_on
cost_on_subtasks vcpu [] = refl
cost_on_subtasks vcpu (p ∷ ps) =
    let rest = cost_on_subtasks vcpu ps in
    let one = sum_by-cons (λ (q : Piece). cond (eqb q.vcpu vcpu) q.cost 0) p ps in
    let other = sum_by-cons (cost_of vcpu) (subtask_of p) (map subtask_of ps) in
    omega arith

-- others' subtasks give it nothing
no_cost : (vcpu : ℕ) (ss : List Subtask) → All (λ s. s.vcpu ≡ vcpu → ⊥) ss → sum_by (cost_of vcpu) ss ≡ 0
no_cost vcpu ss none =
    let zero_sum = sum_by-le (cost_of vcpu) 0 ss
    (λ k d lt. rw (ne_eqb (get_or ss k d).vcpu vcpu (none k d lt)) (omega arith)) in
    omega arith

-- subtasks of higher numbers give the vCPU nothing
later_cost : (core first vcpu : ℕ) (tasks : List (Option Periodic)) (homes : List (Option ℕ)) → vcpu < first
    → sum_by (cost_of vcpu) (unsplit_from core first tasks homes) ≡ 0
later_cost core first vcpu tasks homes lt = no_cost vcpu (unsplit_from core first tasks homes)
    (All-weaker (IsUnsplitOn core first tasks homes) (λ s. s.vcpu ≡ vcpu → ⊥)
    (λ s w same. (let e = ap (λ (x : Subtask). x.vcpu) w.is in absurd (omega arith)))
    (unsplit_from core first tasks homes) (all_unsplit_on core first tasks homes))

-- the cost of one vCPU, of itself and of another
own_cost : (core vcpu : ℕ) (task : Periodic) (home : ℕ)
    → sum_by (cost_of vcpu) (unsplit_at core vcpu (Some task) (Some home)) ≡ cond (eqb home core) task.cost 0
own_cost core vcpu task home = elim (cases_Bool (eqb home core)) [
  | inl same ↦ rw same (sum_by-cons (cost_of vcpu) (unsplit vcpu task) []
      ∙ rw (eq-eqb vcpu vcpu refl) (omega arith))
  | inr not ↦ rw not refl
]

-- another vCPU's own subtasks give the vCPU nothing
other_cost : (core vcpu other : ℕ) (task : Option Periodic) (home : Option ℕ) → (other ≡ vcpu → ⊥)
    → sum_by (cost_of vcpu) (unsplit_at core other task home) ≡ 0
other_cost core vcpu other None home ne = refl
other_cost core vcpu other (Some task) None ne = refl
other_cost core vcpu other (Some task) (Some home) ne = elim (cases_Bool (eqb home core)) [
  | inl same ↦ rw same (sum_by-cons (cost_of vcpu) (unsplit other task) [] ∙ rw (ne_eqb other vcpu ne) refl)
  | inr not ↦ rw not refl
]

-- a core gives an unsplit vCPU its cost or nothing
cost_of_all_unsplit : (core first n : ℕ) (tasks : List (Option Periodic)) (homes : List (Option ℕ))
    (task : Periodic)
    (home : ℕ)
    → slice_get tasks n ≡ Some (Some task) → slice_get homes n ≡ Some (Some home) →
    sum_by (cost_of (first + n)) (unsplit_from core first tasks homes) ≡ cond (eqb home core) task.cost 0
unfolding unsplit_from
cost_of_all_unsplit core first n [] homes task home at at' = absurd (cc)
cost_of_all_unsplit core first n (t ∷ tasks) [] task home at at' = absurd (cc)
cost_of_all_unsplit core first zero (t ∷ tasks) (h ∷ homes) task home at at' =
    let number : first + 0 ≡ first = omega arith in
    let all = sum_by-append (cost_of first) (unsplit_at core first t h)
    (unsplit_from core (first + 1) tasks homes) in
    let rest = later_cost core (first + 1) first tasks homes (omega arith) in
    let t_is : t ≡ Some task = cc in
    let h_is : h ≡ Some home = cc in
    let here = ap (λ x. sum_by (cost_of first) (unsplit_at core first x h)) t_is
    ∙ ap (λ x. sum_by (cost_of first) (unsplit_at core first (Some task) x)) h_is
    ∙ own_cost core first task home in
    ap (λ v. sum_by (cost_of v) (unsplit_from core first (t ∷ tasks) (h ∷ homes))) number ∙ omega arith
cost_of_all_unsplit core first (suc n) (t ∷ tasks) (h ∷ homes) task home at at' =
    let number : first + suc n ≡ (first + 1) + n = omega arith in
    let all = sum_by-append (cost_of ((first + 1) + n)) (unsplit_at core first t h)
    (unsplit_from core (first + 1) tasks homes) in
    let rest = cost_of_all_unsplit core (first + 1) n tasks homes task home at at' in
    let here = other_cost core ((first + 1) + n) first t h (λ e. omega arith) in
    ap (λ v. sum_by (cost_of v) (unsplit_from core first (t ∷ tasks) (h ∷ homes))) number ∙ omega arith

-- on its home a vCPU gets its cost, and on no other core anything
cost_where : (tasks : List (Option Periodic)) (homes : List (Option ℕ)) (count : ℕ)
    (cores : List (List Piece))
    → StandUnsplit tasks homes count cores → (core vcpu home : ℕ) (task : Periodic) → core < count →
    slice_get tasks vcpu ≡ Some (Some task) → slice_get homes vcpu ≡ Some (Some home)
    → cost_on vcpu (pieces_on cores core) ≡ cond (eqb home core) task.cost 0
cost_where tasks homes count cores stand core vcpu home task lt at at' =
    let number : 0 + vcpu ≡ vcpu = omega arith in
    cost_on_subtasks vcpu (pieces_on cores core) ∙ ap (sum_by (cost_of vcpu)) (stand.stand core lt)
    ∙ sym (ap (λ v. sum_by (cost_of v) (unsplit_from core 0 tasks homes)) number)
    ∙ cost_of_all_unsplit core 0 vcpu tasks homes task home at at'

-- a sum of which one term alone counts
sum_at_one : {X : Type 0} (f : X → ℕ) (xs : List X) (at : ℕ) (d : X) (value : ℕ) → at < length xs → f d ≡ 0
    → f (get_or xs at d) ≡ value → ((k : ℕ) → k < length xs → (k ≡ at → ⊥) → f (get_or xs k d) ≡ 0)
    → sum_by f xs ≡ value
sum_at_one f xs at d value lt none here elsewhere =
    let change = sum_by-set f xs at d d lt in
    let nothing = sum_by-le f 0 (set xs at d)
    (All-from_get_or (λ x. f x ≤ 0) (set xs at d) d (λ k lt'. elim (cases_eq k at) [
      | inl same ↦
          (let read = ap (λ j. f (get_or (set xs at d) j d)) same ∙ ap f (get_or-set_same xs at d d lt) in
          omega arith)
      | inr ne ↦
          (let read = ap f (get_or-set_other xs at k d d ne) in
          let e = elsewhere k (omega (arith, length-set xs at d)) ne in
          omega arith)
    ])) in
    omega arith

-- a vCPU that gets some ticks of pieces has one of them
has_piece_by_cost : (vcpu : ℕ) (ps : List Piece) → 1 ≤ cost_on vcpu ps → has_piece vcpu ps ≡ true
has_piece_by_cost vcpu [] some = absurd (omega (arith, cost_on-nil vcpu))
has_piece_by_cost vcpu (p ∷ ps) some = elim (cases_Bool (eqb p.vcpu vcpu)) [
  | inl own ↦ rw own refl
  | inr other ↦ (let here = ap (λ b. cond b p.cost 0) other in
      rw other (has_piece_by_cost vcpu ps (omega (arith, cost_on-cons vcpu p ps))))
]

-- before any split the pieces are as `AreAllottedTo` asks, which each split then keeps
pub start_is_allotted : (tasks : List (Option Periodic)) (homes : List (Option ℕ)) (count : ℕ)
    (cores : List (List Piece))
    → StandUnsplit tasks homes count cores →
    ((vcpu home : ℕ) → slice_get homes vcpu ≡ Some (Some home) → (home < count) × IsAdmitted tasks vcpu) →
    AreAllottedTo tasks homes cores
start_is_allotted tasks homes count cores stand there = record {
  of_tasks = λ core i p at. (let w = unsplit_on tasks homes count cores stand core i p at in
      record {
        task = w.task;
        at = ap (slice_get tasks) (number_is core tasks homes p w) ∙ w.at;
        period = ap (λ (s : Subtask). s.period) w.is;
      });
  costs = λ vcpu home task at at'. (
      let below = (there vcpu home at).0 in
      sum_at_one (cost_on vcpu) cores home [] task.cost (subst (λ n. home < n) (sym stand.size) below)
      (cost_on_none vcpu [] (λ k d lt e. absurd (omega arith)))
      (cost_where tasks homes count cores stand home vcpu home task below at' at
      ∙ rw (eq-eqb home home refl) refl)
      (λ k lt ne. cost_where tasks homes count cores stand k vcpu home task
      (subst (λ n. k < n) stand.size lt) at' at
      ∙ rw (ne_eqb home k (λ e. ne (sym e))) refl));
  lack = λ vcpu homeless. All-from_get_or (LackVcpu vcpu) cores []
      (λ core lt. all_from_places (λ (p : Piece). p.vcpu ≡ vcpu → ⊥) (pieces_on cores core) (λ i p at same.
      homeless (
        core,
        ap (slice_get homes) (sym same)
            ∙ home_is core tasks homes p (unsplit_on tasks homes count cores stand core i p at),
      )));
  at_home = λ vcpu home at. (
      let on = there vcpu home at in
      let task : Periodic = on.1.0 in
      let cost : cost_on vcpu (pieces_on cores home) ≡ task.cost
      = cost_where tasks homes count cores stand home vcpu home task on.0 on.1.1 at
      ∙ rw (eq-eqb home home refl) refl in
      has_piece_by_cost vcpu (pieces_on cores home) (omega (arith, task.costs)));
  apart = λ core other i j p q at at' one. inl (same_home core other p q
      (home_is core tasks homes p (unsplit_on tasks homes count cores stand core i p at))
      (home_is other tasks homes q (unsplit_on tasks homes count cores stand other j q at')) one);
}
  where
    same_home : (core other : ℕ) (p q : Piece) → slice_get homes p.vcpu ≡ Some (Some core)
        → slice_get homes q.vcpu ≡ Some (Some other) → p.vcpu ≡ q.vcpu → core ≡ other
    same_home core other p q a b one = (let e = sym a ∙ ap (slice_get homes) one ∙ b in cc)

-- at first those that are unsplit are laid out
pub start_is_laid_out : (tasks : List (Option Periodic)) (placed : Placed) (count : ℕ)
    (cores : List (List Piece))
    → PlacesEach tasks count placed → StandUnsplit tasks placed.core_of count cores →
    AreLaidOut tasks cores placed.core_of placed.left
start_is_laid_out tasks placed count cores places stand = record {
  places = subst (λ n. PlacesEach tasks n placed) (sym stand.size) places;
  allotted = start_is_allotted tasks placed.core_of count cores stand
      (λ vcpu home at. (let on = places.on_core vcpu home at in (on.0, on.1)));
}

-- what the calls gave is laid out at first: the tasks, homes and left-over vCPUs are read through
-- references
pub record IsRead (tasks tasks' : List (Option Periodic)) (placed : Placed)
    (homes : List (Option ℕ)) (left : List ℕ) : Type 0 where
  pub tasks_are : tasks' ≡ tasks
  pub homes_are : homes ≡ placed.core_of
  pub left_is : left ≡ placed.left

-- what `split_each` requires of what it is passed
pub read_is_laid_out : (tasks tasks' : List (Option Periodic)) (placed : Placed) (homes : List (Option ℕ))
    (left : List ℕ) (count : ℕ)
    (cores : List (List Piece)) → IsRead tasks tasks' placed homes left → PlacesEach tasks count placed →
    StandUnsplit tasks placed.core_of count cores → AreLaidOut tasks' cores homes left
read_is_laid_out tasks tasks' placed homes left count cores read places stand =
    subst (λ ts. AreLaidOut ts cores homes left) (sym read.tasks_are)
    (subst (λ hs. AreLaidOut tasks cores hs left) (sym read.homes_are)
    (subst (AreLaidOut tasks cores placed.core_of) (sym read.left_is)
    (start_is_laid_out tasks placed count cores places stand)))

-- the refusal of `split_each`, of what it was passed
pub read_is_stuck : (tasks tasks' : List (Option Periodic)) (placed : Placed)
    (homes : List (Option ℕ)) (left : List ℕ)
    (cores : List (List Piece)) (fault : SplitFault) → IsRead tasks tasks' placed homes left →
    IsStuckFault tasks' cores homes left fault → IsStuckFault tasks cores placed.core_of placed.left fault
read_is_stuck tasks tasks' placed homes left cores fault read stuck =
    subst (λ ts. IsStuckFault ts cores placed.core_of placed.left fault) read.tasks_are
    (subst (λ hs. IsStuckFault tasks' cores hs placed.left fault) read.homes_are
    (subst (λ l. IsStuckFault tasks' cores homes l fault) read.left_is stuck))
