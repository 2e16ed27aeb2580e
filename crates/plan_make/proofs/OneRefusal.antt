-- A host has a plan, a first vCPU without a period or a first without room, and only one of these.
use Rattle.std.proofs.Common.{◌≡◌, ℕ, ◌<◌, IfSome, List, [], ◌∷◌, ◌++◌, set, slice_get, Option, None, Some, refl, ap, subst, sym, ◌∙◌, arith}
use Rattle.tab_core.specs.declared.host.Host.{Host}
use Rattle.tab_core.specs.declared.over.Over.{Over}
use Rattle.tab_core.specs.declared.periodic.Periodic.{Periodic}
use Rattle.tab_core.specs.declared.piece.Piece.{Piece}
use Rattle.tab_core.specs.declared.reservation.Reservation.{Reservation}
use Rattle.table_form.specs.Tables.Plans.{PlanView}
use Rattle.period_choice.specs.Choice.{HasPeriod}
use Rattle.period_choice.specs.Tasks.{IsFirstWithoutPeriod, LacksPeriod}
use Rattle.worst_fit.specs.declared.placed.Placed.{Placed}
use Rattle.cd_split.specs.Splitting.{IsSplitRefused}
use Rattle.cd_split.proofs.Unique.{one_refusal}
use Rattle.plan_make.specs.Planned.{IsFirstStayingWithoutRoom, IsFirstWithoutRoom, IsPlanned, IsStayingPlan}
use Rattle.plan_make.specs.SplitInTurn.{SplitsEach, home_of, with_pieces}
use Rattle.plan_make.specs.declared.fault.PlanFault.{PlanFault}
use Rattle.plan_make.specs.declared.fault.PlanFault.TheVariants as plan
use Rattle.plan_make.proofs.OnePlan.{each_or_refused, one_start, split_unique, staying_or_refused, went_on}
use Rattle.period_choice.proofs.TasksLemmas.{none_without_period}

-- the split of the left-over vCPUs comes to one that can't be split, with this rest and these intervals
record Sticks (tasks : List (Option Periodic)) (cores : List (List Piece)) (homes : List (Option ℕ))
    (before : List ℕ) (vcpu rest : ℕ) (over : List Over) : Type 0 where
  pub end : List (List Piece)
  pub homes' : List (Option ℕ)
  pub split : SplitsEach tasks cores homes before end homes'
  pub task : Periodic
  pub at : slice_get tasks vcpu ≡ Some (Some task)
  pub refuses : IsSplitRefused end vcpu task rest over

-- where one vCPU gets stuck first, none after it can be the first
sticks_later : (tasks : List (Option Periodic)) (cores : List (List Piece))
    (homes : List (Option ℕ)) (vcpu rest : ℕ) (over : List Over) (next : ℕ) (before : List ℕ)
    (other more : ℕ) (others : List Over) → Sticks tasks cores homes [] vcpu rest over
    → Sticks tasks cores homes (next ∷ before) other more others → vcpu ≡ next → ⊥
sticks_later tasks cores homes vcpu rest over next before other more others here later same =
    let split = subst (λ v. SplitsEach tasks cores homes (v ∷ before) later.end later.homes')
    (sym same) later.split in
    each_or_refused tasks cores homes [] vcpu before later.end here.end later.homes' here.homes'
    here.task rest over split here.split here.at here.refuses

-- where both come to the next, so do they after it
next_sticks : (tasks : List (Option Periodic)) (cores : List (List Piece)) (homes : List (Option ℕ))
    (next : ℕ) (before : List ℕ) (vcpu rest : ℕ) (over : List Over) (pieces : List Piece)
    (is : Sticks tasks cores homes (next ∷ before) vcpu rest over) →
    pieces ≡ is.split.0 → Sticks tasks (with_pieces cores pieces)
    (set homes next (Some (home_of pieces))) before vcpu rest over
next_sticks tasks cores homes next before vcpu rest over pieces is same = record {
  end = is.end;
  homes' = is.homes';
  split = went_on tasks cores homes next before pieces is.split.0 is.end is.homes' same is.split.2;
  task = is.task;
  at = is.at;
  refuses = is.refuses;
}

-- two that stick at once are one, and so are what is left of them and the intervals, by the splits' law
same_here : (tasks : List (Option Periodic)) (cores : List (List Piece)) (homes : List (Option ℕ))
    (vcpu rest rest' : ℕ) (over over' : List Over) → Sticks tasks cores homes [] vcpu rest over
    → Sticks tasks cores homes [] vcpu rest' over' → (rest ≡ rest') × (over ≡ over')
same_here tasks cores homes vcpu rest rest' over over' a b =
    let at = a.at in
    let at' = b.at in
    let task : b.task ≡ a.task = cc in
    let end : b.end ≡ a.end = b.split.0 ∙ sym a.split.0 in
    one_refusal a.end vcpu a.task rest rest' over over' a.refuses
    (subst (λ (t : Periodic). IsSplitRefused a.end vcpu t rest' over') task
    (subst (λ cs. IsSplitRefused cs vcpu b.task rest' over') end b.refuses))

-- two that stick first are one
same_stuck : (tasks : List (Option Periodic)) (cores : List (List Piece)) (homes : List (Option ℕ))
    (before before' : List ℕ) (vcpu vcpu' rest rest' : ℕ) (over over' : List Over) (after after' : List ℕ) →
    before ++ vcpu ∷ after ≡ before' ++ vcpu' ∷ after' → Sticks tasks cores homes before vcpu rest over
    → Sticks tasks cores homes before' vcpu' rest' over'
    → (vcpu ≡ vcpu') × (rest ≡ rest') × (over ≡ over')
same_stuck tasks cores homes [] [] vcpu vcpu' rest rest' over over' after after' same a b =
    let first : vcpu' ≡ vcpu = cc in
    let one = same_here tasks cores homes vcpu rest rest' over over' a
    (subst (λ v. Sticks tasks cores homes [] v rest' over') first b) in
    (sym first, one.0, one.1)
same_stuck tasks cores homes [] (next ∷ before') vcpu vcpu' rest rest' over over' after after' same a b =
    let first : vcpu ≡ next = cc in
    absurd (sticks_later tasks cores homes vcpu rest over next before' vcpu' rest' over' a b first)
same_stuck tasks cores homes (next ∷ before) [] vcpu vcpu' rest rest' over over' after after' same a b =
    let first : vcpu' ≡ next = cc in
    absurd (sticks_later tasks cores homes vcpu' rest' over' next before vcpu rest over b a first)
same_stuck tasks cores homes
    (next ∷ before) (next' ∷ before') vcpu vcpu' rest rest' over over' after after' same a b =
    let first : next' ≡ next = cc in
    let behind : before ++ vcpu ∷ after ≡ before' ++ vcpu' ∷ after' = cc in
    let b' = subst (λ n. Sticks tasks cores homes (n ∷ before') vcpu' rest' over') first b in
    let pieces = a.split.0 in
    let one = split_unique tasks cores next pieces b'.split.0 a.split.1 b'.split.1 in
    same_stuck tasks (with_pieces cores pieces)
    (set homes next (Some (home_of pieces))) before before' vcpu vcpu' rest rest' over over' after after' behind
    (next_sticks tasks cores homes next before vcpu rest over pieces a refl)
    (next_sticks tasks cores homes next before' vcpu' rest' over' pieces b' one)

-- a host's first vCPU without room, as the first that gets stuck
sticks_of : (old_homes : List (Option ℕ)) (host : Host) (vcpu rest : ℕ) (over : List Over)
    (is : IsFirstStayingWithoutRoom old_homes host vcpu rest over)
    → Sticks is.tasks is.start is.placed.core_of is.stuck.before vcpu rest over
sticks_of old_homes host vcpu rest over is = record {
  end = is.stuck.cores;
  homes' = is.stuck.homes;
  split = is.stuck.split;
  task = is.stuck.task;
  at = is.stuck.at;
  refuses = is.stuck.refuses;
}

-- one vCPU is the first without room, for one number of ticks, with one list of overloaded intervals
pub one_staying_without_room : (old_homes : List (Option ℕ)) (host : Host) (vcpu vcpu' rest rest' : ℕ)
    (over over' : List Over) → IsFirstStayingWithoutRoom old_homes host vcpu rest over
    → IsFirstStayingWithoutRoom old_homes host vcpu' rest' over'
    → (vcpu ≡ vcpu') × (rest ≡ rest') × (over ≡ over')
one_staying_without_room old_homes host vcpu vcpu' rest rest' over over' a b =
    let same = one_start old_homes host a.tasks b.tasks a.placed b.placed a.start b.start a.is_start b.is_start in
    let moved = subst (λ cs. Sticks b.tasks cs b.placed.core_of a.stuck.before vcpu rest over) same.start_same
    (subst (λ (p : Placed). Sticks b.tasks a.start p.core_of a.stuck.before vcpu rest over) same.placed_same
    (subst (λ ts. Sticks ts a.start a.placed.core_of a.stuck.before vcpu rest over) same.tasks_same
    (sticks_of old_homes host vcpu rest over a))) in
    let left : a.stuck.before ++ vcpu ∷ a.stuck.after ≡ b.stuck.before ++ vcpu' ∷ b.stuck.after =
    sym a.stuck.left_is ∙ ap (λ (p : Placed). p.left) same.placed_same ∙ b.stuck.left_is in
    same_stuck b.tasks b.start b.placed.core_of a.stuck.before b.stuck.before vcpu vcpu' rest rest' over over'
    a.stuck.after b.stuck.after left
    moved (sticks_of old_homes host vcpu' rest' over' b)

-- a host without a plan has one fault where no vCPU has an old home
pub one_without_room : (host : Host) (vcpu vcpu' rest rest' : ℕ) (over over' : List Over)
    → IsFirstWithoutRoom host vcpu rest over → IsFirstWithoutRoom host vcpu' rest' over'
    → (vcpu ≡ vcpu') × (rest ≡ rest') × (over ≡ over')
one_without_room = one_staying_without_room []

-- a reservation has an admissible period or has none, not both
has_or_lacks : (reservation : Option Reservation) (tick : ℕ) → IfSome reservation (λ r. HasPeriod r tick)
    → LacksPeriod reservation tick → ⊥
has_or_lacks None tick has lacks = lacks
has_or_lacks (Some r) tick has lacks = lacks has

-- of two first vCPUs without a period the one isn't below the other
not_lower : (host : Host) (vcpu vcpu' : ℕ) → IsFirstWithoutPeriod host vcpu
    → IsFirstWithoutPeriod host vcpu' → vcpu < vcpu' → ⊥
not_lower host vcpu vcpu' a b lower =
    has_or_lacks a.vcpu.reservation host.tick_ns (b.lowest vcpu a.vcpu lower a.at) a.lacks

-- one vCPU is the first without a period
pub one_without_period : (host : Host) (vcpu vcpu' : ℕ) → IsFirstWithoutPeriod host vcpu
    → IsFirstWithoutPeriod host vcpu' → vcpu ≡ vcpu'
one_without_period host vcpu vcpu' a b =
    let over = not_lower host vcpu vcpu' a b in
    let under = not_lower host vcpu' vcpu b a in
    omega arith

-- a host with a first vCPU without a period has no plan from old homes
pub staying_or_without_period : (old_homes : List (Option ℕ)) (host : Host) (plan : PlanView) (vcpu : ℕ)
    → IsStayingPlan old_homes host plan → IsFirstWithoutPeriod host vcpu → ⊥
staying_or_without_period old_homes host plan vcpu planned first =
    none_without_period host plan.tasks vcpu planned.layout.is_start.tasks_are first

-- a host without a plan has one fault where no vCPU has an old home
pub planned_or_without_period : (host : Host) (plan : PlanView) (vcpu : ℕ) → IsPlanned host plan
    → IsFirstWithoutPeriod host vcpu → ⊥
planned_or_without_period = staying_or_without_period []

-- a host with a first vCPU without a period has none without room from old homes; the law's clause
-- `apart`
pub staying_room_or_without_period : (old_homes : List (Option ℕ)) (host : Host) (vcpu vcpu' rest : ℕ)
    (over : List Over) → IsFirstStayingWithoutRoom old_homes host vcpu' rest over
    → IsFirstWithoutPeriod host vcpu → ⊥
staying_room_or_without_period old_homes host vcpu vcpu' rest over room first =
    none_without_period host room.tasks vcpu room.is_start.tasks_are first

-- a host without a plan has one fault where no vCPU has an old home
pub room_or_without_period : (host : Host) (vcpu vcpu' rest : ℕ) (over : List Over)
    → IsFirstWithoutRoom host vcpu' rest over → IsFirstWithoutPeriod host vcpu → ⊥
room_or_without_period = staying_room_or_without_period []

-- ---- one fault of planning

-- why a host has no plan from these old homes, in the form in which `plan_staying` says it; out of
-- memory is no cause in the host
abbrev pub HasStayingFault : List (Option ℕ) → Host → PlanFault → Type 0
HasStayingFault old_homes host (plan.NoPeriod vcpu) = IsFirstWithoutPeriod host vcpu
HasStayingFault old_homes host (plan.NoRoom vcpu rest over) =
    IsFirstStayingWithoutRoom old_homes host vcpu rest over
HasStayingFault old_homes host plan.NoMemory = ⊥

-- a host without a plan has one fault where no vCPU has an old home
abbrev pub HasPlanFault : Host → PlanFault → Type 0
HasPlanFault = HasStayingFault []

-- a host with a plan has no fault, for the outcomes of commands that plan
pub staying_or_fault : (old_homes : List (Option ℕ)) (host : Host) (p : PlanView) (fault : PlanFault)
    → IsStayingPlan old_homes host p → HasStayingFault old_homes host fault → ⊥
staying_or_fault old_homes host p (plan.NoPeriod vcpu) planned lacks =
    staying_or_without_period old_homes host p vcpu planned lacks
staying_or_fault old_homes host p (plan.NoRoom vcpu rest over) planned lacks =
    staying_or_refused old_homes host p vcpu rest over planned lacks
staying_or_fault old_homes host p plan.NoMemory planned lacks = lacks

-- a host without a plan has one fault where no vCPU has an old home
pub planned_or_fault : (host : Host) (p : PlanView) (fault : PlanFault) → IsPlanned host p
    → HasPlanFault host fault → ⊥
planned_or_fault = staying_or_fault []

-- a host without a plan from old homes has one fault
pub one_staying_fault : (old_homes : List (Option ℕ)) (host : Host) (f g : PlanFault)
    → HasStayingFault old_homes host f → HasStayingFault old_homes host g → f ≡ g
one_staying_fault old_homes host plan.NoMemory g of_f of_g = absurd of_f
one_staying_fault old_homes host f plan.NoMemory of_f of_g = absurd of_g
one_staying_fault old_homes host (plan.NoPeriod vcpu) (plan.NoPeriod other) of_f of_g =
    ap plan.NoPeriod (one_without_period host vcpu other of_f of_g)
one_staying_fault old_homes host (plan.NoPeriod vcpu) (plan.NoRoom other rest over) of_f of_g =
    absurd (staying_room_or_without_period old_homes host vcpu other rest over of_g of_f)
one_staying_fault old_homes host (plan.NoRoom vcpu rest over) (plan.NoPeriod other) of_f of_g =
    absurd (staying_room_or_without_period old_homes host other vcpu rest over of_f of_g)
one_staying_fault old_homes host (plan.NoRoom vcpu rest over) (plan.NoRoom other more others) of_f of_g =
    let one = one_staying_without_room old_homes host vcpu other rest more over others of_f of_g in
    let at = one.0 in
    let left = one.1 in
    let intervals = one.2 in
    cc

-- a host without a plan has one fault where no vCPU has an old home
pub one_plan_fault : (host : Host) (f g : PlanFault) → HasPlanFault host f → HasPlanFault host g → f ≡ g
one_plan_fault = one_staying_fault []
