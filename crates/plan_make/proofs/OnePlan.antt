-- A host has at most one plan, and none where one of its vCPUs has no room.
use Rattle.std.proofs.Common.{◌≡◌, ℕ, ◌-◌, ◌<◌, ◌≤◌, Bool, List, [], ◌∷◌, ◌++◌, set, slice_get, map, Option, Some, refl, ap, subst, sym, ◌∙◌}
use Rattle.std.proofs.Props.{props}
use Rattle.std.specs.List.{All, AllZip}
use Rattle.std.proofs.lemmas.List.{ext_get_or}
use Rattle.std.proofs.lemmas.List.Elements.{All-head, All-tail}
use Rattle.tab_core.specs.Vcpus.{capped_set}
use Rattle.tab_core.specs.declared.TheConstants.{MAX_CORES, MAX_VCPUS}
use Rattle.tab_core.specs.declared.host.Host.{Host}
use Rattle.tab_core.specs.declared.over.Over.{Over}
use Rattle.tab_core.specs.declared.periodic.Periodic.{Periodic}
use Rattle.tab_core.specs.declared.piece.Piece.{Piece}
use Rattle.tab_core.specs.Period.{IsPeriod}
use Rattle.table_form.specs.Planning.EdfRow.{edf_row}
use Rattle.table_form.specs.Planning.Jobs.{Subtask, jobs_of, subtask_of}
use Rattle.table_form.specs.Tables.Plans.{PlanView}
use Rattle.table_form.specs.Tables.Rows.{Row}
use Rattle.period_choice.proofs.Unique.{tasks_unique}
use Rattle.worst_fit.specs.Placement.{IsStayingPlacement}
use Rattle.worst_fit.specs.declared.placed.Placed.{Placed}
use Rattle.worst_fit.proofs.OnePlacement.{placement_unique}
use Rattle.cd_split.specs.Cores.{pieces_on}
use Rattle.cd_split.specs.Shares.{IsSamePiece}
use Rattle.cd_split.specs.Splitting.{IsSplit, IsSplitRefused}
use Rattle.cd_split.specs.declared.fault.SplitFault.{SplitFault}
use Rattle.cd_split.specs.declared.fault.SplitFault.TheVariants.{NoMemory, NoRoom}
use Rattle.cd_split.proofs.Unique.{one_split, split_or_refused}
use Rattle.plan_make.specs.Faults.{fault_of_split}
use Rattle.coalesce.specs.Joining.{AreJoined}
use Rattle.coalesce.proofs.Unique.{rows_unique}
use Rattle.plan_make.specs.Inside.Splits.{IsLayoutFault}
use Rattle.plan_make.specs.Layout.{IsStayingLayout, IsStayingStart}
use Rattle.plan_make.specs.Planned.{IsFirstStayingWithoutRoom, IsFirstWithoutRoom, IsPlanned, IsStayingPlan, all_pieces}
use Rattle.plan_make.specs.SplitInTurn.{GetsSplit, SplitsEach, home_of, with_pieces}
use Rattle.plan_make.specs.Unsplit.{StandUnsplit}
use Rattle.plan_make.specs.declared.fault.PlanFault.TheVariants as plan

-- a piece is its numbers, since each fact on them has one proof

-- what a piece keeps besides its numbers
record Facts (core : ℕ) (s : Subtask) : Type 0 where
  pub vcpu_small : s.vcpu < MAX_VCPUS
  pub core_small : core < MAX_CORES
  pub begins : s.from < s.to
  pub within : s.to ≤ s.period
  pub costs : 1 ≤ s.cost
  pub fits_window : s.cost ≤ s.to - s.from
  pub listed : IsPeriod s.period

-- the piece of these numbers, to compare two pieces by their numbers alone
abbrev piece_of : (core : ℕ) (s : Subtask) → Facts core s → Piece
piece_of core s f = record {
  vcpu = s.vcpu;
  core = core;
  cost = s.cost;
  from = s.from;
  to = s.to;
  period = s.period;
  vcpu_small = f.vcpu_small;
  core_small = f.core_small;
  begins = f.begins;
  within = f.within;
  costs = f.costs;
  fits_window = f.fits_window;
  listed = f.listed;
}

-- the facts of a piece, for `piece_of`
abbrev facts_of : (p : Piece) → Facts p.core (subtask_of p)
facts_of p = record {
  vcpu_small = p.vcpu_small;
  core_small = p.core_small;
  begins = p.begins;
  within = p.within;
  costs = p.costs;
  fits_window = p.fits_window;
  listed = p.listed;
}

-- the facts have one proof, so they don't tell two pieces apart
one_proof : (core : ℕ) (s : Subtask) → IsProp (Facts core s)
one_proof core s = hlevel props

-- pieces of the same numbers are one
same_numbers : (p q : Piece) → IsSamePiece p q → p ≡ q
same_numbers p q same =
    let At : ℕ → Subtask → Type 0 = λ core s. (f : Facts core s) → p ≡ piece_of core s f in
    let here : At p.core (subtask_of p) =
    λ f. ap (piece_of p.core (subtask_of p))
    (one_proof p.core (subtask_of p) (facts_of p) f) in
    subst (At q.core) same.1 (subst (λ core. At core (subtask_of p)) same.0 here) (facts_of q)

-- lists of pieces of the same numbers are one: what splitting leaves determined
same_pieces : (ps qs : List Piece) → AllZip IsSamePiece ps qs → ps ≡ qs
same_pieces [] [] zip = refl
same_pieces [] (q ∷ qs) zip = absurd zip
same_pieces (p ∷ ps) [] zip = absurd zip
same_pieces (p ∷ ps) (q ∷ qs) zip =
    let first = same_numbers p q zip.0 in
    let rest = same_pieces ps qs zip.1 in
    cc

-- the cores of those that are unsplit are determined

-- the pieces of a core are determined by their subtasks, in which the rules speak
same_on_core : (core : ℕ) (ps qs : List Piece) → map subtask_of ps ≡ map subtask_of qs
    → All (λ p. p.core ≡ core) ps
    → All (λ q. q.core ≡ core) qs → ps ≡ qs
same_on_core core [] [] same own own' = refl
same_on_core core [] (q ∷ qs) same own own' = absurd (cc)
same_on_core core (p ∷ ps) [] same own own' = absurd (cc)
same_on_core core (p ∷ ps) (q ∷ qs) same own own' =
    let On : Piece → Type 0 = λ r. r.core ≡ core in
    let first_subtask : subtask_of p ≡ subtask_of q = cc in
    let rest_subtasks : map subtask_of ps ≡ map subtask_of qs = cc in
    let first = same_numbers p q (All-head On p ps own ∙ sym (All-head On q qs own'), first_subtask) in
    let rest = same_on_core core ps qs rest_subtasks (All-tail On p ps own) (All-tail On q qs own') in
    cc

-- there is one start of splitting
start_unique : (tasks : List (Option Periodic)) (core_of : List (Option ℕ)) (count : ℕ)
    (a b : List (List Piece))
    → StandUnsplit tasks core_of count a → StandUnsplit tasks core_of count b → a ≡ b
start_unique tasks core_of count a b of_a of_b = ext_get_or [] a b (of_a.size ∙ sym of_b.size) (λ core lt.
    let lt' = subst (λ n. core < n) of_a.size lt in
    same_on_core core (pieces_on a core) (pieces_on b core)
    (of_a.stand core lt' ∙ sym (of_b.stand core lt')) (of_a.own core) (of_b.own core))

-- where splitting begins on a host

-- what two starts on one host have in common
pub record SameStart (tasks tasks' : List (Option Periodic)) (placed placed' : Placed)
    (start start' : List (List Piece)) : Type 0 where
  pub tasks_same : tasks ≡ tasks'
  pub placed_same : placed ≡ placed'
  pub start_same : start ≡ start'

-- a host has one choice of tasks, one placement and one start
pub one_start : (old_homes : List (Option ℕ)) (host : Host) (tasks tasks' : List (Option Periodic)) (placed placed' : Placed)
    (start start' : List (List Piece))
    → IsStayingStart old_homes host tasks placed start → IsStayingStart old_homes host tasks' placed' start' →
    SameStart tasks tasks' placed placed' start start'
one_start old_homes host tasks tasks' placed placed' start start' a b =
    let same_tasks = tasks_unique host tasks tasks' a.tasks_are b.tasks_are in
    let same_placed = placement_unique old_homes tasks' host.cores placed placed'
    (subst (λ ts. IsStayingPlacement old_homes ts host.cores placed) same_tasks a.placement) b.placement in
    let stand = subst (λ (p : Placed). StandUnsplit tasks' p.core_of host.cores start) same_placed
    (subst (λ ts. StandUnsplit ts placed.core_of host.cores start) same_tasks a.stand) in
    record {
      tasks_same = same_tasks;
      placed_same = same_placed;
      start_same = start_unique tasks' placed'.core_of host.cores start start' stand b.stand;
    }

-- one vCPU after the other is split in one way

-- a vCPU is split in one way beside the same pieces
pub split_unique : (tasks : List (Option Periodic)) (cores : List (List Piece)) (vcpu : ℕ)
    (ps qs : List Piece)
    → GetsSplit tasks cores vcpu ps → GetsSplit tasks cores vcpu qs → ps ≡ qs
split_unique tasks cores vcpu ps qs a b =
    let at = a.at in
    let at' = b.at in
    let same : b.task ≡ a.task = cc in
    let of_b = subst (λ (t : Periodic). IsSplit cores vcpu t qs)
    same b.splits in
    sym (same_pieces qs ps (one_split cores vcpu a.task ps qs a.splits of_b))

-- what two runs of splits from one start have in common
record SameEnd (end end' : List (List Piece)) (homes homes' : List (Option ℕ)) : Type 0 where
  pub end_same : end ≡ end'
  pub homes_same : homes ≡ homes'

-- the second begins as the first went on
pub went_on : (tasks : List (Option Periodic)) (cores : List (List Piece)) (homes : List (Option ℕ))
    (vcpu : ℕ)
    (left : List ℕ) (ps qs : List Piece) (end : List (List Piece)) (homes' : List (Option ℕ))
    → ps ≡ qs →
    SplitsEach tasks (with_pieces cores qs) (set homes vcpu (Some (home_of qs))) left end homes'
    → SplitsEach tasks (with_pieces cores ps) (set homes vcpu (Some (home_of ps))) left end homes'
went_on tasks cores homes vcpu left ps qs end homes' same each =
    subst (λ rs. SplitsEach tasks (with_pieces cores rs)
    (set homes vcpu (Some (home_of rs))) left end homes') (sym same) each

-- splitting in turn ends in one way
each_unique : (tasks : List (Option Periodic)) (cores : List (List Piece)) (homes : List (Option ℕ))
    (left : List ℕ)
    (end end' : List (List Piece)) (homes' homes'' : List (Option ℕ)) →
    SplitsEach tasks cores homes left end homes' → SplitsEach tasks cores homes left end' homes''
    → SameEnd end end' homes' homes''
each_unique tasks cores homes [] end end' homes' homes'' a b =
    record { end_same = a.0 ∙ sym b.0; homes_same = a.1 ∙ sym b.1 }
each_unique tasks cores homes (vcpu ∷ left) end end' homes' homes'' a b =
    let same = split_unique tasks cores vcpu a.0 b.0 a.1 b.1 in
    each_unique tasks (with_pieces cores a.0)
    (set homes vcpu (Some (home_of a.0))) left end end' homes' homes'' a.2
    (went_on tasks cores homes vcpu left a.0 b.0 end' homes'' same b.2)

-- a vCPU that can't be split beside those before it isn't
pub each_or_refused : (tasks : List (Option Periodic)) (cores : List (List Piece)) (homes : List (Option ℕ))
    (before : List ℕ) (vcpu : ℕ) (after : List ℕ) (end middle : List (List Piece))
    (homes' homes'' : List (Option ℕ))
    (task : Periodic) (rest : ℕ) (over : List Over) →
    SplitsEach tasks cores homes (before ++ vcpu ∷ after) end homes'
    → SplitsEach tasks cores homes before middle homes'' → slice_get tasks vcpu ≡ Some (Some task) →
    IsSplitRefused middle vcpu task rest over → ⊥
each_or_refused tasks cores homes [] vcpu after end middle homes' homes'' task rest over a b at refuses =
    let split = a.1 in
    let at' = split.at in
    let same : split.task ≡ task = cc in
    let splits =
    subst (λ (t : Periodic). IsSplit cores vcpu t a.0)
    same split.splits in
    split_or_refused cores vcpu task a.0 rest over splits
    (subst (λ cs. IsSplitRefused cs vcpu task rest over) b.0 refuses)
each_or_refused tasks cores homes
    (v ∷ before) vcpu after end middle homes' homes'' task rest over a b at refuses =
    let same = split_unique tasks cores v a.0 b.0 a.1 b.1 in
    each_or_refused tasks (with_pieces cores a.0)
    (set homes v (Some (home_of a.0))) before vcpu after end middle homes' homes'' task rest over a.2
    (went_on tasks cores homes v before a.0 b.0 middle homes'' same b.2) at refuses

-- what two plans of a host have in common: tasks, homes, capped vCPUs and the rows before joining
pub record AreAlike (host : Host) (a b : PlanView) (cores : List (List Piece)) : Type 0 where
  pub tasks_same : a.tasks ≡ b.tasks
  pub homes_same : a.homes ≡ b.homes
  pub capped_same : a.capped ≡ b.capped
  pub joined : AreJoined (all_pieces cores) b.capped host.sliver
      (map (λ pieces. edf_row (jobs_of pieces)) cores) a.rows

-- a host has one plan but for the joining of its rows
pub planned_alike : (old_homes : List (Option ℕ)) (host : Host) (a b : PlanView)
    (of_a : IsStayingPlan old_homes host a) (of_b : IsStayingPlan old_homes host b)
    → AreAlike host a b of_b.cores
planned_alike old_homes host a b of_a of_b =
    let same = one_start old_homes host a.tasks b.tasks of_a.layout.placed of_b.layout.placed
    of_a.layout.start of_b.layout.start
    of_a.layout.is_start of_b.layout.is_start in
    let moved =
    subst (λ cs. SplitsEach b.tasks cs of_b.layout.placed.core_of of_b.layout.placed.left of_a.cores
    a.homes) same.start_same
    (subst (λ (p : Placed). SplitsEach b.tasks of_a.layout.start p.core_of p.left of_a.cores a.homes)
    same.placed_same
    (subst (λ ts. SplitsEach ts of_a.layout.start of_a.layout.placed.core_of
    of_a.layout.placed.left of_a.cores a.homes)
    same.tasks_same of_a.layout.split)) in
    let ends = each_unique b.tasks of_b.layout.start of_b.layout.placed.core_of
    of_b.layout.placed.left of_a.cores
    of_b.cores a.homes b.homes moved of_b.layout.split in
    let capped = of_a.capped ∙ sym of_b.capped in
    record {
      tasks_same = same.tasks_same;
      homes_same = ends.homes_same;
      capped_same = capped;
      joined = subst (λ cs. AreJoined (all_pieces cs) b.capped host.sliver
          (map (λ pieces. edf_row (jobs_of pieces)) cs) a.rows) ends.end_same
          (subst (λ set. AreJoined (all_pieces of_a.cores) set host.sliver
          (map (λ pieces. edf_row (jobs_of pieces)) of_a.cores) a.rows) capped of_a.joined);
    }

-- a plan by its four parts
abbrev view_of : List (Option Periodic) → List (Option ℕ) → List Row → List Bool → PlanView
view_of tasks homes rows capped = record { tasks = tasks; homes = homes; rows = rows; capped = capped }

-- plans with the same parts are one
pub same_view : (a b : PlanView) → a.tasks ≡ b.tasks → a.homes ≡ b.homes → a.rows ≡ b.rows
    → a.capped ≡ b.capped → a ≡ b
same_view a b tasks homes rows capped = ap (λ t. view_of t a.homes a.rows a.capped) tasks
    ∙ ap (λ h. view_of b.tasks h a.rows a.capped) homes
    ∙ ap (λ r. view_of b.tasks b.homes r a.capped) rows
    ∙ ap (view_of b.tasks b.homes b.rows) capped

-- what the draft of a layout has, and the plan that is made of it by joining
pub record IsMadeOf (host : Host) (tasks : List (Option Periodic)) (cores : List (List Piece))
    (homes : List (Option ℕ))
    (pieces : List Piece) (rows : List Row) (plan : PlanView) : Type 0 where
  pub pieces_are : pieces ≡ all_pieces cores
  pub rows_are : rows ≡ map (λ pieces. edf_row (jobs_of pieces)) cores
  pub tasks_are : plan.tasks ≡ tasks
  pub homes_are : plan.homes ≡ homes
  pub capped_are : plan.capped ≡ capped_set host.vcpus
  pub joined : AreJoined pieces plan.capped host.sliver rows plan.rows

-- the rows of the plan are joined from those of the layout, though the draft's lists are other values
joined_of : (host : Host) (tasks : List (Option Periodic)) (cores : List (List Piece))
    (homes : List (Option ℕ))
    (pieces : List Piece) (rows : List Row) (plan : PlanView)
    → IsMadeOf host tasks cores homes pieces rows plan
    → AreJoined (all_pieces cores) plan.capped host.sliver
    (map (λ pieces. edf_row (jobs_of pieces)) cores) plan.rows
joined_of host tasks cores homes pieces rows plan made =
    subst (λ ps. AreJoined ps plan.capped host.sliver
    (map (λ pieces. edf_row (jobs_of pieces)) cores) plan.rows) made.pieces_are
    (subst (λ rs. AreJoined pieces plan.capped host.sliver rs plan.rows) made.rows_are made.joined)

-- the plan is that of its layout
pub layout_is_planned : (old_homes : List (Option ℕ)) (host : Host) (tasks : List (Option Periodic)) (cores : List (List Piece))
    (homes : List (Option ℕ))
    (pieces : List Piece) (rows : List Row) (plan : PlanView)
    → IsStayingLayout old_homes host tasks cores homes
    → IsMadeOf host tasks cores homes pieces rows plan → IsStayingPlan old_homes host plan
layout_is_planned old_homes host tasks cores homes pieces rows plan layout made = record {
  cores = cores;
  layout = subst (λ ts. IsStayingLayout old_homes host ts cores plan.homes) (sym made.tasks_are)
      (subst (IsStayingLayout old_homes host tasks cores) (sym made.homes_are) layout);
  capped = made.capped_are;
  joined = joined_of host tasks cores homes pieces rows plan made;
}

-- a host has one plan from the same old homes
pub staying_unique : (old_homes : List (Option ℕ)) (host : Host) (a b : PlanView)
    → IsStayingPlan old_homes host a → IsStayingPlan old_homes host b → a ≡ b
staying_unique old_homes host a b of_a of_b =
    let alike = planned_alike old_homes host a b of_a of_b in
    let rows = map (λ pieces. edf_row (jobs_of pieces)) of_b.cores in
    same_view a b alike.tasks_same alike.homes_same
    (rows_unique (all_pieces of_b.cores) b.capped host.sliver rows a.rows b.rows alike.joined of_b.joined)
    alike.capped_same

-- a host has one plan
pub planned_unique : (host : Host) (a b : PlanView) → IsPlanned host a → IsPlanned host b → a ≡ b
planned_unique = staying_unique []

-- a host has no plan from the same old homes where a left-over vCPU can't be split
pub staying_or_refused : (old_homes : List (Option ℕ)) (host : Host) (a : PlanView) (vcpu rest : ℕ)
    (over : List Over) → IsStayingPlan old_homes host a
    → IsFirstStayingWithoutRoom old_homes host vcpu rest over → ⊥
staying_or_refused old_homes host a vcpu rest over planned first =
    let same = one_start old_homes host a.tasks first.tasks planned.layout.placed first.placed planned.layout.start
    first.start planned.layout.is_start first.is_start in
    let moved =
    subst (λ cs. SplitsEach first.tasks cs first.placed.core_of first.placed.left
    planned.cores a.homes) same.start_same
    (subst (λ (p : Placed). SplitsEach first.tasks planned.layout.start p.core_of p.left planned.cores
    a.homes) same.placed_same
    (subst (λ ts. SplitsEach ts planned.layout.start planned.layout.placed.core_of planned.layout.placed.left
    planned.cores a.homes) same.tasks_same planned.layout.split)) in
    let all =
    subst (λ left. SplitsEach first.tasks first.start first.placed.core_of left
    planned.cores a.homes) first.stuck.left_is moved in
    each_or_refused first.tasks first.start first.placed.core_of first.stuck.before vcpu first.stuck.after
    planned.cores first.stuck.cores a.homes first.stuck.homes
    first.stuck.task rest over all first.stuck.split first.stuck.at first.stuck.refuses

-- a host has no plan where a left-over vCPU can't be split and no vCPU has an old home
pub planned_or_refused : (host : Host) (a : PlanView) (vcpu rest : ℕ) (over : List Over) → IsPlanned host a
    → IsFirstWithoutRoom host vcpu rest over → ⊥
planned_or_refused = staying_or_refused []

-- a host that has a plan is laid out, except when memory runs out
pub no_memory_for_layout : (old_homes : List (Option ℕ)) (host : Host) (a : PlanView) (fault : SplitFault)
    → IsStayingPlan old_homes host a → IsLayoutFault old_homes host fault
    → fault_of_split fault ≡ plan.NoMemory
no_memory_for_layout old_homes host a (NoRoom vcpu rest over) planned told =
    absurd (staying_or_refused old_homes host a vcpu rest over planned told)
no_memory_for_layout old_homes host a NoMemory planned told = refl
