-- What the text of a plan tells and shows: the vCPUs that have a task, and each core's maximal segments.
use Rattle.std.specs.Prelude.{◌≡◌, ℕ, ◌+◌, ◌<◌, ◌≤◌, false, List, [], ◌∷◌, ◌++◌, count_by, length, map, replicate, slice_get, Option, Some, None}
use Rattle.tab_core.specs.declared.TheConstants.{MAX_CORES}
use Rattle.tab_core.specs.declared.host.Host.{Host}
use Rattle.tab_core.specs.declared.periodic.Periodic.{Periodic}
use Rattle.table_form.specs.Tables.Plans.{PlanView}
use Rattle.table_form.specs.Tables.Segments.{SegmentView, segments_from}
use Rattle.vcpu_names.specs.Names.{name_at, names_of}
use Rattle.plan_text.specs.PlanLines.{is_admitted}
use Rattle.view_doc.specs.Grammar.{Front}
use Rattle.view_doc.specs.Lines.{Holder, nobody, in_slot, Told, head, task, core, segment, end, stint}
use Rattle.view_doc.specs.Views.{holder_named, stretch_told}
use Rattle.view_doc.specs.declared.place.Place.TheVariants.{Planned}
use Rattle.view_doc.specs.declared.view.Stretch.{Stretch}
use Rattle.view_doc.specs.declared.view.Task.{Task}
use Rattle.view_doc.specs.declared.view.View.{View}

-- whoever owns a segment has it as its slot
abbrev pub owner_holder : List (List ℕ) → Option ℕ → Holder
owner_holder names None = nobody
owner_holder names (Some vcpu) = in_slot (name_at names vcpu)

-- ---- the vCPUs that have a task, in their order

-- the names of the vCPUs that have a task
abbrev pub admitted_names : List (List ℕ) → List (Option Periodic) → List (List ℕ)
admitted_names [] tasks = []
admitted_names (name ∷ names) [] = []
admitted_names (name ∷ names) (None ∷ tasks) = admitted_names names tasks
admitted_names (name ∷ names) (Some t ∷ tasks) = name ∷ admitted_names names tasks

-- the tasks and homes of the vCPUs that have a task
abbrev pub admitted_tasks : List (Option Periodic) → List (Option ℕ) → List Task
admitted_tasks [] homes = []
admitted_tasks (t ∷ tasks) [] = []
admitted_tasks (None ∷ tasks) (home ∷ homes) = admitted_tasks tasks homes
admitted_tasks (Some t ∷ tasks) (None ∷ homes) = admitted_tasks tasks homes
admitted_tasks (Some t ∷ tasks) (Some home ∷ homes) =
    (record { period = t.period; cost = t.cost; home = home }) ∷ admitted_tasks tasks homes

-- ---- the rows, as they are shown

-- the segments of a core, the first of which begins at `from`: each with the ticks from where the one
-- before ends up to its own end, and with its owner's name
abbrev pub core_slots : List (List ℕ) → ℕ → ℕ → List SegmentView → List Told
core_slots names c from [] = []
core_slots names c from (s ∷ ss) =
    stint c from s.end 0 0 (owner_holder names s.owner) ∷ core_slots names c s.end ss

-- the segments of cores, the first of which has this number
abbrev pub slots_of : List (List ℕ) → ℕ → List (List SegmentView) → List Told
slots_of names c [] = []
slots_of names c (row ∷ rows) = core_slots names c 0 row ++ slots_of names (c + 1) rows

-- the maximal segments of the plan's rows
abbrev pub segment_rows : PlanView → List (List SegmentView)
segment_rows plan = map (λ row. segments_from 0 row) plan.rows

-- the view shows the plan for the host, and nothing else
pub record ShowsPlan (host : Host) (plan : PlanView) (view : View) : Type 0 where
  pub cores : view.cores ≡ host.cores
  pub no_run : view.is_run ≡ false
  pub names : view.names.items ≡ admitted_names (names_of host.vcpus) plan.tasks
  pub tasks : view.tasks.items ≡ admitted_tasks plan.tasks plan.homes
  pub slots : map (stretch_told view.names.items) view.slots.items
      ≡ slots_of (names_of host.vcpus) 0 (segment_rows plan)
  pub no_entry : view.entries.items ≡ []
  pub no_stint : view.stints.items ≡ []

-- the slot has the tick of the core
pub record HasTick (slot : Stretch) (c tick : ℕ) : Type 0 where
  pub core : slot.core ≡ c
  pub from : slot.from ≤ tick
  pub end : tick < slot.end

-- one of the slots has the tick of the core
pub record IsInSlot (slots : List Stretch) (c tick : ℕ) : Type 0 where
  pub place : ℕ
  pub slot : Stretch
  pub at : slice_get slots place ≡ Some slot
  pub has : HasTick slot c tick

-- the view shows the tick of the core as the holder's: a slot has it, and each that has it is his
pub record IsShownAs (view : View) (c tick : ℕ) (holder : Holder) : Type 0 where
  pub some : IsInSlot view.slots.items c tick
  pub each : (place : ℕ) (slot : Stretch) → slice_get view.slots.items place ≡ Some slot
      → HasTick slot c tick → holder_named view.names.items slot.by ≡ holder

-- ---- what the text tells

-- the line of a vCPU that has a task
abbrev pub task_told : List ℕ → Option Periodic → Option ℕ → List Told
task_told name None home = []
task_told name (Some t) None = []
task_told name (Some t) (Some home) = task name t.period t.cost home ∷ []

-- the lines of all vCPUs that have a task
abbrev pub tasks_told : List (List ℕ) → List (Option Periodic) → List (Option ℕ) → List Told
tasks_told [] tasks homes = []
tasks_told (name ∷ names) [] homes = []
tasks_told (name ∷ names) (t ∷ tasks) [] = []
tasks_told (name ∷ names) (t ∷ tasks) (home ∷ homes) = task_told name t home ++ tasks_told names tasks homes

-- the line of a segment
abbrev pub segment_told : List (List ℕ) → SegmentView → Told
segment_told names s = segment s.end (owner_holder names s.owner)

-- the lines of cores, the first of which has this number: each core's own and those of its segments
abbrev pub cores_told : List (List ℕ) → ℕ → List (List SegmentView) → List Told
cores_told names c [] = []
cores_told names c (row ∷ rows) = (core c ∷ map (segment_told names) row) ++ cores_told names (c + 1) rows

-- the lines of the plan
abbrev pub plan_told : List (List ℕ) → PlanView → List Told
plan_told names plan =
    head (length plan.rows) (count_by is_admitted plan.tasks)
    ∷ (tasks_told names plan.tasks plan.homes ++ (cores_told names 0 (segment_rows plan) ++ end ∷ []))

-- what the lines of a plan leave: a whole plan, the names of its vCPUs that have a task, and no stint
abbrev pub plan_front : List (List ℕ) → PlanView → Front
plan_front names plan = record {
  place = Planned;
  names = admitted_names names plan.tasks;
  ends = replicate MAX_CORES 0;
}
