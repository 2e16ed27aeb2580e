-- What a text shows: what its lines say, by the vCPUs' numbers.
use Rattle.std.specs.Prelude.{◌≡◌, ℕ, Bool, true, false, List, [], ◌∷◌, ◌++◌, flat_map, map, Option, Some, None, if◌then◌else◌, ◌+◌, max}
use Rattle.vcpu_names.specs.Names.{name_at}
use Rattle.view_doc.specs.Grammar.{Front, place_after_line}
use Rattle.view_doc.specs.Lines.{Holder, nobody, in_slot, in_unused, Told, head, task, segment, entry, stint}
use Rattle.view_doc.specs.Texts.{IsText}
use Rattle.view_doc.specs.declared.place.Place.{Place}
use Rattle.view_doc.specs.declared.place.Place.TheVariants.{Start, Row, Planned}
use Rattle.view_doc.specs.declared.view.Entry.{Entry}
use Rattle.view_doc.specs.declared.view.Stretch.{Stretch}
use Rattle.view_doc.specs.declared.view.Task.{Task}
use Rattle.view_doc.specs.declared.view.Use.{Use}
use Rattle.view_doc.specs.declared.view.Use.TheVariants.{Idle, Slot, Shared}
use Rattle.view_doc.specs.declared.view.View.{View}

-- ---- what lines say

-- a vCPU's line alone
abbrev pub tasks_in : Told → List Task
tasks_in (task name period cost home) = (record { period = period; cost = cost; home = home }) ∷ []
tasks_in _ = []

-- the line of an entry alone
abbrev pub entries_in : Told → List Entry
entries_in (entry c round count) = (record { core = c; round = round; count = count }) ∷ []
entries_in _ = []

-- the line of a stint alone
abbrev pub told_stints : Told → List Told
told_stints (stint c from to used seen holder) = stint c from to used seen holder ∷ []
told_stints _ = []

-- a segment as a stint: it begins where its row is, and counts nothing
abbrev pub slots_in : Place → Told → List Told
slots_in (Row cores c from) (segment to holder) = stint c from to 0 0 holder ∷ []
slots_in _ _ = []

-- the segments of the lines from a place on, if these may be there
abbrev pub slots_from : Option Place → List Told → List Told
slots_from None tolds = []
slots_from (Some place) [] = []
slots_from (Some place) (told ∷ tolds) = slots_in place told ++ slots_from (place_after_line place told) tolds

-- how many cores the last head counts after this line, and so many without one
abbrev pub cores_behind : ℕ → Told → ℕ
cores_behind cores (head more vcpus) = more
cores_behind cores _ = cores

-- how many cores the last head of these lines counts, and so many without one
abbrev pub cores_after : ℕ → List Told → ℕ
cores_after cores [] = cores
cores_after cores (told ∷ tolds) = cores_after (cores_behind cores told) tolds

-- a plan alone isn't a run
abbrev pub is_run : Place → Bool
is_run Planned = false
is_run _ = true

-- ---- what a view says

-- who has the ticks of a stretch, by name
abbrev pub holder_named : List (List ℕ) → Use → Holder
holder_named names Idle = nobody
holder_named names (Slot vcpu) = in_slot (name_at names vcpu)
holder_named names (Shared vcpu) = in_unused (name_at names vcpu)

-- what a stretch says
abbrev pub stretch_told : List (List ℕ) → Stretch → Told
stretch_told names s = stint s.core s.from s.end s.used s.seen (holder_named names s.by)

-- the view has what the lines say
pub record ShowsTold (tolds : List Told) (front : Front) (view : View) : Type 0 where
  pub cores : view.cores ≡ cores_after 0 tolds
  pub run : view.is_run ≡ is_run front.place
  pub names : view.names.items ≡ front.names
  pub tasks : view.tasks.items ≡ flat_map tasks_in tolds
  pub slots : map (stretch_told front.names) view.slots.items ≡ slots_from (Some Start) tolds
  pub entries : view.entries.items ≡ flat_map entries_in tolds
  pub stints : map (stretch_told front.names) view.stints.items ≡ flat_map told_stints tolds

-- the bytes are a text that shows this view
pub record IsViewOf (bytes : List ℕ) (view : View) : Type 0 where
  pub tolds : List Told
  pub front : Front
  pub text : IsText bytes tolds front
  pub shows : ShowsTold tolds front view

-- the stints of a run, else the slots of a plan
abbrev pub shown_in : View → List Stretch
shown_in view = if view.is_run then view.stints.items else view.slots.items

-- how many cores the stretches reach: one more than the greatest number, and 0 where there is none
abbrev pub reach_of : List Stretch → ℕ
reach_of [] = 0
reach_of (s ∷ ss) = max (s.core + 1) (reach_of ss)
