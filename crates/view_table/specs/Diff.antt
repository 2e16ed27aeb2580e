-- What differs between two plans: a line for each thing.
use Rattle.std.specs.Prelude.{ℕ, zero, suc, ◌*◌, ◌++◌, ◌==◌, ◌&&◌, nat_lt, Bool, true, false, if◌then◌else◌, min, List, [], ◌∷◌, codes, length, Option, Some, None, slice_get}
use Rattle.std.specs.Str.{bytes_eq}
use Rattle.tab_core.specs.declared.TheConstants.{ROUND}
use Rattle.tab_words.specs.Texts.{texts_below}
use Rattle.vcpu_names.specs.Names.{name_at}
use Rattle.view_doc.specs.declared.view.Stretch.{Stretch}
use Rattle.view_doc.specs.declared.view.Task.{Task}
use Rattle.view_doc.specs.declared.view.Use.{Use}
use Rattle.view_doc.specs.declared.view.Use.TheVariants.{Idle, Slot, Shared}
use Rattle.view_doc.specs.declared.view.View.{View}
use Rattle.view_cells.specs.Cells.{count_cell, millis_cell, percent_cell}
use Rattle.view_table.specs.Loads.{load_of_core}
use Rattle.view_table.specs.Table.{of_round, task_share}
use Rattle.view_table.specs.Waits.{wait_of}

-- the number below n of the vCPU of this name, the greatest where there are several
unfoldable pub number_of : List (List ℕ) → ℕ → List ℕ → Option ℕ
number_of names zero name = None
number_of names (suc v) name = if bytes_eq (name_at names v) name then Some v else number_of names v name

-- ---- lines

-- the beginning of a line that is about a vCPU
abbrev pub vcpu_word : List ℕ
vcpu_word = codes "vcpu "

-- the line of a vCPU, or of a VM, that the other plan hasn't
unfoldable pub lone_line : List ℕ → List ℕ → List ℕ → List ℕ
lone_line kind name word = kind ++ (name ++ word)

-- the line of a vCPU, or of a VM, of which this was one thing and is another
unfoldable pub difference_line : List ℕ → List ℕ → List ℕ → List ℕ → List ℕ → List ℕ → List ℕ
difference_line kind name what old new unit = kind ++ (name ++ (what ++ (old ++ (codes " to " ++ (new ++ unit)))))

-- nothing where two numbers are one
abbrev pub unless_same : ℕ → ℕ → List ℕ → List ℕ
unless_same a b text = if a == b then [] else text

-- a wait in milliseconds
abbrev pub wait_word : ℕ → ℕ → List ℕ
wait_word tick wait = if nat_lt wait (2 * ROUND) then millis_cell 0 (wait * tick) else codes "endless"

-- the line of a vCPU that has another home; nothing where it has the same
abbrev pub home_change : List ℕ → Task → Task → List ℕ
home_change name t u = unless_same t.home u.home
    (difference_line vcpu_word name (codes " home ") (count_cell 0 t.home) (count_cell 0 u.home) (codes "\n"))

-- the line of a vCPU, or of a VM, that has another share, in parts per million; nothing where it has the
-- same
abbrev pub share_change : List ℕ → List ℕ → ℕ → ℕ → List ℕ
share_change kind name a b = unless_same a b
    (difference_line kind name (codes " share ") (percent_cell 0 a) (percent_cell 0 b) (codes " %\n"))

-- the line of a vCPU that has another period, in ticks of so many nanoseconds; nothing where it has the same
abbrev pub period_change : ℕ → List ℕ → Task → Task → List ℕ
period_change tick name t u = unless_same t.period u.period
    (difference_line vcpu_word name (codes " period ") (millis_cell 0 (t.period * tick)) (millis_cell 0 (u.period * tick))
    (codes " ms\n"))

-- the line of a vCPU, or of a VM, that has another longest wait, in ticks of so many nanoseconds; nothing
-- where it has the same
abbrev pub wait_change : List ℕ → ℕ → List ℕ → ℕ → ℕ → List ℕ
wait_change kind tick name a b = unless_same a b
    (difference_line kind name (codes " wait ") (wait_word tick a) (wait_word tick b) (codes " ms\n"))

-- what changed of a vCPU that both plans have
abbrev pub changes : ℕ → List ℕ → Task → Task → ℕ → ℕ → List ℕ
changes tick name t u a b = home_change name t u ++ (share_change vcpu_word name (task_share t) (task_share u)
    ++ (period_change tick name t u ++ wait_change vcpu_word tick name a b))

-- what changed of a vCPU, if both plans have a line for it
abbrev pub differences_of : ℕ → List ℕ → Option Task → Option Task → ℕ → ℕ → List ℕ
differences_of tick name None u a b = []
differences_of tick name (Some t) None a b = []
differences_of tick name (Some t) (Some u) a b = changes tick name t u a b

-- the number that a vCPU of a plan has in another
abbrev pub vcpu_number_in : View → List ℕ → Option ℕ
vcpu_number_in view name = number_of view.names.items (length view.tasks.items) name

-- the lines of a vCPU of the old plan
abbrev pub old_found : ℕ → View → View → ℕ → Option ℕ → List ℕ
old_found tick old new v None = lone_line vcpu_word (name_at old.names.items v) (codes " gone\n")
old_found tick old new v (Some w) = differences_of tick (name_at old.names.items v) (slice_get old.tasks.items v)
    (slice_get new.tasks.items w) (wait_of old.slots.items v) (wait_of new.slots.items w)

-- the lines of the vCPU of a number of the old plan
abbrev pub old_lines : ℕ → View → View → ℕ → List ℕ
old_lines tick old new v = old_found tick old new v (vcpu_number_in new (name_at old.names.items v))

-- the line of a vCPU of the new plan that the old one hasn't
abbrev pub new_found : List ℕ → Option ℕ → List ℕ
new_found name None = lone_line vcpu_word name (codes " new\n")
new_found name (Some v) = []

-- the line of the vCPU of a number of the new plan, if the old one hasn't it
abbrev pub new_lines : View → View → ℕ → List ℕ
new_lines old new w = new_found (name_at new.names.items w) (vcpu_number_in old (name_at new.names.items w))

-- the line of a core that both have
unfoldable pub load_line : ℕ → ℕ → ℕ → List ℕ
load_line core a b = codes "core " ++ (count_cell 0 core ++ (codes " load " ++ (percent_cell 0 (of_round a)
    ++ (codes " to " ++ (percent_cell 0 (of_round b) ++ codes " %\n")))))

-- the line of a core that has another load, in ticks of a round; nothing where it has the same
abbrev pub load_change : ℕ → ℕ → ℕ → List ℕ
load_change core a b = unless_same a b (load_line core a b)

-- the line of the core of a number, if its load is another in the new plan
abbrev pub load_lines : View → View → ℕ → List ℕ
load_lines old new core = load_change core (load_of_core old.slots.items core) (load_of_core new.slots.items core)

-- the line of the counts of cores
unfoldable pub count_line : ℕ → ℕ → List ℕ
count_line a b = codes "cores " ++ (count_cell 0 a ++ (codes " to " ++ (count_cell 0 b ++ codes "\n")))

-- the line of the counts of cores, if they differ
abbrev pub count_change : ℕ → ℕ → List ℕ
count_change a b = unless_same a b (count_line a b)

-- ---- slots

-- the vCPU of this name has the stretch in a slot of its own
abbrev pub is_slot_named : List (List ℕ) → Use → List ℕ → Bool
is_slot_named names Idle name = false
is_slot_named names (Slot v) name = bytes_eq name (name_at names v)
is_slot_named names (Shared v) name = false

-- the vCPU of this name has the stretch in time that nobody used
abbrev pub is_shared_named : List (List ℕ) → Use → List ℕ → Bool
is_shared_named names Idle name = false
is_shared_named names (Slot v) name = false
is_shared_named names (Shared v) name = bytes_eq name (name_at names v)

-- nobody has the stretch
abbrev pub is_nobody : Use → Bool
is_nobody Idle = true
is_nobody (Slot v) = false
is_nobody (Shared v) = false

-- one vCPU by name has both stretches in the same way, or nobody has
abbrev pub same_use : List (List ℕ) → List (List ℕ) → Use → Use → Bool
same_use names others Idle by = is_nobody by
same_use names others (Slot v) by = is_slot_named others by (name_at names v)
same_use names others (Shared v) by = is_shared_named others by (name_at names v)

-- both stretches are on one core and have the same ticks, and one vCPU by name has both in the same way,
-- or nobody has
abbrev pub same_slot : List (List ℕ) → List (List ℕ) → Stretch → Stretch → Bool
same_slot names others s t = (s.core == t.core) && ((s.from == t.from) && ((s.end == t.end)
    && same_use names others s.by t.by))

-- the segments are the same, one by one
abbrev pub same_slots : List (List ℕ) → List (List ℕ) → List Stretch → List Stretch → Bool
same_slots names others [] [] = true
same_slots names others (s ∷ ss) (t ∷ ts) = same_slot names others s t && same_slots names others ss ts
same_slots names others _ _ = false

-- the line for segments that differ; nothing where they are the same
abbrev pub slots_change : View → View → List ℕ
slots_change old new = if same_slots old.names.items new.names.items old.slots.items new.slots.items
    then [] else codes "slots differ\n"

-- ---- the text

-- what differs: the count of cores, the vCPUs of the old plan and then new ones, the cores that both
-- have, and whether the segments are others
abbrev pub diff_text : ℕ → View → View → List ℕ
diff_text tick old new = count_change old.cores new.cores
    ++ (texts_below (old_lines tick old new) (length old.tasks.items)
    ++ (texts_below (new_lines old new) (length new.tasks.items)
    ++ (texts_below (load_lines old new) (min old.cores new.cores) ++ slots_change old new)))
