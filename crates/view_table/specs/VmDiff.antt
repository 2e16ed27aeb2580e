-- What differs between two plans by virtual machine: a line for each thing.
use Rattle.std.specs.Prelude.{ℕ, ◌++◌, Bool, if◌then◌else◌, min, List, [], codes, length, slice_get}
use Rattle.view_cells.specs.Cells.{count_cell}
use Rattle.tab_words.specs.Texts.{texts_below}
use Rattle.view_doc.specs.declared.view.View.{View}
use Rattle.view_table.specs.Diff.{count_change, difference_line, load_lines, lone_line, share_change, slots_change, unless_same, wait_change}
use Rattle.view_table.specs.Groups.{any_below, count_where, is_of_vm, most_in, share_in, sum_in}
use Rattle.view_table.specs.Sums.{changes_there, is_first, vm_at}
use Rattle.view_table.specs.Waits.{wait_of}
use Rattle.view_table.specs.declared.sums.Matter.TheVariants.{Home}

-- ---- a VM of a plan

-- some vCPU of the plan is of the VM
abbrev pub is_vm : View → List ℕ → Bool
is_vm view vm = any_below (is_of_vm view.names.items vm) (length view.tasks.items)

-- how many vCPUs of the plan are of the VM
abbrev pub vm_count : View → List ℕ → ℕ
vm_count view vm = count_where (is_of_vm view.names.items vm) (length view.tasks.items)

-- the shares of the VM's vCPUs together, in parts per million of a core
abbrev pub vm_share : View → List ℕ → ℕ
vm_share view vm = sum_in (λ v. share_in (slice_get view.tasks.items v)) view.names.items vm (length view.tasks.items)

-- the longest of the waits of the VM's vCPUs, in ticks
abbrev pub vm_wait : View → List ℕ → ℕ
vm_wait view vm = most_in (wait_of view.slots.items) view.names.items vm (length view.tasks.items)

-- how many of its vCPUs of the old plan have another home in the new one
abbrev pub vm_moves : View → View → List ℕ → ℕ
vm_moves old new vm = count_where (changes_there Home old new vm) (length old.tasks.items)

-- ---- lines

-- the beginning of a line that is about a VM
abbrev pub vm_word : List ℕ
vm_word = codes "vm "

-- the line of a VM that has another count of vCPUs; nothing where it has the same
abbrev pub vcpus_change : List ℕ → ℕ → ℕ → List ℕ
vcpus_change vm a b = unless_same a b
    (difference_line vm_word vm (codes " vcpus ") (count_cell 0 a) (count_cell 0 b) (codes "\n"))

-- so many vCPUs, of so many, have another home
unfoldable pub moves_line : List ℕ → ℕ → ℕ → List ℕ
moves_line vm moves count = vm_word ++ (vm ++ (codes " other homes " ++ (count_cell 0 moves
    ++ (codes " of " ++ (count_cell 0 count ++ codes "\n")))))

-- the line of a VM of which vCPUs have another home; nothing where none has
abbrev pub moves_change : List ℕ → ℕ → ℕ → List ℕ
moves_change vm moves count = unless_same moves 0 (moves_line vm moves count)

-- what changed of a VM that both plans have
abbrev pub vm_both : ℕ → View → View → List ℕ → List ℕ
vm_both tick old new vm = vcpus_change vm (vm_count old vm) (vm_count new vm)
    ++ (moves_change vm (vm_moves old new vm) (vm_count old vm)
    ++ (share_change vm_word vm (vm_share old vm) (vm_share new vm)
    ++ wait_change vm_word tick vm (vm_wait old vm) (vm_wait new vm)))

-- the lines of a VM of the old plan
abbrev pub old_vm : ℕ → View → View → List ℕ → List ℕ
old_vm tick old new vm = if is_vm new vm then vm_both tick old new vm else lone_line vm_word vm (codes " gone\n")

-- the lines of the old plan's VM whose first vCPU has this number; nothing for another vCPU
abbrev pub old_vm_lines : ℕ → View → View → ℕ → List ℕ
old_vm_lines tick old new v = if is_first old v then old_vm tick old new (vm_at old v) else []

-- the line of a VM of the new plan that the old one hasn't
abbrev pub new_vm : View → List ℕ → List ℕ
new_vm old vm = if is_vm old vm then [] else lone_line vm_word vm (codes " new\n")

-- the line of the new plan's VM whose first vCPU has this number, if the old plan hasn't the VM
abbrev pub new_vm_lines : View → View → ℕ → List ℕ
new_vm_lines old new w = if is_first new w then new_vm old (vm_at new w) else []

-- ---- the text

-- what differs: the count of cores, the VMs of the old plan and then new ones, the cores that both have, and
-- whether the segments are others
abbrev pub vm_diff_text : ℕ → View → View → List ℕ
vm_diff_text tick old new = count_change old.cores new.cores
    ++ (texts_below (old_vm_lines tick old new) (length old.tasks.items)
    ++ (texts_below (new_vm_lines old new) (length new.tasks.items)
    ++ (texts_below (load_lines old new) (min old.cores new.cores) ++ slots_change old new)))
