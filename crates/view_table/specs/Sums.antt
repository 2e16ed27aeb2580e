-- How many vCPUs and VMs of a plan have another home, share or wait in another plan.
use Rattle.std.specs.Prelude.{ℕ, ◌-◌, ◌++◌, ◌==◌, ◌&&◌, Bool, true, false, not, List, codes, length, Option, Some, None, slice_get}
use Rattle.view_cells.specs.Cells.{count_cell}
use Rattle.vcpu_names.specs.Names.{name_at}
use Rattle.view_doc.specs.declared.view.Task.{Task}
use Rattle.view_doc.specs.declared.view.View.{View}
use Rattle.view_table.specs.Diff.{vcpu_number_in}
use Rattle.view_table.specs.Groups.{any_below, count_where, is_of_vm, share_in, vm_of}
use Rattle.view_table.specs.Waits.{wait_of}
use Rattle.view_table.specs.declared.sums.Matter.{Matter}
use Rattle.view_table.specs.declared.sums.Matter.TheVariants.{Home, Share, Wait, Any}

-- ---- what is another

-- the home of a vCPU that has a line
abbrev pub home_in : Option Task → ℕ
home_in None = 0
home_in (Some t) = t.home

-- a vCPU of one plan has the home of a vCPU of another plan
abbrev pub same_home : View → View → ℕ → ℕ → Bool
same_home old new v w = home_in (slice_get old.tasks.items v) == home_in (slice_get new.tasks.items w)

-- a vCPU of one plan has the share of a vCPU of another plan
abbrev pub same_share : View → View → ℕ → ℕ → Bool
same_share old new v w = share_in (slice_get old.tasks.items v) == share_in (slice_get new.tasks.items w)

-- a vCPU of one plan has the longest wait of a vCPU of another plan
abbrev pub same_wait : View → View → ℕ → ℕ → Bool
same_wait old new v w = wait_of old.slots.items v == wait_of new.slots.items w

-- by the matter, the home, the share or the wait of a vCPU of the old plan and of one of the new plan differ,
-- or any of them
abbrev pub is_other : Matter → View → View → ℕ → ℕ → Bool
is_other Home old new v w = not (same_home old new v w)
is_other Share old new v w = not (same_share old new v w)
is_other Wait old new v w = not (same_wait old new v w)
is_other Any old new v w = not (same_home old new v w && (same_share old new v w && same_wait old new v w))

-- what counts of a vCPU that is gone: it didn't stay, but has no other home, share or wait
abbrev pub is_any : Matter → Bool
is_any Home = false
is_any Share = false
is_any Wait = false
is_any Any = true

-- the home, the share or the wait of a vCPU of the old plan is another in the new plan, where the vCPU has
-- this number or is gone
abbrev pub changed_to : Matter → View → View → ℕ → Option ℕ → Bool
changed_to matter old new v None = is_any matter
changed_to matter old new v (Some w) = is_other matter old new v w

-- the home, the share or the wait of the old plan's vCPU of a number is another in the new plan
abbrev pub is_changed : Matter → View → View → ℕ → Bool
is_changed matter old new v = changed_to matter old new v (vcpu_number_in new (name_at old.names.items v))

-- ---- VMs

-- the vCPU is one of the VM's, and its home, share or wait is another
abbrev pub changes_there : Matter → View → View → List ℕ → ℕ → Bool
changes_there matter old new vm v = is_of_vm old.names.items vm v && is_changed matter old new v

-- the VM of the vCPU of a number
abbrev pub vm_at : View → ℕ → List ℕ
vm_at view v = vm_of (name_at view.names.items v)

-- the vCPU is the first of its VM
abbrev pub is_first : View → ℕ → Bool
is_first view v = not (any_below (is_of_vm view.names.items (vm_at view v)) v)

-- the vCPU is the first of its VM, and one of the VM's vCPUs has another home, share or wait
abbrev pub vm_changes : Matter → View → View → ℕ → Bool
vm_changes matter old new v =
    is_first old v && any_below (changes_there matter old new (vm_at old v)) (length old.tasks.items)

-- ---- lines

-- of so many, how many have another home, another share and another wait, and how many stayed as they were
unfoldable pub sum_line : ℕ → List ℕ → ℕ → ℕ → ℕ → ℕ → List ℕ
sum_line count what homes shares waits changed = codes "total: of " ++ (count_cell 0 count
    ++ (what ++ (count_cell 0 homes ++ (codes " have another home, " ++ (count_cell 0 shares
    ++ (codes " another share, " ++ (count_cell 0 waits ++ (codes " another wait; "
    ++ (count_cell 0 (count - changed) ++ codes " stayed\n")))))))))

-- how many vCPUs of the old plan have another home, share or wait
abbrev pub changed_below : Matter → View → View → ℕ
changed_below matter old new = count_where (is_changed matter old new) (length old.tasks.items)

-- how many VMs of the old plan have a vCPU with another home, share or wait
abbrev pub vms_changed : Matter → View → View → ℕ
vms_changed matter old new = count_where (vm_changes matter old new) (length old.tasks.items)

-- the sum of vCPUs: how many have another home, share or wait, and how many stayed
abbrev pub vcpu_sum : View → View → List ℕ
vcpu_sum old new = sum_line (length old.tasks.items) (codes " vCPUs, ") (changed_below Home old new)
    (changed_below Share old new) (changed_below Wait old new) (changed_below Any old new)

-- the sum of VMs: of how many a vCPU has another home, share or wait, and how many stayed
abbrev pub vm_sum : View → View → List ℕ
vm_sum old new = sum_line (count_where (is_first old) (length old.tasks.items)) (codes " VMs, ")
    (vms_changed Home old new) (vms_changed Share old new) (vms_changed Wait old new) (vms_changed Any old new)

-- the sums of what differs between two plans
abbrev pub sums_text : View → View → List ℕ
sums_text old new = vcpu_sum old new ++ vm_sum old new
