-- The vCPUs of a plan by virtual machine: the VM of a vCPU is its name's part before the last dot.
use Rattle.std.specs.Prelude.{ℕ, zero, suc, ◌+◌, ◌==◌, ◌&&◌, ◌||◌, nat_lt, Bool, false, not, if◌then◌else◌, max, min, List, [], ◌++◌, codes, decimal, length, Option, Some, None, slice_index, take}
use Rattle.std.specs.Str.{bytes_eq}
use Rattle.tab_core.specs.declared.reservation.Reservation.{Reservation}
use Rattle.tab_core.specs.declared.vcpu.Vcpu.{Vcpu}
use Rattle.tab_words.specs.Texts.{texts_below}
use Rattle.vcpu_names.specs.Names.{name_at}
use Rattle.view_doc.specs.declared.view.Stretch.{Stretch}
use Rattle.view_doc.specs.declared.view.Task.{Task}
use Rattle.view_cells.specs.Cells.{count_cell, left, millis_cell, percent_cell, right}
use Rattle.view_table.specs.Loads.{has_slot_on}
use Rattle.view_table.specs.Table.{asked_of, given_share, is_promise_kept, kept_word, task_share, wait_cell}
use Rattle.view_table.specs.Waits.{wait_of}

-- where the VM's part of a name ends, by so many of its bytes: at the last dot after the first byte,
-- or at the name's end where there is none
unfoldable pub vm_end : List ℕ → ℕ → ℕ
vm_end name zero = length name
vm_end name (suc k) = if (slice_index name k == 46) && nat_lt 0 k then k else vm_end name k

-- the VM of the vCPU of this name
abbrev pub vm_of : List ℕ → List ℕ
vm_of name = take (vm_end name (length name)) name

-- the vCPU of a number is of this VM
abbrev pub is_of_vm : List (List ℕ) → List ℕ → ℕ → Bool
is_of_vm names vm v = bytes_eq (vm_of (name_at names v)) vm

-- some vCPU below n passes
unfoldable pub any_below : (ℕ → Bool) → ℕ → Bool
any_below test zero = false
any_below test (suc v) = any_below test v || test v

-- the sum of the figures of the vCPUs below n that pass
unfoldable pub sum_where : (ℕ → Bool) → (ℕ → ℕ) → ℕ → ℕ
sum_where test figure zero = 0
sum_where test figure (suc v) = sum_where test figure v + (if test v then figure v else 0)

-- how many of the vCPUs below n pass
abbrev pub count_where : (ℕ → Bool) → ℕ → ℕ
count_where test n = sum_where test (λ v. 1) n

-- the sum of a figure of the vCPUs below n that are of the VM
abbrev pub sum_in : (ℕ → ℕ) → List (List ℕ) → List ℕ → ℕ → ℕ
sum_in figure names vm n = sum_where (is_of_vm names vm) figure n

-- the greatest figure of the vCPUs below n that are of the VM, and 0 where there is none
unfoldable pub most_in : (ℕ → ℕ) → List (List ℕ) → List ℕ → ℕ → ℕ
most_in figure names vm zero = 0
most_in figure names vm (suc v) = max (most_in figure names vm v) (if is_of_vm names vm v then figure v else 0)

-- the share of a vCPU's line, if the plan has one
abbrev pub share_in : Option Task → ℕ
share_in None = 0
share_in (Some t) = task_share t

-- the vCPU is of the VM, and has a slot on the core
abbrev pub vm_stands : List (List ℕ) → List ℕ → List Stretch → ℕ → ℕ → Bool
vm_stands names vm slots core v = has_slot_on slots v core && is_of_vm names vm v

-- the number of a core where a vCPU of the VM has a slot; else nothing
abbrev pub vm_core : List (List ℕ) → List ℕ → List Stretch → ℕ → ℕ → List ℕ
vm_core names vm slots count core =
    if any_below (vm_stands names vm slots core) count then codes " " ++ decimal core else []

-- what the host's vCPU of the name of this number has reserved, if one is admitted
abbrev pub asked_at : List Vcpu → List (List ℕ) → ℕ → Option Reservation
asked_at vcpus names v = asked_of vcpus (name_at names v)

-- the share that was reserved, in parts per million; 0 where nothing was
abbrev pub asked_ppm : Option Reservation → ℕ
asked_ppm None = 0
asked_ppm (Some r) = r.share_ppm

-- the least of latencies and one more, where there are any
abbrev pub lesser : Option ℕ → Option Reservation → Option ℕ
lesser least None = least
lesser None (Some r) = Some r.latency_ns
lesser (Some ns) (Some r) = Some (min ns r.latency_ns)

-- the least latency that was promised to a vCPU of the VM below n, if any was
unfoldable pub least_in : List Vcpu → List (List ℕ) → List ℕ → ℕ → Option ℕ
least_in vcpus names vm zero = None
least_in vcpus names vm (suc v) = if is_of_vm names vm v
    then lesser (least_in vcpus names vm v) (asked_at vcpus names v) else least_in vcpus names vm v

-- the share and the wait of a vCPU don't keep what was promised to it; where nothing was, nothing is broken
abbrev pub is_broken_by : ℕ → Option Reservation → ℕ → ℕ → Bool
is_broken_by tick None share wait = false
is_broken_by tick (Some r) share wait = not (is_promise_kept tick r share wait)

-- what was promised to the vCPU of a number isn't kept; nothing was where none of its name is admitted
abbrev pub is_broken : ℕ → List Vcpu → List (List ℕ) → List Stretch → ℕ → Bool
is_broken tick vcpus names slots v =
    is_broken_by tick (asked_at vcpus names v) (given_share slots v) (wait_of slots v)

-- one of the VM's vCPUs hasn't what it was promised
abbrev pub vm_breaks : ℕ → List Vcpu → List (List ℕ) → List ℕ → List Stretch → ℕ → Bool
vm_breaks tick vcpus names vm slots v = is_broken tick vcpus names slots v && is_of_vm names vm v

-- ---- rows

-- the names of the columns after the first; what was asked for is there where there is a host
abbrev pub vm_head : Option (List Vcpu) → List ℕ
vm_head None = codes "  vcpus   share %    wait ms  cores\n"
vm_head (Some vcpus) = codes "  vcpus   asked %   given %    wait ms  promised ms  kept  cores\n"

-- the shares that were asked for together, or a dash where nothing was promised
abbrev pub sum_cell : Option ℕ → ℕ → List ℕ
sum_cell None share = right 10 (codes "-")
sum_cell (Some ns) share = percent_cell 5 share

-- the least latency that was promised, or a dash
abbrev pub least_latency_cell : Option ℕ → List ℕ
least_latency_cell None = right 13 (codes "-")
least_latency_cell (Some ns) = millis_cell 9 ns

-- whether each of its vCPUs has what it was promised, or a dash where nothing was promised
abbrev pub all_kept_cell : Option ℕ → Bool → Bool → List ℕ
all_kept_cell None refused breaks = right 6 (codes "-")
all_kept_cell (Some ns) refused breaks = right 6 (kept_word refused (not breaks))

-- the cells of a VM: how many vCPUs it has, their shares together, and the longest of their waits
unfoldable pub vm_cells : ℕ → ℕ → List ℕ → ℕ → ℕ → ℕ → List ℕ
vm_cells tick width vm count share wait = left width vm ++ (count_cell 7 count
    ++ (percent_cell 5 share ++ (wait_cell tick wait ++ codes " ")))

-- the cells of a VM beside what was asked for and promised
unfoldable pub asked_vm_cells : ℕ → ℕ → List ℕ → ℕ → ℕ → ℕ → ℕ → Option ℕ → Bool → Bool → List ℕ
asked_vm_cells tick width vm count asked share wait promised refused breaks = left width vm ++ (count_cell 7 count
    ++ (sum_cell promised asked ++ (percent_cell 5 share ++ (wait_cell tick wait
    ++ (least_latency_cell promised ++ (all_kept_cell promised refused breaks ++ codes " "))))))

-- the cells of a VM of so many vCPUs
abbrev pub vm_figures : Option (List Vcpu) → Bool → ℕ → ℕ → List (List ℕ) → ℕ → List Stretch → List ℕ → List ℕ
vm_figures None refused tick width names count slots vm =
    vm_cells tick width vm (count_where (is_of_vm names vm) count)
    (sum_in (given_share slots) names vm count)
    (most_in (wait_of slots) names vm count)
vm_figures (Some vcpus) refused tick width names count slots vm =
    asked_vm_cells tick width vm (count_where (is_of_vm names vm) count)
    (sum_in (λ v. asked_ppm (asked_at vcpus names v)) names vm count)
    (sum_in (given_share slots) names vm count)
    (most_in (wait_of slots) names vm count) (least_in vcpus names vm count) refused
    (any_below (vm_breaks tick vcpus names vm slots) count)

-- the row of a VM
abbrev pub named_vm_row : Option (List Vcpu) → Bool → ℕ → ℕ → List (List ℕ) → List Task → List Stretch → ℕ → List ℕ → List ℕ
named_vm_row host refused tick width names tasks slots cores vm =
    vm_figures host refused tick width names (length tasks) slots vm
    ++ (texts_below (vm_core names vm slots (length tasks)) cores ++ codes "\n")

-- the row of the VM whose first vCPU has this number; other vCPUs have none
abbrev pub vm_row : Option (List Vcpu) → Bool → ℕ → ℕ → List (List ℕ) → List Task → List Stretch → ℕ → ℕ → List ℕ
vm_row host refused tick width names tasks slots cores v =
    if any_below (is_of_vm names (vm_of (name_at names v))) v then []
    else named_vm_row host refused tick width names tasks slots cores (vm_of (name_at names v))
