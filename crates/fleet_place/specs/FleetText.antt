-- What is written of a placing.
-- Source: the lines are this project's own.
use Rattle.std.specs.Prelude.{ℕ, ◌-◌, ◌*◌, ◌++◌, List, [], codes, decimal, flat_map, get_or, length, slice_index, sum}
use Rattle.std.specs.List.{sum_by}
use Rattle.tab_core.specs.declared.TheConstants.{ROUND}
use Rattle.tab_words.specs.Texts.{texts_below}
use Rattle.view_cells.specs.Cells.{count_cell, percent_cell}
use Rattle.size_fit.specs.FitText.{ppm_of}
use Rattle.fleet_place.specs.Held.{Held, load_of_vms, vcpu_count_of}
use Rattle.fleet_place.specs.declared.vm.Vm.{Vm}

-- ---- lines

-- the VM is on the host of this number
unfoldable pub vm_line : ℕ → Vm → List ℕ
vm_line host vm = codes "host " ++ (decimal host ++ (codes " vm " ++ (vm.size.name.now ++ codes "\n")))

-- the VM is left over
unfoldable pub left_line : Vm → List ℕ
left_line vm = codes "left vm " ++ (vm.size.name.now ++ codes "\n")

-- no host: one without cores and VMs
abbrev pub no_host : Held
no_host = record { cores = 0; vms = [] }

-- the lines of the VMs on the host of this number, in the order in which it holds them
abbrev pub host_lines : List Held → ℕ → List ℕ
host_lines hosts host = flat_map (vm_line host) (get_or hosts host no_host).vms

-- a line for each VM: host by host, and then those that are left over
abbrev pub placing_text : List Held → List Vm → List ℕ
placing_text hosts left = texts_below (host_lines hosts) (length hosts) ++ flat_map left_line left

-- ---- the summary

-- the summary's first row, which names the columns
abbrev pub summary_head : List ℕ
summary_head = codes "host  cores   VMs  vCPUs  split    load %  headroom %\n"

-- how full the cores are, with these counts of VMs, of vCPUs and of split ones, and the ticks of a round that they take
unfoldable pub full_cells : ℕ → ℕ → ℕ → ℕ → ℕ → List ℕ
full_cells cores vms vcpus split load = count_cell 7 cores ++ (count_cell 6 vms ++ (count_cell 7 vcpus
    ++ (count_cell 7 split ++ (percent_cell 5 (ppm_of load (cores * ROUND))
    ++ (percent_cell 7 (ppm_of (cores * ROUND - load) (cores * ROUND)) ++ codes "\n")))))

-- the summary's row of the host of this number: its cores, VMs and vCPUs, how many of these are split, its load and what
-- is left
abbrev pub host_row : List Held → List ℕ → ℕ → List ℕ
host_row hosts splits host = let held = get_or hosts host no_host in
    count_cell 4 host ++ full_cells held.cores (length held.vms) (vcpu_count_of held.vms) (slice_index splits host)
    (load_of_vms held.vms)

-- the summary's row of all hosts together
abbrev pub fleet_row : List Held → List ℕ → List ℕ
fleet_row hosts splits = codes " all" ++ full_cells (sum_by (λ held. held.cores) hosts)
    (sum_by (λ held. length held.vms) hosts) (sum_by (λ held. vcpu_count_of held.vms) hosts) (sum splits)
    (sum_by (λ held. load_of_vms held.vms) hosts)

-- the summary of a placing: a row for each host, by number, and one for all together
abbrev pub summary_text : List Held → List ℕ → List ℕ
summary_text hosts splits =
    summary_head ++ (texts_below (host_row hosts splits) (length hosts) ++ fleet_row hosts splits)
