-- What is written of how VMs fit a host.
use Rattle.std.specs.Prelude.{ℕ, ◌-◌, ◌*◌, ◌/◌, ◌++◌, List, [], codes, decimal, flat_map, length, slice_index}
use Rattle.std.specs.List.{sum_by}
use Rattle.tab_core.specs.declared.TheConstants.{ROUND, WHOLE_PPM}
use Rattle.tab_core.specs.declared.vcpu.Vcpu.{Vcpu}
use Rattle.tab_words.specs.Texts.{texts_below}
use Rattle.view_cells.specs.Cells.{count_cell, percent_cell}
use Rattle.vcpu_names.specs.Names.{name_at, names_of}
use Rattle.plan_make.specs.Refusal.{no_period_line, no_room_line}
use Rattle.plan_make.specs.declared.fault.PlanFault.{PlanFault}
use Rattle.plan_make.specs.declared.fault.PlanFault.TheVariants as plan
use Rattle.size_fit.specs.declared.fit.Room.{Room}

-- ---- the head

-- the first line: how many vCPUs fit how many cores, and how many of them are split
unfoldable pub head_line : ℕ → ℕ → ℕ → List ℕ
head_line vcpus cores split = codes "fits: vCPUs " ++ (decimal vcpus ++ (codes ", cores " ++ (decimal cores
    ++ (codes ", split " ++ (decimal split ++ codes "\n")))))

-- ---- loads

-- the row that names the columns of loads
abbrev pub fit_load_head : List ℕ
fit_load_head = codes "\ncore    load %  headroom %\n"

-- a part of a whole, in parts per million, rounded down
abbrev pub ppm_of : ℕ → ℕ → ℕ
ppm_of part whole = part * WHOLE_PPM / whole

-- a load and what is left, of so many ticks
unfoldable pub load_cells : ℕ → ℕ → List ℕ
load_cells load ticks = percent_cell 5 (ppm_of load ticks)
    ++ (percent_cell 7 (ppm_of (ticks - load) ticks) ++ codes "\n")

-- the row of a core: its load, and what is left of a round
abbrev pub fit_core_row : List ℕ → ℕ → List ℕ
fit_core_row loads core = count_cell 4 core ++ load_cells (slice_index loads core) ROUND

-- the load of all cores together
abbrev pub total_load : List ℕ → ℕ
total_load loads = sum_by (λ load. load) loads

-- the row of all cores together: their load, and what is left of their rounds
abbrev pub fit_host_row : List ℕ → List ℕ
fit_host_row loads = codes "host" ++ load_cells (total_load loads) (length loads * ROUND)

-- ---- sizes

-- the row that names the columns of sizes
abbrev pub size_head : List ℕ
size_head = codes "\n VMs  more  size\n"

-- how many VMs of a size there are, and how many more fit
unfoldable pub size_row : Room → List ℕ
size_row room = count_cell 4 room.size.machines
    ++ (count_cell 6 room.more ++ (codes "  " ++ (room.size.name.now ++ codes "\n")))

-- ---- the whole

-- the table of loads: a row for each core, by number, and one for all together
abbrev pub loads_text : List ℕ → List ℕ
loads_text loads = fit_load_head ++ (texts_below (fit_core_row loads) (length loads) ++ fit_host_row loads)

-- the table of sizes: how many VMs of each the host has, and how many more of it alone would fit
abbrev pub rooms_text : List Room → List ℕ
rooms_text rooms = size_head ++ flat_map size_row rooms

-- what is written where VMs fit: how many vCPUs, cores and split vCPUs there are, the loads, and the room for each size
abbrev pub fit_text : ℕ → ℕ → ℕ → List ℕ → List Room → List ℕ
fit_text vcpus cores split loads rooms = head_line vcpus cores split ++ (loads_text loads ++ rooms_text rooms)

-- what is written where no vCPU may be split and this one would be
unfoldable pub split_line : List ℕ → List ℕ
split_line name = codes "refused: no core has room for all of " ++ (name ++ codes "\n")

-- what is written where the VMs don't fit: the line of the planner's refusal
abbrev pub refusal_line : List Vcpu → PlanFault → List ℕ
refusal_line vcpus (plan.NoPeriod vcpu) = no_period_line (name_at (names_of vcpus) vcpu)
refusal_line vcpus (plan.NoRoom vcpu rest over) = no_room_line (name_at (names_of vcpus) vcpu) rest over
refusal_line vcpus plan.NoMemory = []
