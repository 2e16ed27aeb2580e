-- The last line of a plan's tables: its vCPUs and its cores together.
use Rattle.std.specs.Prelude.{ℕ, ◌*◌, ◌/◌, ◌++◌, ◌==◌, ◌&&◌, Bool, true, false, nat_lt, not, if◌then◌else◌, List, codes, length, Option, Some, None}
use Rattle.tab_core.specs.declared.TheConstants.{ROUND, WHOLE_PPM}
use Rattle.tab_core.specs.declared.reservation.Reservation.{Reservation}
use Rattle.tab_core.specs.declared.vcpu.Vcpu.{Vcpu}
use Rattle.view_cells.specs.Cells.{count_cell, percent_cell}
use Rattle.view_doc.specs.declared.view.Stretch.{Stretch}
use Rattle.view_doc.specs.declared.view.View.{View}
use Rattle.view_table.specs.Groups.{asked_at, asked_ppm, count_where, is_broken, sum_where}
use Rattle.view_table.specs.Loads.{has_slot_on, load_of_core}
use Rattle.view_table.specs.Table.{given_share}

-- the test that each vCPU passes
abbrev pub each : ℕ → Bool
each v = true

-- the shares of the vCPUs below n together
abbrev pub given_below : List Stretch → ℕ → ℕ
given_below slots n = sum_where each (given_share slots) n

-- the shares together that the host has for the vCPUs below n, in parts per million
abbrev pub asked_below : List Vcpu → List (List ℕ) → ℕ → ℕ
asked_below vcpus names n = sum_where each (λ v. asked_ppm (asked_at vcpus names v)) n

-- something was reserved
abbrev pub is_asked : Option Reservation → Bool
is_asked None = false
is_asked (Some r) = true

-- the host admits a vCPU of the name of this number
abbrev pub is_share_asked : List Vcpu → List (List ℕ) → ℕ → Bool
is_share_asked vcpus names v = is_asked (asked_at vcpus names v)

-- the vCPU of a number is admitted, and has what it was promised
abbrev pub has_all : ℕ → List Vcpu → List (List ℕ) → List Stretch → ℕ → Bool
has_all tick vcpus names slots v =
    is_share_asked vcpus names v && not (is_broken tick vcpus names slots v)

-- the ticks of the slots of these cores
abbrev pub busy_below : List Stretch → ℕ → ℕ
busy_below slots cores = sum_where each (load_of_core slots) cores

-- how full so many cores are, in parts per million of them, rounded down; 0 where there are none
abbrev pub full_of : ℕ → ℕ → ℕ
full_of ticks cores = if cores == 0 then 0 else ticks * WHOLE_PPM / (cores * ROUND)

-- on how many of these cores the vCPU has slots
abbrev pub cores_with : List Stretch → ℕ → ℕ → ℕ
cores_with slots cores v = count_where (has_slot_on slots v) cores

-- the vCPU of a number is split: it has slots on two of these cores or more
abbrev pub is_split : List Stretch → ℕ → ℕ → Bool
is_split slots cores v = nat_lt 1 (cores_with slots cores v)

-- how many of the vCPUs below n are split
abbrev pub split_below : List Stretch → ℕ → ℕ → ℕ
split_below slots cores n = count_where (is_split slots cores) n

-- ---- the line

-- how many vCPUs there are, what they are given of a core together, how full the cores are, and how many are split
unfoldable pub plain_total : ℕ → ℕ → ℕ → ℕ → List ℕ
plain_total vcpus given full split = codes "\ntotal: vCPUs " ++ (count_cell 0 vcpus ++ (codes ", given "
    ++ (percent_cell 0 given ++ (codes " %, load " ++ (percent_cell 0 full ++ (codes " %, split "
    ++ (count_cell 0 split ++ codes "\n")))))))

-- how many have all that they were promised, which is open where the tables are refused
abbrev pub kept_count : Bool → ℕ → List ℕ
kept_count refused kept = if refused then codes "?" else count_cell 0 kept

-- the total beside what was asked for, with how many of those that are admitted have all that they were
-- promised, and how many are split
unfoldable pub asked_total : ℕ → ℕ → ℕ → ℕ → Bool → ℕ → ℕ → ℕ → List ℕ
asked_total vcpus asked given full refused kept admitted split = codes "\ntotal: vCPUs " ++ (count_cell 0 vcpus
    ++ (codes ", asked " ++ (percent_cell 0 asked ++ (codes " %, given " ++ (percent_cell 0 given
    ++ (codes " %, load " ++ (percent_cell 0 full ++ (codes " %, kept " ++ (kept_count refused kept ++ (codes " of "
    ++ (count_cell 0 admitted ++ (codes ", split " ++ (count_cell 0 split ++ codes "\n")))))))))))))

-- the line of a plan of so many vCPUs and cores
abbrev pub total_of : Option (List Vcpu) → Bool → ℕ → List (List ℕ) → ℕ → List Stretch → ℕ → List ℕ
total_of None refused tick names count slots cores =
    plain_total count (given_below slots count) (full_of (busy_below slots cores) cores) (split_below slots cores count)
total_of (Some vcpus) refused tick names count slots cores =
    asked_total count (asked_below vcpus names count) (given_below slots count)
    (full_of (busy_below slots cores) cores) refused
    (count_where (has_all tick vcpus names slots) count)
    (count_where (is_share_asked vcpus names) count) (split_below slots cores count)

-- the line of totals of a view
abbrev pub total_text : Option (List Vcpu) → Bool → ℕ → View → List ℕ
total_text host refused tick view =
    total_of host refused tick view.names.items (length view.tasks.items) view.slots.items view.cores
