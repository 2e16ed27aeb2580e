-- The advice on vCPUs that find no room: what they are due together, what all cores have, and what to do.
use Rattle.std.specs.Prelude.{ℕ, Bool, ◌+◌, ◌-◌, ◌*◌, ◌/◌, ◌&&◌, nat_le, if◌then◌else◌, List, ◌++◌, codes, decimal, Option, Some, None, sum_by}
use Rattle.tab_core.specs.declared.TheConstants.{MAX_CORES, ROUND}
use Rattle.tab_core.specs.declared.periodic.Periodic.{Periodic}
use Rattle.reservation.specs.Cost.{demand}

-- the ticks of a round that a vCPU of this budget is due; none for a vCPU without a reservation
abbrev pub due_of_task : Option Periodic → ℕ
due_of_task None = 0
due_of_task (Some task) = demand task.cost task.period

-- the ticks of a round that all budgets are due together
abbrev pub due_of_tasks : List (Option Periodic) → ℕ
due_of_tasks tasks = sum_by due_of_task tasks

-- the least count of cores that have so many ticks
abbrev pub cores_for : ℕ → ℕ
cores_for ticks = (ticks + (ROUND - 1)) / ROUND

-- the percent of the ticks of all cores that the vCPUs are due, rounded up
abbrev pub percent_of : ℕ → ℕ → ℕ
percent_of due room = (due * 100 + (room - 1)) / room

-- the ticks are no more than any host's, so that their percent is said
abbrev pub has_percent : ℕ → ℕ → Bool
has_percent due room = nat_le 1 room && (nat_le room 1000000000 && nat_le due 1000000000)

-- the percent that the vCPUs ask for, where it is said
abbrev pub percent_text : ℕ → ℕ → List ℕ
percent_text due room = if has_percent due room
    then codes ": that is " ++ (decimal (percent_of due room) ++ codes " percent\n") else codes "\n"

-- how many ticks of a round the vCPUs ask for together, and how many all cores have
abbrev pub ask_text : ℕ → ℕ → List ℕ
ask_text due room = (codes "tableau: the vCPUs ask "
    ++ (decimal due ++ (codes " ticks of a round, and all cores have " ++ decimal room))) ++ percent_text due room

-- the remedy where the vCPUs need so many cores, and a host may have them
abbrev pub more_cores_text : ℕ → List ℕ
more_cores_text cores = codes "tableau: take fewer or smaller shares, or " ++ (decimal cores ++ codes " cores\n")

-- the remedy where the vCPUs need so many cores, which are more than a host may have
abbrev pub beyond_text : ℕ → List ℕ
beyond_text cores = codes "tableau: take fewer or smaller shares; these want "
    ++ (decimal cores ++ codes " cores, and a host has at most 32\n")

-- the remedy where the vCPUs ask for more ticks than all cores have, and need so many cores
abbrev pub cores_text : ℕ → List ℕ
cores_text cores = if nat_le cores MAX_CORES then more_cores_text cores else beyond_text cores

-- what to do for vCPUs without room: a whole-host plan where all of them fit together, else more cores
abbrev pub remedy_text : ℕ → ℕ → List ℕ
remedy_text due room = if nat_le due room
    then codes "tableau: tableau plan whole has a plan for them; or take smaller shares, longer latencies\ntableau: or one core more\n"
    else cores_text (cores_for due)

-- the advice on vCPUs without room: the ticks of a round that they ask for, those that all cores have,
-- and the remedy
abbrev pub room_text : ℕ → ℕ → List ℕ
room_text due room = ask_text due room ++ remedy_text due room

-- the advice on vCPUs without room beside those that stay, where `plan` has a plan
abbrev pub planned_text : ℕ → ℕ → List ℕ
planned_text due room = ask_text due room
    ++ codes "tableau: tableau plan has a plan for them, which may move others\n"

-- what to do where `plan` has no plan either
abbrev pub none_text : ℕ → ℕ → List ℕ
none_text due room = codes "tableau: tableau plan has no plan for them either\n" ++ remedy_text due room

-- the advice on vCPUs without room beside those that stay, where `plan` has no plan either
abbrev pub unplanned_text : ℕ → ℕ → List ℕ
unplanned_text due room = ask_text due room ++ none_text due room
