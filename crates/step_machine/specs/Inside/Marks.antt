-- What a mark refers to in the cores of a state.
use Rattle.std.specs.Prelude.{ℕ, ◌<◌, List, Option, Some, None, false, map, length, slice_get, slice_index_or}
use Rattle.std.specs.List.{All}
use Rattle.tab_core.specs.declared.entry.Entry.{Entry}
use Rattle.tab_core.specs.declared.stint.Stint.{Stint}
use Rattle.table_form.specs.Running.State.{CoreState, opening_core}
use Rattle.step_machine.specs.declared.mark.Mark.{Mark}
use Rattle.step_machine.specs.declared.mark.Mark.TheVariants as marks
use Rattle.step_machine.specs.declared.trace.Made.{Made}
use Rattle.step_machine.specs.declared.trace.Made.TheVariants.{Entered, Ran}

-- core c of these; one that isn't there is one to which nothing happened
abbrev pub core_in : List CoreState → ℕ → CoreState
core_in cores c = slice_index_or cores c opening_core

-- what stands for what isn't there
abbrev pub nothing_made : ℕ → Made
nothing_made c = Entered c (record { round = 0; used = 0; seen = 0; won = false })

-- the entry that was found of core c
abbrev pub entry_made : ℕ → Option Entry → Made
entry_made c (Some e) = Entered c e
entry_made c None = nothing_made c

-- the stint that was found of core c
abbrev pub stint_made : ℕ → Option Stint → Made
stint_made c (Some t) = Ran c t
stint_made c None = nothing_made c

-- what the mark refers to: the entry or stint of its core at its place
abbrev pub made_by : List CoreState → Mark → Made
made_by cores (marks.Entered c place) = entry_made c (slice_get (core_in cores c).entries place)
made_by cores (marks.Ran c place) = stint_made c (slice_get (core_in cores c).stints place)

-- what the mark refers to is there
abbrev pub IsMarkThere : List CoreState → Mark → Type 0
IsMarkThere cores (marks.Entered c place) = (c < length cores) × (place < length (core_in cores c).entries)
IsMarkThere cores (marks.Ran c place) = (c < length cores) × (place < length (core_in cores c).stints)

-- what the marks refer to, in their order
abbrev pub all_made : List CoreState → List Mark → List Made
all_made cores ms = map (made_by cores) ms

-- what each of the marks refers to is there
abbrev pub AllStand : List CoreState → List Mark → Type 0
AllStand cores ms = All (IsMarkThere cores) ms
