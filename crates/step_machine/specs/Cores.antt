-- The cores of a state by number.
use Rattle.std.specs.Prelude.{ℕ, slice_index_or}
use Rattle.table_form.specs.Running.State.{State, CoreState, opening_core}

-- core c of the state; one that it doesn't have is one to which nothing happened
abbrev pub core_at : State → ℕ → CoreState
core_at s c = slice_index_or s.cores c opening_core
