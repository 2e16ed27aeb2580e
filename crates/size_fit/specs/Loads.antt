-- How full a plan makes the cores.
use Rattle.std.specs.Prelude.{ℕ, List, count_by, is_some, map}
use Rattle.table_form.specs.Tables.Rows.{Row}

-- the load of a core: the ticks of a round in which it has an owner
abbrev pub load_of_row : Row → ℕ
load_of_row row = count_by is_some row

-- the load of each core, by number, in ticks of a round
abbrev pub loads_of : List Row → List ℕ
loads_of rows = map load_of_row rows
