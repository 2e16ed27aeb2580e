-- Cells that come again and again.
use Rattle.std.specs.Prelude.{ℕ, zero, suc, [], ◌++◌}
use Rattle.table_form.specs.Tables.Rows.{Row}

-- the cells so many times in a row
unfoldable pub so_often : ℕ → Row → Row
so_often zero cells = []
so_often (suc n) cells = so_often n cells ++ cells
