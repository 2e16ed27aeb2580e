-- What the cells that the writers name write.
use Rattle.std.specs.Prelude.{ℕ, List, ◌==◌, if◌then◌else◌, [], codes, Bool, true, false}
use Rattle.view_cells.specs.Cells.{count_cell, left, millis_cell, percent_cell, right}
use Rattle.view_cells.specs.declared.cells.Cell.{Cell}
use Rattle.view_cells.specs.declared.cells.Cell.TheVariants.{Text, Left, Right, Count, Percent, Millis}

-- the bytes that a cell writes
abbrev pub cell_text : Cell → List ℕ
cell_text (Text text) = text.now
cell_text (Left width text) = left width text.now
cell_text (Right width text) = right width text.now
cell_text (Count width n) = count_cell width n
cell_text (Percent width ppm) = percent_cell width ppm
cell_text (Millis width ns) = millis_cell width ns

-- a comma before each but the first
abbrev pub comma_before : ℕ → List ℕ
comma_before n = if n == 0 then [] else codes ","

-- a truth value in JSON and in a column
abbrev pub truth_text : Bool → List ℕ
truth_text true = codes "true"
truth_text false = codes "false"
