use Rattle.std.proofs.Common.{◌≡◌, take}
use Rattle.table_check.specs.Shapes.{rows_of}
use Rattle.table_check.proofs.shape.build_rows.Given as goal

-- the rows of the cores so far
abbrev pub invariant-loop-segments : goal.invariant-loop-segments
invariant-loop-segments l = l.rows.items ≡ rows_of (take l.segments-index l.raw)
