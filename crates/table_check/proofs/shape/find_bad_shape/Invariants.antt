use Rattle.std.proofs.Common.{◌≡◌, ℕ, ◌<◌, None}
use Rattle.table_check.specs.Shapes.{bad_at}
use Rattle.table_check.proofs.shape.find_bad_shape.Given as goal

-- the shapes of the cores so far are good
abbrev pub invariant-loop-core : goal.invariant-loop-core
invariant-loop-core l = (lower : ℕ) → lower < l.core → bad_at l.raw lower ≡ None
