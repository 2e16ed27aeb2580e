use Rattle.std.proofs.Common.{◌≡◌, ℕ, length, Some}
use Rattle.table_form.specs.Tables.Serves.{owner_at}
use Rattle.tests_library.proofs.samples.idle_rows.Given as goal

abbrev pub invariant-loop-core : goal.invariant-loop-core
invariant-loop-core l = record {
  count : length l.rows.items ≡ l.core;
  idle : (c x v : ℕ) → owner_at l.rows.items c x ≡ Some v → ⊥;
}
