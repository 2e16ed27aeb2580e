-- the first vCPUs have their homes
use Rattle.std.proofs.Common.{◌≡◌, ℕ, length, Option, Some, slice_get}
use Rattle.std.specs.Option.{option_map}
use Rattle.tab_core.specs.declared.periodic.Periodic.{Periodic}
use Rattle.wrap_table.specs.Inside.Homing.{IsMostOfFirst}
use Rattle.wrap_table.specs.declared.homing.Most.{Most}
use Rattle.wrap_table.proofs.homing.homes_of.Given as goal

abbrev pub invariant-loop-v : goal.invariant-loop-v
invariant-loop-v l = record {
  count : length l.homes.items ≡ l.v;
  each : (w : ℕ) (task : Option Periodic) (home : Option ℕ) → slice_get l.tasks w ≡ Some task
      → slice_get l.homes.items w ≡ Some home
      → (most : Most) × IsMostOfFirst l.rows w (length l.rows) most × (home
      ≡ option_map (λ _. most.core) task);
}
