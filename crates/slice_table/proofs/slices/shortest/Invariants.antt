use Rattle.std.proofs.Common.{◌≡◌, ℕ, ◌+◌, ◌<◌, ◌≤◌}
use Rattle.std.specs.Prelude.{slice_index}
use Rattle.slice_table.specs.Slices.{begin_at, ends_of}
use Rattle.slice_table.proofs.slices.shortest.Given as goal

-- the shortest of the spans so far
abbrev pub invariant-loop-number : goal.invariant-loop-number
invariant-loop-number l = record {
  begin : l.begin ≡ begin_at (ends_of l.spans) l.number;
  long : (k : ℕ) → k < l.number
      → begin_at (ends_of l.spans) k + l.least ≤ slice_index (ends_of l.spans) k;
  met : (k : ℕ) × (k < l.number)
      × (begin_at (ends_of l.spans) k + l.least ≡ slice_index (ends_of l.spans) k);
}
