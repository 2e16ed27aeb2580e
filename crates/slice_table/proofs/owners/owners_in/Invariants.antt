use Rattle.std.proofs.Common.{◌≡◌, ℕ, ◌<◌, ◌≤◌, Some, IsTrue, get_or, length}
use Rattle.std.specs.Prelude.{slice_get}
use Rattle.tab_core.specs.VcpuSets.{has_vcpu}
use Rattle.tab_core.specs.declared.TheConstants.{MAX_VCPUS}
use Rattle.table_form.specs.declared.segment.Segment.{Segment}
use Rattle.table_form.specs.Tables.Rows.{cells_from}
use Rattle.table_form.proofs.Shapes.{IsAhead}
use Rattle.slice_table.proofs.owners.owners_in.Given as goal

-- the set has the vCPUs that own a tick of the segments so far
abbrev pub invariant-loop-at : goal.invariant-loop-at
invariant-loop-at l = record {
  begin : ℕ;
  low : (k : ℕ) (d : Segment) → l.at ≤ k → k < length l.segments → begin < (get_or l.segments k d).end;
  ahead : (x : ℕ) → begin ≤ x → IsAhead l.segments x l.at;
  size : length l.owners ≡ MAX_VCPUS;
  all : (x v : ℕ) → x < begin → v < MAX_VCPUS → slice_get (cells_from 0 l.segments) x ≡ Some (Some v)
      → IsTrue (has_vcpu l.owners v);
  found : (v : ℕ) → v < MAX_VCPUS → IsTrue (has_vcpu l.owners v)
      → (x : ℕ) × (slice_get (cells_from 0 l.segments) x ≡ Some (Some v));
}
