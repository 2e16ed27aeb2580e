use Rattle.std.proofs.Common.{◌≡◌, ℕ, ◌<◌, ◌≤◌, Some}
use Rattle.std.specs.Prelude.{slice_get}
use Rattle.table_form.specs.Tables.Homes.{IsHome}
use Rattle.table_form.specs.declared.segment.Segment.{Segment}
use Rattle.run_limit.proofs.lanes.behind_others.Given as goal

-- the segments so far are of others
abbrev pub invariant-loop-at : goal.invariant-loop-at
invariant-loop-at l = record {
  later : l.from ≤ l.at;
  others : (k v : ℕ) (s : Segment) → l.from ≤ k → k < l.at → slice_get l.segments k ≡ Some s → s.owner ≡ Some v
      → IsHome l.homes l.core v → ⊥;
}
