use Rattle.std.proofs.Common.{◌≡◌, ℕ, ◌-◌, ◌<◌, ◌≤◌, length, Some}
use Rattle.std.specs.Prelude.{slice_get}
use Rattle.tab_core.specs.declared.stint.Stint.{Stint}
use Rattle.burst_bound.proofs.sights.unseen_from.Given as goal

-- the stints so far haven't seen the event
abbrev pub invariant-loop-unseen : goal.invariant-loop-unseen
invariant-loop-unseen l = record {
  within : l.unseen ≤ length l.stints;
  unseen : (k : ℕ) (s : Stint) → k < l.unseen → slice_get l.stints k ≡ Some s → s.seen ≤ l.fn.event;
}

abbrev pub decreases-loop-unseen : goal.decreases-loop-unseen
decreases-loop-unseen l = length l.stints - l.unseen
