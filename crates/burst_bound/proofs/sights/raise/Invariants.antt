use Rattle.std.proofs.Common.{◌≡◌, ℕ, ◌<◌, ◌≤◌, length, Some}
use Rattle.std.specs.Prelude.{slice_get, slice_index}
use Rattle.tab_core.specs.declared.stint.Stint.{Stint}
use Rattle.burst_bound.specs.Inside.Seeing.{IsRaised}
use Rattle.burst_bound.proofs.sights.raise.Given as goal

-- the events so far are raised
abbrev pub invariant-loop-event : goal.invariant-loop-event
invariant-loop-event l = record {
  size : length l.sights ≡ length l.fn.sights;
  within : l.unseen ≤ length l.stints;
  unseen : (k : ℕ) (s : Stint) → k < l.unseen → slice_get l.stints k ≡ Some s → s.seen ≤ l.event;
  raised : (e : ℕ) → e < l.event → IsRaised e l.stints (slice_index l.fn.sights e) (slice_index l.sights e);
  rest : (e : ℕ) → l.event ≤ e → slice_index l.sights e ≡ slice_index l.fn.sights e;
}
