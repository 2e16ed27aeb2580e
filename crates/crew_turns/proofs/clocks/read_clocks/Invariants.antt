use Rattle.std.proofs.Common.{◌≡◌, ◌<◌, ℕ, length}
use Rattle.std.specs.Prelude.{slice_index}
use Rattle.round_words.specs.Seats.{view_of}
use Rattle.crew_turns.specs.Inside.Clocks.{IsClockOf}
use Rattle.crew_turns.proofs.clocks.read_clocks.Given as goal

abbrev pub invariant-loop-core : goal.invariant-loop-core
invariant-loop-core g l = record {
  size : length l.ticks ≡ 32;
  read : (d : ℕ) → d < l.core → IsClockOf g.C.Stepper.kind l.fn.cores (view_of l.fn.seat) d (slice_index l.ticks d);
}
