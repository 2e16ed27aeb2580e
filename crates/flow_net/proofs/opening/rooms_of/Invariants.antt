use Rattle.std.proofs.Common.{◌≡◌, ℕ, ◌+◌, ◌*◌, ◌<◌, length, get_or}
use Rattle.flow_net.specs.Load.{used, span}
use Rattle.flow_net.specs.Flows.{flow_of}
use Rattle.flow_net.specs.Inside.Demanded.{load}
use Rattle.flow_net.proofs.opening.rooms_of.Given as goal

abbrev pub invariant-loop-i : goal.invariant-loop-i
invariant-loop-i l = record {
  len : length l.room.items ≡ l.i;
  fits : (j : ℕ) → j < l.i
      → get_or l.room.items j 0 + used (load l.demands) (flow_of l.rows.items) j
      ≡ (load l.demands).cores * span (load l.demands) j;
}
