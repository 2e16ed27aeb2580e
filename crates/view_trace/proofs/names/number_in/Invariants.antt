use Rattle.std.proofs.Common.{◌≢◌, ℕ, ◌<◌}
use Rattle.vcpu_names.specs.Names.{name_at}
use Rattle.view_trace.proofs.names.number_in.Given as goal

-- none of those so far has the name
abbrev pub invariant-loop-v : goal.invariant-loop-v
invariant-loop-v l = (w : ℕ) → w < l.v → name_at l.names w ≢ l.name
