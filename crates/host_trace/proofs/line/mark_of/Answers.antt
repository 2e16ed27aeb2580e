use Rattle.std.proofs.Common.{refl}
use Rattle.host_trace.proofs.MarkLemmas.{found, nothing_said, said}
use Rattle.host_trace.proofs.line.mark_of.Goals as goal

pub returns : goal.returns
returns c = (
  refl,
  said _ _ _ _ c.in-Some.ensures (found _ _ _ c.number_of.ensures.known c.number_of.ensures.unknown),
)

pub returns-in_default : goal.returns-in_default
returns-in_default c = nothing_said _ _ c.in_default.ensures
