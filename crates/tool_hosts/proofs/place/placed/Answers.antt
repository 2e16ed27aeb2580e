use Rattle.std.proofs.Common.{ap, length}
use Rattle.std.proofs.lemmas.List.{length-map}
use Rattle.tool_hosts.proofs.place.placed.Goals as goal

pub returns-in-Ok-clause-hosts : goal.returns-in-Ok-clause-hosts
returns-in-Ok-clause-hosts c = simp length-map at (ap length c.in-Ok.ensures.cores)
