use Rattle.host_gen.proofs.GeneratedLemmas.{one_host}
use Rattle.host_gen.proofs.laws.a_seed_has_one_host.Goals as goal

pub returns : goal.returns
returns c = one_host
