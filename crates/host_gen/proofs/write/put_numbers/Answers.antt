use Rattle.host_gen.proofs.HostTextLemmas.{number_pieces}
use Rattle.host_gen.proofs.write.put_numbers.Goals as goal

pub returns : goal.returns
returns g c = rw (number_pieces c.args.host.now) c.put_pieces.ensures
