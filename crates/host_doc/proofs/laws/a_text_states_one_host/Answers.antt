use Rattle.host_doc.proofs.OneHost.{one_host}
use Rattle.host_doc.proofs.laws.a_text_states_one_host.Goals as goal

pub returns : goal.returns
returns c = one_host
