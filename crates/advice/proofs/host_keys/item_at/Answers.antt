use Rattle.advice.proofs.KeysLemmas.{item_found}
use Rattle.advice.proofs.host_keys.item_at.Goals as goal

pub returns : goal.returns
returns c = item_found c.get.result c.args.values.now c.args.number c.get.ensures.lookup.0
    c.get.ensures.lookup.1 c.get.ensures.lookup.2
