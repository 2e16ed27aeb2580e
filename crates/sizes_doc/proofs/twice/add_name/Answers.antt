use Rattle.host_doc.proofs.TextSetsLemmas.{has_text-added}
use Rattle.sizes_doc.proofs.twice.add_name.Goals as goal

pub returns-clause-holds : goal.returns-clause-holds
returns-clause-holds c = has_text-added c.args.names.now c.insert.new.self c.args.name
    c.in_ok-added.ensures.updates
