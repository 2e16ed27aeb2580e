use Rattle.host_doc.proofs.TextSetsLemmas.{has_text-added}
use Rattle.host_doc.proofs.vcpus.add_text.Goals as goal

pub returns-clause-holds : goal.returns-clause-holds
returns-clause-holds c = has_text-added c.args.texts.now c.insert.new.self c.args.text
    c.in_ok-added.ensures.updates
