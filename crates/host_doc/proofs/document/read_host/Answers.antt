use Rattle.toml.specs.View.{table_view}
use Rattle.host_doc.proofs.DocumentLemmas.{no_not_toml}
use Rattle.host_doc.proofs.document.read_host.Goals as goal

pub returns-in-Ok-clause-not_toml : goal.returns-in-Ok-clause-not_toml
returns-in-Ok-clause-not_toml c =
    λ is _ _. no_not_toml c.host_of.result (table_view c.in-Ok.table) c.host_of.ensures.fault is
