use Rattle.std.proofs.Common.{◌≡◌, rules}
use Rattle.vcpu_names.specs.Names.{number_at}
use Rattle.view_doc.proofs.NameLemmas.{found, not_found}
use Rattle.view_doc.proofs.name_table.NameTable.found_in_map.Goals as goal

pub returns-clause-known : goal.returns-clause-known
returns-clause-known c =
    let is : c.copied.result ≡ number_at c.self.inside.numbers c.args.name.now = search rules in
    rw (← c.self.view_is)
    (found c.self.inside.names.items c.self.inside.numbers c.args.name.now c.copied.result c.self.invariant.1 is)

pub returns-clause-unknown : goal.returns-clause-unknown
returns-clause-unknown c =
    let is : c.copied.result ≡ number_at c.self.inside.numbers c.args.name.now = search rules in
    rw (← c.self.view_is)
    (not_found c.self.inside.names.items c.self.inside.numbers c.args.name.now c.copied.result
    c.self.invariant.1 is)
