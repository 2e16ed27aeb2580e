use Rattle.std.proofs.Common.{◌≡◌, ℕ, List, IfNone, subst, rules}
use Rattle.vcpu_names.specs.Names.{IsUnknown, names_of, number_at}
use Rattle.vcpu_names.proofs.NameMapLemmas.{unknown_if}
use Rattle.vcpu_names.proofs.names.Names.found_in_map.Goals as goal

pub returns-clause-unknown : goal.returns-clause-unknown
returns-clause-unknown c =
    let is : c.copied.result ≡ number_at c.self.inside.numbers c.args.name.now = search rules in
    subst (λ (names : List (List ℕ)). IfNone c.copied.result (IsUnknown names c.args.name.now)) c.self.view_is
    (unknown_if (names_of c.self.inside.vcpus.now) c.self.inside.numbers c.args.name.now
    c.copied.result c.self.invariant is)
