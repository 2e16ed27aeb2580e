use Rattle.std.proofs.Common.{rules, ◌≡◌, ◌<◌, ◌∙◌, sym, Some, length, get_or, slice_get}
use Rattle.std.proofs.lemmas.Option.{slice_get-get_or}
use Rattle.tab_core.specs.Name.{IsName}
use Rattle.tab_core.specs.declared.vcpu.Vcpu.{Vcpu}
use Rattle.vcpu_names.proofs.NameMapLemmas.{named}
use Rattle.vcpu_names.proofs.names.hinted.Goals as goal

pub returns-then-eq : goal.returns-then-eq
returns-then-eq c =
    let v : Vcpu = get_or c.args.vcpus.now c.from-at.result c.index-vcpus-at.result in
    let low : c.from-at.result < length c.args.vcpus.now = search rules in
    let is : slice_get c.args.vcpus.now c.from-at.result ≡ Some v =
    slice_get-get_or c.args.vcpus.now c.from-at.result c.index-vcpus-at.result low in
    let text : c.bytes-held.result.now ≡ c.args.name.now = search rules in
    let good : IsName v.name = c.bytes-held.ensures.good in
    named c.args.vcpus.now c.from-at.result v c.args.name.now is (sym c.bytes-held.ensures.same ∙ text) good
