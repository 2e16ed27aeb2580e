use Rattle.std.proofs.Common.{◌≡◌, ℕ, ◌+◌, ◌<◌, List, ◌∷◌, [], ◌++◌, length, take, Some, nat_cmp, rules, sym, ap, ◌∙◌, subst, arith}
use Rattle.std.specs.BTreeMap.{Updates}
use Rattle.std.specs.Cmp.Lexicographic.{slice_cmp}
use Rattle.tab_core.specs.Name.{IsName}
use Rattle.vcpu_names.specs.Names.{HasNumbers, names_of}
use Rattle.vcpu_names.proofs.NameMapLemmas.{good_in_whole, has_more, length_names, names_more}
use Rattle.vcpu_names.proofs.names.Names.of.Goals as goal

pub loop-index-preserved : goal.loop-index-preserved
loop-index-preserved c =
    let names = take c.loop-index.index (names_of c.args.vcpus.now) in
    let key = c.bytes.result in
    let low : c.loop-index.index < length c.args.vcpus.now = search rules in
    let good : IsName key.now = rw c.bytes.ensures.same c.bytes.ensures.good in
    let updates : Updates (λ a b. slice_cmp nat_cmp a.now b.now) c.loop-index.numbers
    c.insert.new.self key (Some c.loop-index.index) = search rules in
    let has : HasNumbers (names ++ key.now ∷ []) c.insert.new.self =
    has_more names c.loop-index.numbers c.insert.new.self key c.loop-index.index
    c.loop-index.invariant good (length_names c.args.vcpus.now c.loop-index.index low) updates
    in
    let more : take (c.loop-index.index + 1) (names_of c.args.vcpus.now) ≡ names ++ key.now ∷ [] =
    names_more c.args.vcpus.now c.loop-index.index c.index-vcpus-index.result low c.index-vcpus-index.is
    ∙ ap (λ (name : List ℕ). names ++ name ∷ []) (sym c.bytes.ensures.same) in
    subst (λ (ns : List (List ℕ)). HasNumbers ns c.insert.new.self) (sym more) has

pub returns-clause-good : goal.returns-clause-good
returns-clause-good c = good_in_whole c.args.vcpus.now c.loop-index.index c.loop-index.numbers
    (omega arith) c.loop-index.invariant
