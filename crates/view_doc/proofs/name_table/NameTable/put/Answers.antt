use Rattle.std.proofs.Common.{◌≡◌, ◌≤◌, ◌∷◌, [], ◌++◌, length, Some, nat_cmp, rules, arith}
use Rattle.std.proofs.lemmas.Grind.{common_steps}
use Rattle.std.specs.BTreeMap.{IsUnchanged, Updates}
use Rattle.std.specs.Cmp.Lexicographic.{slice_cmp}
use Rattle.tab_core.specs.declared.TheConstants.{MAX_VCPUS}
use Rattle.vcpu_names.specs.Names.{HasNumbers}
use Rattle.vcpu_names.proofs.NameMapLemmas.{has_more}
use Rattle.view_doc.proofs.NameLemmas.{unchanged_numbers}
use Rattle.view_doc.proofs.name_table.NameTable.put.Goals as goal

pub invariant_of-self-then-is_err-2 : goal.invariant_of-self-then-is_err-2
invariant_of-self-then-is_err-2 c =
    let items : c.pop.new.self.items ≡ c.self.inside.names.items = grind (arith, common_steps) in
    let unchanged : IsUnchanged c.self.inside.numbers c.insert.new.self = search rules in
    rw items (c.self.invariant.0, unchanged_numbers _ _ _ unchanged c.self.invariant.1)

pub invariant_of-self-2 : goal.invariant_of-self-2
invariant_of-self-2 c =
    let pushed : c.push.new.self.items ≡ c.self.inside.names.items ++ c.args.name.now ∷ [] =
    grind (arith, common_steps) in
    let size : length c.push.new.self.items ≤ MAX_VCPUS = grind (arith, common_steps) in
    let updates : Updates (λ a b. slice_cmp nat_cmp a.now b.now) c.self.inside.numbers
    c.insert.new.self c.args.name (Some c.len-2.result) = search rules in
    let next : c.len-2.result ≡ length c.self.inside.names.items = grind (arith, common_steps) in
    let has : HasNumbers (c.self.inside.names.items ++ c.args.name.now ∷ []) c.insert.new.self =
    has_more c.self.inside.names.items c.self.inside.numbers c.insert.new.self c.args.name c.len-2.result
    c.self.invariant.1 c.requires next updates in
    (size, rw pushed has)
