use Rattle.std.proofs.Common.{◌≡◌, ◌||◌, ℕ, List, true, false, bytes_eq, rules, arith}
use Rattle.std.proofs.lemmas.Grind.{common_steps}
use Rattle.tab_core.specs.Name.{IsName}
use Rattle.host_doc.specs.Inside.TextSets.{has_text}
use Rattle.sizes_doc.proofs.TwiceLemmas.{all_new, more_new, twice}
use Rattle.sizes_doc.proofs.twice.first_twice.Goals as goal

pub returns-then-not-branch : goal.returns-then-not-branch
returns-then-not-branch c =
    let vcpu = c.index-vcpus-index.result in
    let held : has_text c.loop-index.names vcpu.name ≡ true = grind (arith, common_steps) in
    twice c.args.vcpus.now c.loop-index.index c.loop-index.names vcpu c.loop-index.invariant
    c.loop-index-test.true c.index-vcpus-index.is held

pub loop-index-preserved : goal.loop-index-preserved
loop-index-preserved c =
    let vcpu = c.index-vcpus-index.result in
    let good : IsName vcpu.name = search rules in
    let absent : has_text c.loop-index.names vcpu.name ≡ false = grind (arith, common_steps) in
    let adds : (text : List ℕ) → has_text c.add_name.new.names text
    ≡ (bytes_eq text vcpu.name || has_text c.loop-index.names text) =
    grind (arith, common_steps) in
    more_new c.args.vcpus.now c.loop-index.index c.loop-index.names c.add_name.new.names vcpu
    c.loop-index.invariant c.loop-index-test.true c.index-vcpus-index.is good absent adds

pub returns : goal.returns
returns c = all_new c.args.vcpus.now c.loop-index.index c.loop-index.names c.loop-index.invariant (omega arith)
