use Rattle.std.proofs.Common.{◌≡◌, ℕ, List, ◌∷◌, [], ◌++◌, ◌||◌, Some, None, Ok, false, bytes_eq, length, refl, sym, inr, ◌∙◌, arith}
use Rattle.std.proofs.lemmas.Grind.{common_steps}
use Rattle.std.specs.List.{list_any}
use Rattle.toml.specs.Data.{as_table}
use Rattle.toml.specs.View.{table_view, view}
use Rattle.host_doc.specs.KeyTable.{name_of}
use Rattle.host_doc.specs.VcpuFaults.{settings_fault}
use Rattle.host_doc.specs.Vcpus.{IsVcpuOf}
use Rattle.host_doc.specs.Inside.TextSets.{has_text}
use Rattle.host_doc.proofs.TextSetsLemmas.{absent_if_new}
use Rattle.host_doc.proofs.VcpusLemmas.{all_faultless, all_read, fault_from, fault_named, names, read_more}
use Rattle.host_doc.proofs.vcpus.vcpus_of.Goals as goal

pub returns-in_default-clause-fault : goal.returns-in_default-clause-fault
returns-in_default-clause-fault c =
    let here = fault_from c.args.values.now (names c.loop-index.vcpus.items) c.loop-index.index
    c.index-values-index.result c.loop-index-test.true c.index-values-index.is
    c.loop-index.invariant.rest in
    let none : as_table (view c.index-values-index.result) ≡ None =
    sym (rw c.in_default.is at c.as_table.ensures) in
    inr (here ∙ rw (none, c.of_vcpu.ensures) refl)

pub returns-in_err-text-clause-fault : goal.returns-in_err-text-clause-fault
returns-in_err-text-clause-fault c =
    let here = fault_from c.args.values.now (names c.loop-index.vcpus.items) c.loop-index.index
    c.index-values-index.result c.loop-index-test.true c.index-values-index.is
    c.loop-index.invariant.rest in
    grind (arith, common_steps)

pub returns-in_err-name-clause-fault : goal.returns-in_err-name-clause-fault
returns-in_err-name-clause-fault c =
    let here = fault_from c.args.values.now (names c.loop-index.vcpus.items) c.loop-index.index
    c.index-values-index.result c.loop-index-test.true c.index-values-index.is
    c.loop-index.invariant.rest in
    grind (arith, common_steps)

pub returns-then-not-branch-clause-fault : goal.returns-then-not-branch-clause-fault
returns-then-not-branch-clause-fault c =
    let here = fault_from c.args.values.now (names c.loop-index.vcpus.items) c.loop-index.index
    c.index-values-index.result c.loop-index-test.true c.index-values-index.is
    c.loop-index.invariant.rest in
    grind (arith, common_steps)

pub returns-in_err-vcpu-clause-fault : goal.returns-in_err-vcpu-clause-fault
returns-in_err-vcpu-clause-fault c =
    let earlier = names c.loop-index.vcpus.items in
    let number = c.loop-index.index in
    let found = table_view c.in-Some.table.now in
    let value = c.index-values-index.result in
    let table_is : as_table (view value) ≡ Some found = sym (rw c.in-Some.is at c.as_table.ensures) in
    let named : name_of number found ≡ Ok c.in_ok-name.name = grind (arith, common_steps) in
    let absent : has_text c.loop-index.names c.in_ok-name.name ≡ false =
    rw c.in_ok-name.ensures.same
    (absent_if_new c.in_ok-add_text.field-0 c.loop-index.names c.in_ok-text.text.now
    c.if-not-branch.false c.in_ok-add_text.ensures.added) in
    let new : list_any (bytes_eq c.in_ok-name.name) earlier ≡ false =
    sym (c.loop-index.invariant.held c.in_ok-name.name) ∙ absent in
    let here = fault_from c.args.values.now earlier number value c.loop-index-test.true
    c.index-values-index.is c.loop-index.invariant.rest in
    let behind = fault_named earlier number (as_table (view value)) found c.in_ok-name.name table_is
    named new in
    grind (arith, common_steps)

pub loop-index-preserved : goal.loop-index-preserved
loop-index-preserved c =
    let number = c.loop-index.index in
    let found = table_view c.in-Some.table.now in
    let value = c.index-values-index.result in
    let vcpu = c.in_ok-vcpu.vcpu in
    let table_is : as_table (view value) ≡ Some found = sym (rw c.in-Some.is at c.as_table.ensures) in
    let named : name_of number found ≡ Ok vcpu.name = grind (arith, common_steps) in
    let absent : has_text c.loop-index.names vcpu.name ≡ false =
    rw (c.in_ok-vcpu.ensures.name, c.in_ok-name.ensures.same)
    (absent_if_new c.in_ok-add_text.field-0 c.loop-index.names c.in_ok-text.text.now
    c.if-not-branch.false c.in_ok-add_text.ensures.added) in
    let settled : settings_fault number found ≡ None = sym c.in_ok-vcpu.ensures.fault in
    let this : IsVcpuOf number found vcpu =
    record {
      name = named;
      reservation = c.in_ok-vcpu.ensures.reservation;
      runnable = c.in_ok-vcpu.ensures.runnable;
      capped = c.in_ok-vcpu.ensures.capped;
    } in
    let adds : (text : List ℕ) → has_text c.add_text.new.texts text
    ≡ (bytes_eq text vcpu.name || has_text c.loop-index.names text) =
    rw (c.in_ok-vcpu.ensures.name, c.in_ok-name.ensures.same) c.in_ok-add_text.ensures.holds in
    let pushed : c.push.new.self.items ≡ c.loop-index.vcpus.items ++ vcpu ∷ [] =
    c.in_ok-push.ensures.items in
    rw pushed
    (read_more c.args.values.now number c.loop-index.names c.add_text.new.texts
    c.loop-index.vcpus.items vcpu value found c.loop-index.invariant c.loop-index-test.true
    c.index-values-index.is table_is this settled absent adds)

pub returns-clause-ok : goal.returns-clause-ok
returns-clause-ok c =
    let all : c.loop-index.index ≡ length c.args.values.now = omega arith in
    rw c.of.ensures
    (all_read c.args.values.now c.loop-index.index c.loop-index.names c.loop-index.vcpus.items
    c.loop-index.invariant all)

pub returns-clause-faultless : goal.returns-clause-faultless
returns-clause-faultless c = all_faultless c.args.values.now c.loop-index.index c.loop-index.names
    c.loop-index.vcpus.items c.loop-index.invariant c.loop-index-test.false
