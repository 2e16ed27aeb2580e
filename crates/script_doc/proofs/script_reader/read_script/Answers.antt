use Rattle.std.proofs.Common.{◌≡◌, ap, ◌∙◌}
use Rattle.vcpu_names.specs.Names.{names_of}
use Rattle.script_doc.proofs.EventsLemmas.{distinct_names}
use Rattle.script_doc.proofs.OneScript.{fault_is_answered, known_vcpus, script_is_read}
use Rattle.script_doc.proofs.script_reader.read_script.Goals as goal

pub returns-clause-known : goal.returns-clause-known
returns-clause-known c =
    let named : c.in_ok-names.names ≡ names_of c.args.host.now.vcpus =
    c.in_ok-names.ensures.names ∙ ap names_of c.items.ensures.same in
    known_vcpus _ _ _ c.script_of.result (rw named at c.script_of.ensures.ok)

pub returns-clause-read : goal.returns-clause-read
returns-clause-read c events =
    let named : c.in_ok-names.names ≡ names_of c.args.host.now.vcpus =
    c.in_ok-names.ensures.names ∙ ap names_of c.items.ensures.same in
    let distinct = distinct_names _ c.items.ensures.distinct in
    script_is_read _ _ _ c.script_of.result events distinct (rw named at c.script_of.ensures.ok)
    (rw named at c.script_of.ensures.fault)

pub returns-clause-due : goal.returns-clause-due
returns-clause-due c fault =
    let named : c.in_ok-names.names ≡ names_of c.args.host.now.vcpus =
    c.in_ok-names.ensures.names ∙ ap names_of c.items.ensures.same in
    let distinct = distinct_names _ c.items.ensures.distinct in
    fault_is_answered _ _ _ c.script_of.result fault distinct (rw named at c.script_of.ensures.ok)
    (rw named at c.script_of.ensures.fault)
