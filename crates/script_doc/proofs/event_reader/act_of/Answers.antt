use Rattle.std.proofs.Common.{◌≡◌, codes, rules}
use Rattle.script_doc.proofs.ReadingLemmas.{handed_on, unknown_block, unknown_change, unknown_wake}
use Rattle.script_doc.proofs.event_reader.act_of.Goals as goal

pub returns-in_err-vcpu-clause-unknown_name : goal.returns-in_err-vcpu-clause-unknown_name
returns-in_err-vcpu-clause-unknown_name c =
    let kind : c.in-Some.kind.now ≡ codes "wake" = search rules in
    λ is. unknown_wake _ _ _ _ kind c.in-Some.ensures.steps
    (c.in_err-vcpu.ensures.unknown_name
    (handed_on c.from_residual.result c.in_err-vcpu.field-0.0 _ c.from_residual.ensures.1 is))

pub returns-in_err-vcpu-2-clause-unknown_name : goal.returns-in_err-vcpu-2-clause-unknown_name
returns-in_err-vcpu-2-clause-unknown_name c =
    let kind : c.in-Some.kind.now ≡ codes "block" = search rules in
    λ is. unknown_block _ _ _ _ kind c.in-Some.ensures.steps
    (c.in_err-vcpu-2.ensures.unknown_name
    (handed_on c.from_residual-in_err-vcpu-2.result c.in_err-vcpu-2.field-0.0 _
    c.from_residual-in_err-vcpu-2.ensures.1 is))

pub returns-in_err-edits-clause-unknown_name : goal.returns-in_err-edits-clause-unknown_name
returns-in_err-edits-clause-unknown_name c =
    let kind : c.in-Some.kind.now ≡ codes "change" = search rules in
    λ is. unknown_change _ _ _ _ kind c.in-Some.ensures.steps
    (c.in_err-edits.ensures.unknown_name
    (handed_on c.from_residual-in_err-edits.result c.in_err-edits.field-0.0 _
    c.from_residual-in_err-edits.ensures.1 is))
