use Rattle.std.proofs.Common.{◌≡◌, codes, rules}
use Rattle.script_doc.proofs.ReadingLemmas.{unknown_leave, unknown_set}
use Rattle.script_doc.proofs.event_reader.edit_of.Goals as goal

pub returns-in-None-clause-ok : goal.returns-in-None-clause-ok
returns-in-None-clause-ok c =
    let is : c.args.kind.now ≡ codes "leave" = search rules in
    unknown_leave _ _ _ _ _ is c.in-Some.ensures.steps c.in_ok-vcpu.ensures.name
    (rw c.in-None.is at c.in_ok-vcpu.ensures.found)

pub returns-in-None-2-clause-ok : goal.returns-in-None-2-clause-ok
returns-in-None-2-clause-ok c =
    let is : c.args.kind.now ≡ codes "set" = search rules in
    let means = c.in-Some-reservation_of.ensures in
    unknown_set _ _ _ _ _ _ _ _ _ _ _ is c.in-Some.ensures.steps c.in-Some-Some.ensures.steps
    c.in-Some-Some.ensures'.steps
    means.0 means.1 means.2 means.3 means.4 c.in_ok-vcpu-2.ensures.name
    (rw c.in-None-2.is at c.in_ok-vcpu-2.ensures.found)
