use Rattle.std.proofs.Common.{◌≤◌, arith}
use Rattle.script_doc.specs.declared.event.TheConstants.{MAX_WORK}
use Rattle.script_doc.proofs.ReadingLemmas.{unknown_burst}
use Rattle.script_doc.proofs.event_reader.burst_of.Goals as goal

pub returns-in-None-clause-unknown_name : goal.returns-in-None-clause-unknown_name
returns-in-None-clause-unknown_name c =
    let read = c.in-Some-Some-None in
    let means = c.in-Some.ensures in
    let bounded : c.in-Some.work ≤ MAX_WORK = omega (arith, means.1, c.from.ensures) in
    λ _. unknown_burst _ _ _ _ _ _ _ read.ensures.steps read.ensures'.steps read.ensures''.steps.0
    means.2 means.0 bounded c.in_ok-vcpu.ensures.name (rw c.in-None.is at c.in_ok-vcpu.ensures.found)
