use Rattle.std.proofs.Common.{rules, ◌<◌, length}
use Rattle.script_doc.proofs.SkippedLemmas.{said_by_first, said_by_last}
use Rattle.script_doc.proofs.line.is_said.Goals as goal

pub returns-then-line-gt35 : goal.returns-then-line-gt35
returns-then-line-gt35 c =
    let some : 0 < length c.args.line.now = search rules in
    λ _. said_by_first c.args.line.now some c.if-line-gt35.true

pub returns : goal.returns
returns c =
    let some : 0 < length c.args.line.now = search rules in
    λ other. said_by_last c.args.line.now some c.if-line-eq35.false other
