use Rattle.std.proofs.Common.{refl, subst, ◌∙◌}
use Rattle.tab_words.specs.Lines.{lines_of}
use Rattle.host_judge.specs.Faults.{IsFaultIn}
use Rattle.host_judge.proofs.PieceLemmas.{rest_fault, rest_read}
use Rattle.host_judge.proofs.ReportLemmas.{told_of}
use Rattle.host_judge.proofs.judging.finish.Goals as goal

pub returns-in-Err-clause-fault : goal.returns-in-Err-clause-fault
returns-in-Err-clause-fault c = λ bytes has.
    subst (λ names. IsFaultIn names (lines_of bytes) c.in-Err.fault) c.requires.names
    (rest_fault bytes c.args.held.now _ c.in-Err.fault c.args.reading has c.in-Err.ensures.fault)

pub returns-in-Ok-clause-told : goal.returns-in-Ok-clause-told
returns-in-Ok-clause-told c = λ bytes has.
    told_of c.args.window_ns c.args.vcpus.now c.args.owed.now bytes c.take_lines.new.self _
    (rest_read bytes c.args.held.now c.args.reading c.take_lines.new.self has c.in_default.ensures.read)
    (c.in_default.ensures.names ∙ c.requires.names) (c.in_default.ensures.terms ∙ c.requires.terms)
    c.in-Ok.ensures.each c.in-Ok.ensures.many refl refl refl refl refl refl
