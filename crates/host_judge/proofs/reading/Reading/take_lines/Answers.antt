use Rattle.std.proofs.Common.{◌∷◌, subst, ◌∙◌}
use Rattle.host_judge.proofs.ReadingLemmas.{GoesOn, breaks, goes_on}
use Rattle.host_judge.proofs.reading.Reading.take_lines.Goals as goal

pub returns-in-Err-clause-fault : goal.returns-in-Err-clause-fault
returns-in-Err-clause-fault c =
    let at : GoesOn c.args.text.now c.args.self.now c.loop-line.self (c.in-Some.line.now ∷ c.next.new.self) =
    subst (GoesOn c.args.text.now c.args.self.now c.loop-line.self) c.in-Some.ensures.steps c.loop-line.invariant.on in
    breaks _ _ _ _ _ _ at c.loop-line.invariant.names c.in-Err.ensures.fault

pub loop-line-preserved : goal.loop-line-preserved
loop-line-preserved c =
    let at : GoesOn c.args.text.now c.args.self.now c.loop-line.self (c.in-Some.line.now ∷ c.next.new.self) =
    subst (GoesOn c.args.text.now c.args.self.now c.loop-line.self) c.in-Some.ensures.steps c.loop-line.invariant.on in
    record {
      names = c.in_default.ensures.names ∙ c.loop-line.invariant.names;
      terms = c.in_default.ensures.terms ∙ c.loop-line.invariant.terms;
      on = goes_on _ _ _ _ _ _ at c.in_default.ensures.read;
    }
