use Rattle.script_doc.proofs.StepsLemmas.{AreRead}
use Rattle.script_doc.proofs.step_reader.read_steps.Given as goal

abbrev pub invariant-loop-line : goal.invariant-loop-line
invariant-loop-line l = AreRead l.cores l.bytes l.number l.steps.items l.numbers.items l.line-iterator
