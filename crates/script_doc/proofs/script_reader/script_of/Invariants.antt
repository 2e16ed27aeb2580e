use Rattle.script_doc.proofs.ScriptLemmas.{EventsSoFar}
use Rattle.script_doc.proofs.script_reader.script_of.Given as goal

abbrev pub invariant-loop-line : goal.invariant-loop-line
invariant-loop-line l =
    EventsSoFar l.names l.rounds l.bytes l.number l.tick l.changes l.events.items l.line-iterator
