use Rattle.std.proofs.Common.{length}
use Rattle.script_doc.proofs.ReadingLemmas.{EditsSoFar}
use Rattle.script_doc.proofs.event_reader.edits_of.Given as goal

abbrev pub invariant-loop-kind : goal.invariant-loop-kind
invariant-loop-kind l = EditsSoFar l.names l.fn.words l.words l.edits.items l.all_known

abbrev pub decreases-loop-kind : goal.decreases-loop-kind
decreases-loop-kind l = length l.words
