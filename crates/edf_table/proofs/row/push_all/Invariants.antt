use Rattle.edf_table.proofs.RepetitionLemmas.{HaveCome}
use Rattle.edf_table.proofs.row.push_all.Given as goal

abbrev pub invariant-loop-segment : goal.invariant-loop-segment
invariant-loop-segment l = HaveCome l.segments l.initial.row.items l.row.items l.begin l.segment-index
