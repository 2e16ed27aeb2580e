use Rattle.table_form.proofs.JoiningLemmas.{HasJoined}
use Rattle.table_form.proofs.segments.join_neighbours.Given as goal

-- the segments kept so far are the maximal ones before this index
abbrev pub invariant-loop-at : goal.invariant-loop-at
invariant-loop-at l = HasJoined l.initial.segments.items l.segments.items l.kept l.at
