use Rattle.slice_table.specs.Inside.Owners.{AreFirstOwners}
use Rattle.slice_table.proofs.owners.course_owners.Given as goal

abbrev pub invariant-loop-number : goal.invariant-loop-number
invariant-loop-number l = AreFirstOwners l.course.plans l.number l.owners.items
