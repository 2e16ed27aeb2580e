use Rattle.plan_book.specs.Inside.Making.{BookInvariant}
use Rattle.plan_book.specs.Mades.{AreMadeOf}
use Rattle.plan_book.proofs.make.known_at_end.Given as goal

abbrev pub invariant-loop-event : goal.invariant-loop-event
invariant-loop-event l = record {
  book : BookInvariant l.host l.script l.event-index l.so_far l.counts.numbers.items l.counts.runnable.items;
  made : AreMadeOf l.host l.script l.made;
}
