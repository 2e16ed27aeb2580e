use Rattle.std.proofs.Common.{◌≡◌, take}
use Rattle.plan_book.specs.Courses.{ticks_of}
use Rattle.plan_book.proofs.make.ticks_in.Given as goal

abbrev pub invariant-loop-event : goal.invariant-loop-event
invariant-loop-event l = l.ticks.items ≡ ticks_of (take l.event-index l.events)
