use Rattle.flow_net.proofs.Marking.{marks_more, marks_end}
use Rattle.flow_net.proofs.marks.marks_of_few.Goals as goal

pub loop-tick-preserved : goal.loop-tick-preserved
loop-tick-preserved c =
    rw c.in_ok-push-2.ensures.items
    (marks_more c.args.periods.now c.loop-tick.marks.items c.loop-tick.tick c.next_mark-tick.result
    c.loop-tick.invariant c.next_mark-tick.ensures)

pub returns : goal.returns
returns c = marks_end c.args.periods.now c.loop-tick.marks.items c.loop-tick.tick c.loop-tick.invariant
    c.loop-tick-test.false
