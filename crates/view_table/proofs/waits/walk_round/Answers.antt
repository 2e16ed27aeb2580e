use Rattle.std.proofs.Common.{rules}
use Rattle.view_table.proofs.WalkLemmas.{walk_step}
use Rattle.view_table.proofs.waits.walk_round.Goals as goal

pub loop-slot-preserved : goal.loop-slot-preserved
loop-slot-preserved c = record {
  ends = search rules;
  waits = search rules;
  marks = search rules;
  walked = λ served v low walked.
      walk_step served c.args.order.now c.loop-slot.slot-index c.slot-item.result v c.args.base _ _ _ _ _ _
      c.requires.rise (search rules) (search rules) (c.walk_on.ensures.ends v (search rules))
      (c.walk_on.ensures.waits v (search rules))
      (c.walk_on.ensures.marks v (search rules)) (c.loop-slot.invariant.walked served v low walked);
}
