use Rattle.std.proofs.Common.{List, length, sym, subst, arith}
use Rattle.step_machine.specs.declared.core_log.CoreLog.{CoreLog}
use Rattle.step_machine.specs.Inside.Logs.{AreLogsNew}
use Rattle.step_machine.proofs.RunLemmas.{new_more}
use Rattle.step_machine.proofs.world.new_logs.Goals as goal

pub filling-preserved : goal.filling-preserved
filling-preserved c =
    let logs = c.filling.logs.items in
    let more = new_more (length logs) c.args.rounds c.args.turns logs c.in_ok-log.log
    c.filling.invariant.new c.in_ok-log.ensures in
    record {
      new = subst (λ (xs : List CoreLog). AreLogsNew (length xs) c.args.rounds c.args.turns xs)
          (sym c.push_reserved.ensures.items) more;
      within = omega (arith, c.push_reserved.ensures.len);
      room = omega (arith, c.push_reserved.ensures.capacity, c.filling.invariant.room);
    }
