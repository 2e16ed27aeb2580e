use Rattle.std.proofs.Common.{◌+◌, Some, refl, subst, arith}
use Rattle.step_machine.specs.declared.core_log.CoreLog.{CoreLog}
use Rattle.step_machine.specs.Inside.Logs.{LogHasRoom}
use Rattle.step_machine.proofs.LogLemmas.{found_at}
use Rattle.step_machine.proofs.updates.take_count.Goals as goal

pub returns : goal.returns
returns c = λ before at.
    let was = c.index_mut.result.now in
    let is = found_at c.args.logs.now.items c.args.c was before at c.index_mut.ensures.value in
    record {
      log = record was { seen = Some c.args.count };
      becomes = refl;
      core = rw is refl;
      last_is = rw is refl;
      room = λ rounds n h.
          (let room = subst (λ (x : CoreLog). LogHasRoom rounds (n + 1) x) is h in record {
            entries =
                omega (arith, room.entries);
            stints = omega (arith, room.stints);
            few = omega (arith, room.few);
          });
    }
