use Rattle.std.proofs.Common.{◌+◌, [], ◌∷◌, length, refl, ap, subst, arith, length-append}
use Rattle.step_machine.specs.declared.core_log.CoreLog.{CoreLog}
use Rattle.step_machine.specs.Inside.Logs.{LogHasRoom}
use Rattle.step_machine.proofs.LogLemmas.{found_at}
use Rattle.step_machine.proofs.updates.push_entry.Goals as goal

pub returns : goal.returns
returns c = λ before at.
    let was = c.index_mut.result.now in
    let is = found_at c.args.logs.now.items c.args.c was before at c.index_mut.ensures.value in
    record {
      log = record was { entries = c.push_reserved.new.self };
      becomes = refl;
      core = rw (is, c.push_reserved.ensures.items) refl;
      last_is = rw is refl;
      room = λ rounds n h. (let room = subst (λ (x : CoreLog). LogHasRoom rounds (n + 1) x) is h in record {
        entries = omega (
          arith,
          ap length c.push_reserved.ensures.items,
          room.entries,
          c.push_reserved.ensures.capacity,
          length-append was.entries.items (c.args.entry ∷ []),
        );
        stints = omega (arith, room.stints);
        few = omega (
          arith,
          ap length c.push_reserved.ensures.items,
          room.few,
          length-append was.entries.items (c.args.entry ∷ []),
        );
      });
    }
