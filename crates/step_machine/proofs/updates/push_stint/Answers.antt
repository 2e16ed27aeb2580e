use Rattle.std.proofs.Common.{◌+◌, [], ◌∷◌, None, length, refl, ap, subst, arith, length-append}
use Rattle.step_machine.specs.declared.core_log.CoreLog.{CoreLog}
use Rattle.step_machine.specs.Inside.Logs.{LogHasRoom}
use Rattle.step_machine.proofs.LogLemmas.{found_at}
use Rattle.step_machine.proofs.updates.push_stint.Goals as goal

pub returns : goal.returns
returns c = λ before at.
    let was = c.index_mut-log.result.now in
    let is = found_at c.args.logs.now.items c.args.c was before at c.index_mut-log.ensures.value in
    record {
      log = record was {
        clock = c.args.stint.end;
        seen = None;
        stints = c.push_reserved.new.self;
        last = c.args.last;
      };
      becomes = refl;
      core = rw (is, c.push_reserved.ensures.items) refl;
      last_is = refl;
      room = λ rounds n h. (let room = subst (λ (x : CoreLog). LogHasRoom rounds (n + 1) x) is h in record {
        entries = omega (arith, room.entries);
        stints = omega (
          arith,
          ap length c.push_reserved.ensures.items,
          room.stints,
          c.push_reserved.ensures.capacity,
          length-append was.stints.items (c.args.stint ∷ []),
        );
        few = omega (
          arith,
          ap length c.push_reserved.ensures.items,
          room.few,
          length-append was.stints.items (c.args.stint ∷ []),
        );
      });
    }
