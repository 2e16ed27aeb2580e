use Rattle.std.proofs.Common.{length, refl, ap, sym, subst, arith}
use Rattle.table_form.specs.Running.State.{State}
use Rattle.table_form.specs.Running.Invariant.{StateInvariant}
use Rattle.std.proofs.lemmas.List.Elements.{All-nil}
use Rattle.step_machine.specs.Inside.Logs.{cores_of_logs, AreLogsNew}
use Rattle.step_machine.specs.Inside.Marks.{IsMarkThere}
use Rattle.step_machine.proofs.RunLemmas.{new_state, new_know, new_room, opening_kept}
use Rattle.step_machine.proofs.world.World.make.Goals as goal

pub invariant_of-result : goal.invariant_of-result
invariant_of-result c =
    let course = c.args.course.now in
    let logs = c.in_ok-logs.logs in
    let new : AreLogsNew course.cores c.args.rounds c.args.turns logs.items =
    rw c.cores.ensures.cores at c.in_ok-logs.ensures in
    record {
      sliced = c.in_ok-slices.ensures;
      course_kept = c.cores.ensures.kept;
      fits = c.requires;
      kept = subst (λ (s : State). StateInvariant course c.args.rounds s)
          (sym (new_state course.cores c.args.rounds c.args.turns
          (record { posted = 0; decided = c.in_ok-decided.decided; logs = logs }) refl
          c.in_ok-decided.ensures.items new)) (opening_kept course c.args.rounds);
      room = record {
        decided = omega (
          arith,
          ap length c.in_ok-decided.ensures.items,
          c.in_ok-decided.ensures.exact,
        );
        logs = new_room course.cores c.args.rounds c.args.turns logs.items new;
      };
      marks_room = omega (arith, ap length c.in_ok-marks.ensures.items, c.in_ok-marks.ensures.exact);
      stand = rw c.in_ok-marks.ensures.items (All-nil (IsMarkThere (cores_of_logs logs.items)));
      last = new_know course course.cores c.args.rounds c.args.turns logs.items new;
    }

pub returns-clause-opens : goal.returns-clause-opens
returns-clause-opens c =
    let course = c.args.course.now in
    let logs = c.in_ok-logs.logs in
    let new : AreLogsNew course.cores c.args.rounds c.args.turns logs.items =
    rw c.cores.ensures.cores at c.in_ok-logs.ensures in
    rw (
      new_state course.cores c.args.rounds c.args.turns
          (record { posted = 0; decided = c.in_ok-decided.decided; logs = logs }) refl
          c.in_ok-decided.ensures.items new,
      c.in_ok-marks.ensures.items,
    ) refl

pub returns-clause-kept : goal.returns-clause-kept
returns-clause-kept c =
    let course = c.args.course.now in
    let logs = c.in_ok-logs.logs in
    let new : AreLogsNew course.cores c.args.rounds c.args.turns logs.items =
    rw c.cores.ensures.cores at c.in_ok-logs.ensures in
    subst (λ (s : State). StateInvariant course c.args.rounds s)
    (sym (new_state course.cores c.args.rounds c.args.turns
    (record { posted = 0; decided = c.in_ok-decided.decided; logs = logs }) refl
    c.in_ok-decided.ensures.items new)) (opening_kept course c.args.rounds)
