use Rattle.std.proofs.Common.{inl, inr, [], ◌∷◌, length, refl, ap, arith, length-append}
use Rattle.std.proofs.lemmas.Option.{slice_get_read}
use Rattle.step_machine.specs.Inside.Logs.{core_of_log}
use Rattle.step_machine.proofs.LogLemmas.{core_at, cores_edited, rooms_edited}
use Rattle.run_promises.proofs.OneTableLemmas.{entered_counted}
use Rattle.step_machine.proofs.MachineStateLemmas.{log_at_core, log_kept, last_edited, starts_round, round_small, entry_room}
use Rattle.step_machine.proofs.steps.enter.Goals as goal

pub returns-then-round-len-clause-answer : goal.returns-then-round-len-clause-answer
returns-then-round-len-clause-answer c =
    let p = c.args.machine.now in
    let found = log_at_core c.args.course.now c.args.rounds p c.args.c c.requires.kept c.requires.core in
    let log = found.0 in
    let due = c.requires.due (core_of_log log) (core_at p.logs.items c.args.c log found.1) in
    let edits = c.push_entry.ensures log found.1 in
    inr (record {
      round = record {
        core = core_of_log log;
        at = core_at p.logs.items c.args.c log found.1;
        seen = c.args.seen;
        has_seen = due.1;
        due = due.0;
        start = starts_round c.args.course.now c.args.rounds p c.args.c log c.requires.kept found.1 due.0;
      };
      used = c.index-used.result.now;
      count = rw (← due.2) (slice_get_read p.decided.items
          (length p.decided.items) c.args.round c.index-used.result.now refl
          (omega arith) c.index-used.ensures);
      becomes =
          rw (
            cores_edited p.logs.items c.push_entry.new.logs.items c.args.c log _ log.last edits,
            due.2,
          ) refl;
    })

pub returns-then-round-len-clause-spare : goal.returns-then-round-len-clause-spare
returns-then-round-len-clause-spare c = λ n spare.
    let p = c.args.machine.now in
    let found = log_at_core c.args.course.now c.args.rounds p c.args.c c.requires.kept c.requires.core in
    record {
      decided = omega (arith, spare.decided);
      logs = rooms_edited c.args.rounds n p.logs.items c.push_entry.new.logs.items c.args.c found.0
          _ found.0.last found.1 (c.push_entry.ensures found.0 found.1) spare.logs;
    }

pub returns-then-round-len-clause-last : goal.returns-then-round-len-clause-last
returns-then-round-len-clause-last c = λ know.
    let p = c.args.machine.now in
    let found = log_at_core c.args.course.now c.args.rounds p c.args.c c.requires.kept c.requires.core in
    last_edited c.args.course.now p.logs.items c.push_entry.new.logs.items c.args.c found.0 _
    found.0.last (c.push_entry.ensures found.0 found.1) (know c.args.c found.0 found.1) know

pub returns-else-round-len-clause-answer : goal.returns-else-round-len-clause-answer
returns-else-round-len-clause-answer c =
    let p = c.args.machine.now in
    let found = log_at_core c.args.course.now c.args.rounds p c.args.c c.requires.kept c.requires.core in
    let log = found.0 in
    let due = c.requires.due (core_of_log log) (core_at p.logs.items c.args.c log found.1) in
    let edits = c.push_entry-else-round-len.ensures log found.1 in
    let start = starts_round c.args.course.now c.args.rounds p c.args.c log c.requires.kept found.1 due.0 in
    let kept = log_kept c.args.course.now c.args.rounds p c.args.c log c.requires.kept found.1 in
    inl (record {
      round = record {
        core = core_of_log log;
        at = core_at p.logs.items c.args.c log found.1;
        seen = c.args.seen;
        has_seen = due.1;
        due = due.0;
        start = start;
      };
      first = omega (
        arith,
        entered_counted p.decided.items (core_of_log log)
            (c.requires.kept.table.cores c.args.c (core_of_log log) (core_at p.logs.items c.args.c log found.1)),
        kept.timeline.reach,
        kept.timeline.ahead,
        due.2,
      );
      becomes =
          rw (
            cores_edited p.logs.items c.push_entry-else-round-len.new.logs.items c.args.c log _
                log.last edits,
            due.2,
            c.push_reserved.ensures.items,
          ) refl;
    })

pub returns-else-round-len-clause-spare : goal.returns-else-round-len-clause-spare
returns-else-round-len-clause-spare c = λ n spare.
    let p = c.args.machine.now in
    let found = log_at_core c.args.course.now c.args.rounds p c.args.c c.requires.kept c.requires.core in
    record {
      decided = omega (
        arith,
        spare.decided,
        ap length c.push_reserved.ensures.items,
        c.push_reserved.ensures.capacity,
        length-append p.decided.items (c.args.seen ∷ []),
      );
      logs = rooms_edited c.args.rounds n p.logs.items c.push_entry-else-round-len.new.logs.items
          c.args.c found.0 _ found.0.last found.1
          (c.push_entry-else-round-len.ensures found.0 found.1) spare.logs;
    }

pub returns-else-round-len-clause-last : goal.returns-else-round-len-clause-last
returns-else-round-len-clause-last c = λ know.
    let p = c.args.machine.now in
    let found = log_at_core c.args.course.now c.args.rounds p c.args.c c.requires.kept c.requires.core in
    last_edited c.args.course.now p.logs.items c.push_entry-else-round-len.new.logs.items c.args.c
    found.0 _ found.0.last (c.push_entry-else-round-len.ensures found.0 found.1)
    (know c.args.c found.0 found.1) know

pub push_entry-requires-clause-room : goal.push_entry-requires-clause-room
push_entry-requires-clause-room c = λ log at.
    let p = c.args.machine.now in
    entry_room c.args.course.now c.args.rounds p c.args.c log c.requires.kept c.requires.spare at
    (c.requires.due (core_of_log log) (core_at p.logs.items c.args.c log at)).0

pub push_entry-requires-else-round-len-clause-room : goal.push_entry-requires-else-round-len-clause-room
push_entry-requires-else-round-len-clause-room c = λ log at.
    let p = c.args.machine.now in
    entry_room c.args.course.now c.args.rounds p c.args.c log c.requires.kept c.requires.spare at
    (c.requires.due (core_of_log log) (core_at p.logs.items c.args.c log at)).0

pub push_reserved-requires : goal.push_reserved-requires
push_reserved-requires c =
    let p = c.args.machine.now in
    let found = log_at_core c.args.course.now c.args.rounds p c.args.c c.requires.kept c.requires.core in
    let due = c.requires.due (core_of_log found.0) (core_at p.logs.items c.args.c found.0 found.1) in
    let small = round_small c.args.course.now c.args.rounds p c.args.c found.0 c.requires.kept
    found.1 due.0 in
    omega (arith, c.requires.spare.decided, due.2)
