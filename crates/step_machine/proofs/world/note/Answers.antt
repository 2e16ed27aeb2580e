use Rattle.std.proofs.Common.{◌-◌, [], ◌∷◌, length, length-append, ap, arith}
use Rattle.step_machine.specs.Inside.Logs.{core_of_log}
use Rattle.step_machine.specs.Inside.MachineStates.{state_of_machine}
use Rattle.step_machine.specs.declared.mark.Mark.TheVariants.{Entered, Ran}
use Rattle.step_machine.proofs.LogLemmas.{core_at}
use Rattle.step_machine.proofs.MarkLemmas.{decide_there, entry_marked, log_read, run_there, stand_more, stint_marked}
use Rattle.step_machine.proofs.world.note.Goals as goal

pub overflow_cast-place : goal.overflow_cast-place
overflow_cast-place c =
    let p = c.args.machine.now in
    let core = c.in-Decide.core in
    let log = c.index-in-Decide.result.now in
    let made = c.requires.makes c.in-Done.is in
    let there = decide_there (state_of_machine p) core made.0 (rw c.in-Decide.is at made.1) in
    let at = log_read p.logs.items core log there (rw c.index.ensures.value at c.index-in-Decide.ensures) in
    omega (arith, c.len-count.ensures, c.requires.few core log at)

pub overflow_cast-place-in-Run : goal.overflow_cast-place-in-Run
overflow_cast-place-in-Run c =
    let p = c.args.machine.now in
    let core = c.in-Run.core in
    let log = c.index-in-Run-2.result.now in
    let made = c.requires.makes c.in-Done.is in
    let there = run_there (state_of_machine p) core made.0 (rw c.in-Run.is at made.1) in
    let at = log_read p.logs.items core log there (rw c.index-in-Run.ensures.value at c.index-in-Run-2.ensures) in
    omega (arith, c.len-count-in-Run.ensures, c.requires.few core log at)

pub returns-in-Decide : goal.returns-in-Decide
returns-in-Decide c =
    let p = c.args.machine.now in
    let core = c.in-Decide.core in
    let log = c.index-in-Decide.result.now in
    let made = c.requires.makes c.in-Done.is in
    let by = rw c.in-Decide.is at made.1 in
    let there = decide_there (state_of_machine p) core made.0 by in
    let at = log_read p.logs.items core log there (rw c.index.ensures.value at c.index-in-Decide.ensures) in
    let marked = entry_marked (state_of_machine p) core c.len-count.result (core_of_log log) c.args.marks.now.items made.0
    (core_at p.logs.items core log at) (omega (arith, c.len-count.ensures)) by in
    record {
      made = rw (c.in-Done.is, c.push_reserved.ensures.items) (made.0, made.1, marked.0);
      stand = λ stand. rw c.push_reserved.ensures.items (stand_more _ c.args.marks.now.items _ marked.1 stand);
      room = c.push_reserved.ensures.capacity;
      one = omega (
        arith,
        ap length c.push_reserved.ensures.items,
        length-append c.args.marks.now.items (Entered core (c.len-count.result - 1) ∷ []),
      );
    }

pub returns-in-Run : goal.returns-in-Run
returns-in-Run c =
    let p = c.args.machine.now in
    let core = c.in-Run.core in
    let log = c.index-in-Run-2.result.now in
    let made = c.requires.makes c.in-Done.is in
    let by = rw c.in-Run.is at made.1 in
    let there = run_there (state_of_machine p) core made.0 by in
    let at = log_read p.logs.items core log there (rw c.index-in-Run.ensures.value at c.index-in-Run-2.ensures) in
    let marked = stint_marked (state_of_machine p) core c.len-count-in-Run.result (core_of_log log) c.args.marks.now.items made.0
    (core_at p.logs.items core log at) (omega (arith, c.len-count-in-Run.ensures)) by in
    record {
      made = rw (c.in-Done.is, c.push_reserved-in-Run.ensures.items) (made.0, made.1, marked.0);
      stand = λ stand. rw c.push_reserved-in-Run.ensures.items (stand_more _ c.args.marks.now.items _ marked.1 stand);
      room = c.push_reserved-in-Run.ensures.capacity;
      one = omega (
        arith,
        ap length c.push_reserved-in-Run.ensures.items,
        length-append c.args.marks.now.items (Ran core (c.len-count-in-Run.result - 1) ∷ []),
      );
    }
