use Rattle.std.proofs.Common.{◌≡◌, ◌+◌, ◌-◌, ◌≤◌, ap, sym, ◌∙◌, arith}
use Rattle.step_machine.specs.Worlds.{WorldView}
use Rattle.step_machine.specs.Inside.Logs.{cores_of_logs}
use Rattle.step_machine.specs.Inside.MachineStates.{state_of_machine}
use Rattle.step_machine.specs.Inside.Marks.{all_made}
use Rattle.step_machine.proofs.MachineStateLemmas.{spare_some}
use Rattle.step_machine.proofs.MarkLemmas.{all_made_still, all_stand_still, answers_grow}
use Rattle.step_machine.proofs.RunLemmas.{answers_keep}
use Rattle.step_machine.proofs.TraceLemmas.{makes_done}
use Rattle.step_machine.proofs.world.World.apply.Goals as goal

pub take_step-answer-requires-clause-spare : goal.take_step-answer-requires-clause-spare
take_step-answer-requires-clause-spare c =
    let was = c.self.inside in
    let spare = ap (λ (w : WorldView). w.spare) c.self.view_is in
    let some : 1 ≤ was.spare = (let more = c.requires.spare in omega arith) in
    spare_some was.rounds was.spare was.machine some c.self.invariant.room

pub invariant_of-self : goal.invariant_of-self
invariant_of-self c =
    let was = c.self.inside in
    let kept = c.self.invariant in
    let spare = ap (λ (w : WorldView). w.spare) c.self.view_is in
    let back : was.spare ≡ (was.spare - 1) + 1 = (let some = c.requires.spare in omega arith) in
    record {
      sliced = kept.sliced;
      course_kept = kept.course_kept;
      fits = kept.fits;
      kept = answers_keep was.course.now was.rounds
          (state_of_machine was.machine) c.args.step c.take_step-answer.result
          (state_of_machine c.take_step-answer.new.machine) kept.course_kept
          c.take_step-answer.ensures.answer kept.kept;
      room = c.take_step-answer.ensures.spare (was.spare - 1) (rw (← back) kept.room);
      marks_room = omega (arith, kept.marks_room, c.note.ensures.one, c.note.ensures.room);
      stand = c.note.ensures.stand (all_stand_still _ _ was.marks.items
          (answers_grow was.course.now was.rounds (state_of_machine was.machine) c.args.step c.take_step-answer.result
          (state_of_machine c.take_step-answer.new.machine) c.take_step-answer.ensures.answer) kept.stand);
      last = c.take_step-answer.ensures.last kept.last;
    }

pub note-requires-clause-makes : goal.note-requires-clause-makes
note-requires-clause-makes c = λ done.
    let was = c.self.inside in
    makes_done was.course.now was.rounds (state_of_machine was.machine) c.args.step c.take_step-answer.result
    (state_of_machine c.take_step-answer.new.machine) c.take_step-answer.ensures.answer done

pub note-requires-clause-few : goal.note-requires-clause-few
note-requires-clause-few c = λ k log h.
    let was = c.self.inside in
    let spare = ap (λ (w : WorldView). w.spare) c.self.view_is in
    let back : was.spare ≡ (was.spare - 1) + 1 = (let some = c.requires.spare in omega arith) in
    let room = c.take_step-answer.ensures.spare (was.spare - 1) (rw (← back) c.self.invariant.room) in
    let few = (room.logs k log h).few in
    omega (arith, few)

pub returns-clause-made : goal.returns-clause-made
returns-clause-made c =
    let was = c.self.inside in
    let new = c.take_step-answer.new.machine in
    let grown = answers_grow was.course.now was.rounds (state_of_machine was.machine) c.args.step c.take_step-answer.result
    (state_of_machine new) c.take_step-answer.ensures.answer in
    let same : c.args.self.now.made ≡ all_made (cores_of_logs new.logs.items) was.marks.items =
    sym (ap (λ (w : WorldView). w.made) c.self.view_is)
    ∙ sym (all_made_still _ _ was.marks.items grown c.self.invariant.stand) in
    rw same c.note.ensures.made

pub returns-clause-kept : goal.returns-clause-kept
returns-clause-kept c =
    let was = c.self.inside in
    let kept = c.self.invariant in
    answers_keep was.course.now was.rounds
    (state_of_machine was.machine) c.args.step c.take_step-answer.result
    (state_of_machine c.take_step-answer.new.machine) kept.course_kept
    c.take_step-answer.ensures.answer kept.kept
