use Rattle.std.proofs.Common.{Err, ◌≡◌, subst}
use Rattle.tab_words.specs.declared.command.RunMode.TheVariants.{Live}
use Rattle.tab_words.specs.Sections.{sections_of}
use Rattle.tableau_sim.specs.Inside.Reply.{IsReadyTo}
use Rattle.tableau_sim.specs.Inside.Running.{RunsPrepared, RunsSections}
use Rattle.tableau_sim.specs.Seats.{LeavesRun, LeavesSeat, OnSeat}
use Rattle.tableau_sim.specs.Sections.{host_section}
use Rattle.tableau_sim.specs.declared.commands.run.Ready.TheVariants as readied
use Rattle.tableau_sim.proofs.BesideLemmas.{beside_reply}
use Rattle.tableau_sim.proofs.ReplyLemmas.{ended_of}
use Rattle.tableau_sim.proofs.RunLemmas.{can_be_written, prepared_has, prepared_reply, run_reply}
use Rattle.tableau_sim.proofs.commands.run.run.Goals as goal

pub run_prepared-seat-requires-clause-prepared : goal.run_prepared-seat-requires-clause-prepared
run_prepared-seat-requires-clause-prepared g c = λ lifetimes outlive.
    let arm = c.in-Ok-Prepared in
    let ready : IsReadyTo c.args.rounds c.args.mode _ _ (readied.Prepared arm.prepared) =
    subst (IsReadyTo c.args.rounds c.args.mode _ _) arm.field-0-is arm.ensures.ok in
    ready.is.of.0

pub write_reply-status-requires : goal.write_reply-status-requires
write_reply-status-requires g c =
    let run = c.in-Ok-Prepared.prepared in
    let old = c.args.seat.view in
    let new = c.run_prepared-seat.result.0.view in
    can_be_written (RunsPrepared c.args.rounds c.args.mode run.seed run.host run.script run.book new) (new ≡ old) old new
    c.run_prepared-seat.result.1 c.run_prepared-seat.ensures.makes

pub returns-in-Ok-Prepared-clause-answers : goal.returns-in-Ok-Prepared-clause-answers
returns-in-Ok-Prepared-clause-answers g c = λ words are.
    let arm = c.in-Ok-Prepared in
    let ready : IsReadyTo c.args.rounds c.args.mode _ _ (readied.Prepared arm.prepared) =
    subst (IsReadyTo c.args.rounds c.args.mode _ _) arm.field-0-is arm.ensures.ok in
    let old = c.args.seat.view in
    let new = c.run_prepared-seat.result.0.view in
    let reply = c.run_prepared-seat.result.1 in
    ended_of (OnSeat old new) (LeavesSeat old new) words _ _ _ _ c.write_reply-status.result.0
    c.write_reply-status.result.1 reply
    (run_reply c.args.rounds c.args.mode old new words _ _ ready.input reply are ready.has ready.is.two
    (prepared_reply c.args.rounds c.args.mode old new (sections_of ready.input) arm.prepared reply ready.is.of
    c.run_prepared-seat.ensures.makes)
    (prepared_has c.args.rounds c.args.mode arm.prepared (new ≡ old) old new (host_section (sections_of ready.input)) reply
    c.run_prepared-seat.ensures.makes)) c.write_reply-status.ensures.written c.write_reply-status.ensures.host

pub run_beside-seat-requires-clause-within : goal.run_beside-seat-requires-clause-within
run_beside-seat-requires-clause-within g c = λ lifetimes outlive.
    let arm = c.in-Ok-Beside in
    let ready : IsReadyTo c.args.rounds c.args.mode _ _ (readied.Beside arm.host arm.script) =
    subst (IsReadyTo c.args.rounds c.args.mode _ _) arm.field-0-is arm.ensures.ok in
    ready.is.of.1

pub run_beside-seat-requires-clause-in_run : goal.run_beside-seat-requires-clause-in_run
run_beside-seat-requires-clause-in_run g c = λ lifetimes outlive.
    let arm = c.in-Ok-Beside in
    let ready : IsReadyTo c.args.rounds c.args.mode _ _ (readied.Beside arm.host arm.script) =
    subst (IsReadyTo c.args.rounds c.args.mode _ _) arm.field-0-is arm.ensures.ok in
    ready.is.of.2

pub write_reply-status-requires-in-Ok-Beside : goal.write_reply-status-requires-in-Ok-Beside
write_reply-status-requires-in-Ok-Beside g c =
    let arm = c.in-Ok-Beside in
    let ready : IsReadyTo c.args.rounds c.args.mode _ _ (readied.Beside arm.host arm.script) =
    subst (IsReadyTo c.args.rounds c.args.mode _ _) arm.field-0-is arm.ensures.ok in
    let sections = sections_of ready.input in
    let old = c.args.seat.view in
    let new = c.run_beside-seat.result.0.view in
    can_be_written (RunsSections c.args.rounds Live new sections) (LeavesRun c.args.rounds Live old new sections) old new
    c.run_beside-seat.result.1 (c.run_beside-seat.ensures.makes sections ready.is.of.3)

pub returns-in-Ok-Beside-clause-answers : goal.returns-in-Ok-Beside-clause-answers
returns-in-Ok-Beside-clause-answers g c = λ words are.
    let arm = c.in-Ok-Beside in
    let ready : IsReadyTo c.args.rounds c.args.mode _ _ (readied.Beside arm.host arm.script) =
    subst (IsReadyTo c.args.rounds c.args.mode _ _) arm.field-0-is arm.ensures.ok in
    let sections = sections_of ready.input in
    let old = c.args.seat.view in
    let new = c.run_beside-seat.result.0.view in
    let reply = c.run_beside-seat.result.1 in
    ended_of (OnSeat old new) (LeavesSeat old new) words _ _ _ _ c.write_reply-status-in-Ok-Beside.result.0
    c.write_reply-status-in-Ok-Beside.result.1 reply
    (run_reply c.args.rounds c.args.mode old new words _ _ ready.input reply are ready.has ready.is.two
    (beside_reply c.args.rounds c.args.mode old new sections arm.host arm.script reply ready.is.of
    (c.run_beside-seat.ensures.makes sections ready.is.of.3)) (c.run_beside-seat.ensures.host sections ready.is.of.3))
    c.write_reply-status-in-Ok-Beside.ensures.written c.write_reply-status-in-Ok-Beside.ensures.host

pub returns-in-Err-clause-answers : goal.returns-in-Err-clause-answers
returns-in-Err-clause-answers g c = λ words are.
    let view = c.args.seat.view in
    ended_of (OnSeat view view) (LeavesSeat view view) words _ _ _ _ c.write_reply-status-in-Err.result.0
    c.write_reply-status-in-Err.result.1 (Err c.in-Err.stop)
    (c.in-Err.ensures.stop words view are) c.write_reply-status-in-Err.ensures.written c.write_reply-status-in-Err.ensures.host
