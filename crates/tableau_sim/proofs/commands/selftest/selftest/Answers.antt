use Rattle.std.proofs.Common.{Err, ◌≡◌, refl}
use Rattle.tab_words.specs.declared.command.RunMode.TheVariants.{Report}
use Rattle.tableau_sim.specs.Inside.Running.{RunsPrepared}
use Rattle.tableau_sim.specs.Seats.{LeavesSeat, OnSeat}
use Rattle.tableau_sim.specs.declared.reply.Stop.TheVariants as stop
use Rattle.tableau_sim.proofs.ReplyLemmas.{ended_of}
use Rattle.tableau_sim.proofs.RunLemmas.{can_be_written, prepared_test, test_reply}
use Rattle.tableau_sim.proofs.commands.selftest.selftest.Goals as goal

pub write_reply-status-requires : goal.write_reply-status-requires
write_reply-status-requires g c =
    let run = c.in-Ok.prepared in
    let old = c.args.seat.view in
    let new = c.run_prepared-seat.result.0.view in
    can_be_written (RunsPrepared 4 Report run.seed run.host run.script run.book new) (new ≡ old) old new
    c.run_prepared-seat.result.1 c.run_prepared-seat.ensures.makes

pub returns-in-Ok-clause-answers : goal.returns-in-Ok-clause-answers
returns-in-Ok-clause-answers g c = λ words source are.
    let old = c.args.seat.view in
    let new = c.run_prepared-seat.result.0.view in
    let reply = c.run_prepared-seat.result.1 in
    ended_of (OnSeat old new) (LeavesSeat old new) words source source _ _ c.write_reply-status.result.0
    c.write_reply-status.result.1 reply
    (test_reply c.args.seed old new words source reply are
    (prepared_test c.args.seed old new c.in-Ok.prepared reply c.in-Ok.ensures c.run_prepared-seat.ensures.makes))
    c.write_reply-status.ensures.written c.write_reply-status.ensures.host

pub returns-in-Err-clause-answers : goal.returns-in-Err-clause-answers
returns-in-Err-clause-answers g c = λ words source are.
    let view = c.args.seat.view in
    ended_of (OnSeat view view) (LeavesSeat view view) words source source _ _ c.write_reply-status-in-Err.result.0
    c.write_reply-status-in-Err.result.1 (Err stop.NoMemory)
    (test_reply c.args.seed view view words source (Err stop.NoMemory) are refl)
    c.write_reply-status-in-Err.ensures.written c.write_reply-status-in-Err.ensures.host
