use Rattle.std.proofs.Common.{refl}
use Rattle.tab_words.specs.declared.command.Command.TheVariants as called
use Rattle.tableau_sim.specs.Seats.{LeavesSeat, OnSeat}
use Rattle.tableau_sim.proofs.ReplyLemmas.{input_still, no_input_reply}
use Rattle.tableau_sim.proofs.RunLemmas.{ready_read, stop_read}
use Rattle.tableau_sim.proofs.SeatsLemmas.{seat_left}
use Rattle.tableau_sim.proofs.commands.run.ready_to_run.Goals as goal

pub returns-in-Err-clause-stop : goal.returns-in-Err-clause-stop
returns-in-Err-clause-stop g c = λ words view are.
    no_input_reply (OnSeat view view) (LeavesSeat view view) words _ _ (called.Run c.args.rounds c.args.mode) c.in-Err.stop
    are refl (λ due part. seat_left view view due part refl) c.in-Err.ensures.stop

pub returns-in-Ok-clause-ok : goal.returns-in-Ok-clause-ok
returns-in-Ok-clause-ok g c = ready_read c.args.rounds c.args.mode _ _ _ c.ready_for-ready.result
    (input_still _ _ _ _ _ c.take_back.ensures.same c.deref.ensures.value c.in-Ok.ensures.ok) c.ready_for-ready.ensures.ok

pub returns-in-Ok-clause-stop : goal.returns-in-Ok-clause-stop
returns-in-Ok-clause-stop g c = stop_read c.args.rounds c.args.mode _ _ _ c.ready_for-ready.result
    (input_still _ _ _ _ _ c.take_back.ensures.same c.deref.ensures.value c.in-Ok.ensures.ok) c.ready_for-ready.ensures.stop
