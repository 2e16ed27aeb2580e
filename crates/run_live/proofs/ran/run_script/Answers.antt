use Rattle.std.proofs.Common.{ℕ, None, ◌∙◌, subst}
use Rattle.round_words.specs.Seats.{view_of}
use Rattle.run_live.specs.Inside.Readies.{LiveCrewHasRun}
use Rattle.run_live.proofs.LiveRunsLemmas.{ran_so_far}
use Rattle.run_live.proofs.ran.run_script.Goals as goal

pub told-requires-clause-ran : goal.told-requires-clause-ran
told-requires-clause-ran g c =
    let v = view_of c.run_ready-seat.result.0 in
    let crew = c.run_ready-seat.result.1 in
    let whole = c.in-Ok-whole_actors.ensures in
    record {
      crew = crew;
      ran = subst (λ (n : ℕ). LiveCrewHasRun c.in-Ok.live n crew v None) c.in-Ok-crew_for.ensures.rounds_are
          (subst (LiveCrewHasRun c.in-Ok.live c.in-Ok-crew_for.crew.rounds crew v) whole.0 c.run_ready-seat.ensures.ran);
      are = c.deref.ensures.value ∙ whole.1;
    }

pub returns-in_default-whole_actors-clause-left : goal.returns-in_default-whole_actors-clause-left
returns-in_default-whole_actors-clause-left g c =
    let crew = c.run_ready-seat.result.1 in
    let v = view_of c.run_ready-seat.result.0 in
    ran_so_far c.in-Ok.live c.args.host.now c.args.script.now c.args.rounds crew v c.run_ready-seat.result.2 c.in-Ok.ensures.ok
    (subst (λ (n : ℕ). LiveCrewHasRun c.in-Ok.live n crew v c.run_ready-seat.result.2) c.in-Ok-crew_for.ensures.rounds_are c.run_ready-seat.ensures.ran)

pub returns-clause-left : goal.returns-clause-left
returns-clause-left g c =
    let crew = c.run_ready-seat.result.1 in
    let v = view_of c.run_ready-seat.result.0 in
    ran_so_far c.in-Ok.live c.args.host.now c.args.script.now c.args.rounds crew v c.run_ready-seat.result.2 c.in-Ok.ensures.ok
    (subst (λ (n : ℕ). LiveCrewHasRun c.in-Ok.live n crew v c.run_ready-seat.result.2) c.in-Ok-crew_for.ensures.rounds_are c.run_ready-seat.ensures.ran)
