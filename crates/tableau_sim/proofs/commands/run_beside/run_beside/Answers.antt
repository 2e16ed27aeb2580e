use Rattle.tableau_sim.specs.Sections.{host_section}
use Rattle.tableau_sim.proofs.BesideLemmas.{left_live, live_keeps, ran_live, told_live}
use Rattle.tableau_sim.proofs.commands.run_beside.run_beside.Goals as goal

pub returns-in-Ok-clause-makes : goal.returns-in-Ok-clause-makes
returns-in-Ok-clause-makes g c = λ sections script.
    let ran = c.in-Ok.ensures.ran in (
      ran_live c.args.rounds c.args.host c.args.script c.in-Ok.seat.view c.in-Ok.ran ran sections script,
      told_live c.args.rounds c.args.host c.args.script c.in-Ok.seat.view c.in-Ok.ran ran,
    )

pub returns-clause-makes : goal.returns-clause-makes
returns-clause-makes g c = λ sections script.
    rw c.stop_of_live.ensures (left_live c.args.rounds c.args.seat.view c.in-Err.seat.view sections c.args.host c.args.script
    c.in-Err.fault script c.requires.opening c.in-Err.ensures.left)

pub returns-clause-host : goal.returns-clause-host
returns-clause-host g c = λ sections script.
    rw c.stop_of_live.ensures (live_keeps (host_section sections) c.args.host c.in-Err.fault script.is_host)
