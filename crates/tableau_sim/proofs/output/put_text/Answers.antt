use Rattle.tableau_sim.proofs.output.put_text.Goals as goal

pub returns-in-RunBeside : goal.returns-in-RunBeside
returns-in-RunBeside g c = rw c.in-RunBeside.is c.write_run.ensures
