use Rattle.tableau_sim.proofs.StopsLemmas.{script_stops_it}
use Rattle.tableau_sim.proofs.stops.script_of.Goals as goal

pub returns-in-Err-read_script-clause-stop : goal.returns-in-Err-read_script-clause-stop
returns-in-Err-read_script-clause-stop c = rw c.stop_of_script.ensures
    (script_stops_it c.args.rounds c.args.sections.now c.in-Ok.host c.in-Err-read_script.fault
    (rw c.part.ensures at c.in-Ok.ensures.ok) (rw c.part-2.ensures at c.in-Err-read_script.ensures.fault))
