use Rattle.std.proofs.Common.{ap, Err}
use Rattle.tableau_sim.specs.Hosts.OfHost.{Hosted}
use Rattle.tableau_sim.specs.Replay.{Replays}
use Rattle.tableau_sim.specs.Scripts.OfScript.{Scripted}
use Rattle.tableau_sim.specs.Sections.{host_section}
use Rattle.tableau_sim.proofs.ReplyLemmas.{made_of_script, made_of_steps}
use Rattle.tableau_sim.proofs.StopsLemmas.{script_stopped}
use Rattle.tableau_sim.proofs.commands.replay.replay_of.Goals as goal

pub returns-in-Err : goal.returns-in-Err
returns-in-Err c = script_stopped c.args.rounds (Replays c.args.rounds) c.args.sections.now c.in-Err.stop c.in-Err.ensures.stop

pub returns-in-Err-BadLine : goal.returns-in-Err-BadLine
returns-in-Err-BadLine c =
    let script = c.in-Ok.ensures.ok in
    rw (c.stopped.ensures, c.in-Err-BadLine.field-0-is) (
      Hosted c.in-Ok.read.0 _ script.is_host (Scripted c.in-Ok.read.1 _ script.is_script (Replays.BadStep c.in-Err-BadLine.line
          (rw c.part.ensures at (c.in-Err-BadLine.ensures.bad_line c.in-Err-BadLine.line (ap Err c.in-Err-BadLine.field-0-is))))),
      tt {0},
    )

pub returns : goal.returns
returns c =
    let script = c.in-Ok.ensures.ok in
    made_of_script c.args.rounds (Replays c.args.rounds) c.args.sections.now c.in-Ok.read.0 c.in-Ok.read.1 _ script
    (made_of_steps c.args.rounds c.in-Ok.read.0 c.in-Ok.read.1 _ _ c.args.sections.now _
    (rw c.part.ensures at c.in-Ok-read_steps.ensures.ok)
    (c.replay_of_parts.ensures (host_section c.args.sections.now) script.is_host))
