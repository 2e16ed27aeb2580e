use Rattle.round_words.specs.Seats.{view_of}
use Rattle.crew_turns.proofs.GoingLemmas.{actors_twice}
use Rattle.crew_turns.proofs.TurnLemmas.{same_twice}
use Rattle.live_plan.specs.Players.{live_core_kind, live_lead_kind}
use Rattle.live_plan.specs.PlayerLaws.{live_core_lawful, live_lead_lawful}
use Rattle.live_plan.proofs.workers.finish.Goals as goal

pub loop-preserved : goal.loop-preserved
loop-preserved g c =
    let i = c.loop.invariant in
    let e = c.drive_all.ensures in record {
      board = e.board;
      agreed = e.agreed;
      same = same_twice live_core_kind live_lead_kind live_core_lawful live_lead_lawful c.args.members.now c.loop.members c.drive_all.new.cores c.args.lead.now c.loop.lead c.drive_all.new.lead i.same e.same;
      actors = actors_twice (view_of c.args.seat.now) (view_of c.loop.seat) (view_of c.drive_all.new.seat) i.actors e.actors;
    }

pub returns-in-Ended-clause-same : goal.returns-in-Ended-clause-same
returns-in-Ended-clause-same g c =
    same_twice live_core_kind live_lead_kind live_core_lawful live_lead_lawful c.args.members.now c.loop.members c.drive_all.new.cores c.args.lead.now c.loop.lead c.drive_all.new.lead
    c.loop.invariant.same c.drive_all.ensures.same
